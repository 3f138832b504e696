-- A call on a register and a book that have their lengths, stage by stage.
-- Assumes nothing.
use Rattle.std.specs.Prelude.{ℕ, ◌+◌, ◌%◌, ◌<◌, ◌≡◌, true, List, [], ◌∷◌, length, Result, Ok, Err}
use Rattle.laws.specs.Tests.{ladder}
use Rattle.laws.specs.Counting.{sum}
use Rattle.limits.specs.Limits.{slot_times, records}
use Rattle.numbers.specs.declared.Refusal.{Refusal}
use Rattle.numbers.specs.declared.Refusal.TheVariants.{NotOwn}
use Rattle.message.specs.declared.state.SubMessage.{SubMessage}
use Rattle.ship.specs.declared.Station.{Station}
use Rattle.plan.specs.declared.Plan.{Plan}
use Rattle.book.specs.declared.Watch.{Watch}
use Rattle.book.specs.Book.{ours, put_at, released, Puts, Gives}
use Rattle.book.specs.Planning.{plan_fits}
use Rattle.walks.specs.Out.{Out, out}
use Rattle.register.specs.declared.Turn.{Turn}
use Rattle.register.specs.declared.Reply.{Reply}
use Rattle.register.specs.declared.Answer.{Answer}
use Rattle.register.specs.declared.Answer.TheVariants.{Passed, Planned, Set, Report as Reported, Begun, Sum as Summed}
use Rattle.register.specs.State.{State, state_of, new_state, tallies_in, passes}
use Rattle.register.specs.Register.{slid}
use Rattle.register.specs.Answers.{Answered, answered, no, out_of}
use Rattle.reporting.specs.declared.Time.{Time}
use Rattle.reporting.specs.Report.{own_at, reported}
use Rattle.hearing.specs.Hear.{heard_answer}
use Rattle.choosing.specs.declared.Wanted.{Wanted}
use Rattle.choosing.specs.declared.own.Owning.{Owning}
use Rattle.choosing.specs.Choosing.{ask_fits}
use Rattle.choosing.specs.Scanning.{asked, scanned, judged}
use Rattle.choosing.specs.Choose.{draw_tests, chooses}
use Rattle.choosing.specs.Owning.{owning_of}
use Rattle.calls.specs.declared.told.Task.{Task}
use Rattle.calls.specs.declared.told.Task.TheVariants as task
use Rattle.calls.specs.declared.told.Case.{Case}
use Rattle.calls.specs.Calls.{planned, owning, reports}

-- ---- what is left to be done, on a state whose lengths are right

unfoldable pub done_task : Result Task Refusal → State → Answered
done_task (Err r) s = no s r
done_task (Ok task.Nothing) s = answered Passed s
done_task (Ok (task.Hear x)) s = heard_answer s x
done_task (Ok (task.Plan p)) s = answered Planned (planned s p)
done_task (Ok (task.Own o)) s = answered Set (owning s o)
done_task (Ok (task.Choose a)) s = ladder (draw_tests s a) (chooses s a)
done_task (Ok (task.Report t)) s = ladder ((own_at s.book s.watch.present 0, no s NotOwn) ∷ []) (reports s t)
done_task (Ok task.New) s = answered Begun (new_state slot_times records)
done_task (Ok task.Sum) s = answered (Summed (sum (tallies_in s.reg))) s

-- ---- what the stages need

pub record Sized (reg : List Station) (book : List ℕ) : Type 0 where
  pub register : length reg ≡ records
  pub size : length book ≡ slot_times

-- what is done on register and book has them with their lengths; a choice and a report have a plan, and a choice asks for one of its windows
abbrev pub FitTask : Result Task Refusal → Plan → List Station → List ℕ → Type 0
FitTask (Err r) p reg book = Unit {0}
FitTask (Ok task.Nothing) p reg book = Unit {0}
FitTask (Ok (task.Hear x)) p reg book = Sized reg book
FitTask (Ok (task.Plan q)) p reg book = Sized reg book
FitTask (Ok (task.Own o)) p reg book = Unit {0}
FitTask (Ok (task.Choose a)) p reg book = Sized reg book × (plan_fits p.rate p.start ≡ true) × (ask_fits p a ≡ true)
FitTask (Ok (task.Report t)) p reg book = Sized reg book × (plan_fits p.rate p.start ≡ true)
FitTask (Ok task.New) p reg book = Sized reg book
FitTask (Ok task.Sum) p reg book = Sized reg book

pub record Fit (reg : List Station) (book : List ℕ) (c : Case) : Type 0 where
  pub sized : 0 < c.passes → Sized reg book
  pub fits : FitTask c.task c.watch.channel.plan reg book

-- ---- a choice

-- what comes of its draw
abbrev pub drawn_by : List Station → List ℕ → Watch → Wanted → Result Owning Refusal
drawn_by reg book w a = let q = asked book w a in owning_of q (judged book q (scanned reg book q))

-- ---- slots that pass

abbrev pub started : Watch → ℕ → Turn
started w n = record { handing = record { counts = w.channel.counts; old = 0; new = 0 }; at = w.present; left = n; marks = 0 }

pub record PassesOne (book : List ℕ) (t r : Turn) (book' : List ℕ) : Type 0 where
  pub puts : Puts (λ b. put_at b (t.at % slot_times) 0) book t.handing.counts r.handing book'
  pub nobody : r.handing.new ≡ 0
  pub next : r.at ≡ (t.at % slot_times + 1) % slot_times
  pub less : r.left + 1 ≡ t.left

-- where the slots that pass stand at the turn t, with the register zs and the book cs
abbrev pub standing : Watch → Turn → List Station → List ℕ → State
standing w t zs cs =
    state_of zs cs (record { present = t.at; channel = record { counts = t.handing.counts; plan = w.channel.plan }; ship = w.ship })

-- i of the n slots have passed
pub record Upto (w : Watch) (n : ℕ) (ys : List Station) (bs : List ℕ) (t : Turn) (zs : List Station) (cs : List ℕ) : Type 0 where
  pub i : ℕ
  pub rest : t.left + i ≡ n
  pub is : standing w t zs cs ≡ slid (state_of ys bs w) i

abbrev pub pass_out : Watch → ℕ → List Station → List ℕ → Out Watch
pass_out w n reg book = let s = slid (state_of reg book w) n in out s.watch s.reg s.book

-- ---- a new plan

pub record Replans (book : List ℕ) (w : Watch) (p : Plan) (r : Reply) (book' : List ℕ) : Type 0 where
  pub gives : Gives (λ b. released ours b (length book)) book w.channel.counts r.watch.channel.counts book'
  pub says : r ≡ record { watch = record { present = w.present; channel = record { counts = r.watch.channel.counts; plan = p }; ship = w.ship }; answer = Ok Planned }

-- ---- a report

abbrev pub report_answer : Result SubMessage Refusal → Result Answer Refusal
report_answer (Ok m) = Ok (Reported m)
report_answer (Err r) = Err r

-- stations is the number of records with a tally above 0
unfoldable pub reported_reply : List ℕ → Watch → ℕ → Time → Reply
reported_reply book w stations t = record { watch = w; answer = report_answer (reported book stations w.present w.channel.plan t) }

-- ---- all of it

abbrev pub done_out : Result Task Refusal → Watch → List Station → List ℕ → Out Reply
done_out t w reg book = out_of (done_task t (state_of reg book w))

abbrev pub carried_out : Case → List Station → List ℕ → Out Reply
carried_out c reg book = out_of (done_task c.task (passes (state_of reg book c.watch) c.passes))
