-- What each stage needs, and that stages one after the other come to what is to be done.
-- Assumes nothing.
use mathlib.Core.Path.{◌≡◌, refl, sym, ap, subst, ◌∙◌}
use mathlib.Core.Bool.{Bool, true, false}
use mathlib.Core.List.{List, map}
use Prim.Native.Nat.{ℕ, ◌+◌, ◌-◌, ◌≤◌, ◌<◌}
use native.Mathlib.Omega.{arith}
use lib.Dec.{ltb}
use borrow.Author.Tests.{ltb-true}
use lib.ListN.{length, replicate, length-map}
use Rattle.laws.specs.Tests.{pick, between}
use Rattle.laws.specs.Loops.{upto}
use Rattle.laws.proofs.Tests.{both_left, both_right, between_is}
use Rattle.laws.proofs.Upto.{upto-keeps}
use Rattle.limits.specs.Limits.{frame_slots, slot_times, records, widest, least_time_out, most_time_out}
use Rattle.numbers.specs.declared.Refusal.{Refusal}
use Rattle.numbers.specs.declared.Refusal.TheVariants.{NotOwn}
use Rattle.ship.specs.declared.Station.{Station}
use Rattle.ship.specs.Ship.{blank}
use Rattle.plan.specs.declared.Plan.{Plan}
use Rattle.plan.specs.Plan.{InRange}
use Rattle.book.proofs.Plans.{in-range}
use Rattle.book.specs.Watch.{new_watch}
use Rattle.book.specs.declared.Watch.{Watch}
use Rattle.book.specs.Book.{ours, book_of, released}
use Rattle.walks.specs.Out.{Out, out, Ends}
use Rattle.std.specs.Prelude.{Result, Ok, Err, MatchResult, IsOkAnd, IfOk}
use Rattle.std.specs.List.{count_by}
use Rattle.register.specs.declared.Reply.{Reply}
use Rattle.register.specs.declared.Answer.{Answer}
use Rattle.register.specs.declared.Answer.TheVariants.{Planned, Report as Told, Begun}
use Rattle.register.specs.State.{State, state_of, new_state, tallies_in, book_in, with_hold, with_counts, settle, aged, passes}
use Rattle.register.specs.Register.{slid_one, slid}
use Rattle.register.specs.Answers.{no, out_of}
use Rattle.register.proofs.Settling.{settle_is}
use Rattle.register.proofs.Passing.{passes-slid}
use Rattle.message.specs.declared.state.SubMessage.{SubMessage}
use Rattle.reporting.specs.Report.{own_at, time_out, heard_stations, sub_message, reported}
use Rattle.reporting.specs.declared.Time.{Time}
use Rattle.choosing.specs.declared.Wanted.{Wanted}
use Rattle.choosing.specs.declared.Query.{Query}
use Rattle.choosing.specs.declared.own.Owning.{Owning}
use Rattle.choosing.specs.Choosing.{ask_fits}
use Rattle.choosing.specs.Scanning.{asked, scanned, judged}
use Rattle.choosing.specs.Owning.{owning_of, Owns, chosen_out}
use Rattle.choosing.proofs.Meaning.{near, narrow, timed}
use Rattle.choosing.proofs.Promised.{finds-the-choice}
use Rattle.choosing.proofs.Choosing.{OwnsBy, run-met, chooses-is}
use Rattle.calls.specs.declared.told.Task.{Task}
use Rattle.calls.specs.declared.told.Task.TheVariants as task
use Rattle.calls.specs.declared.told.Case.{Case}
use Rattle.calls.proofs.Running.{counts-heard}
use Rattle.calls.specs.Calls.{planned, reports}
use Rattle.calls.specs.Stages.{drawn_by, done_task, Sized, FitTask, Fit, pass_out, Replans, report_answer, reported_reply, done_out, carried_out}

-- where two functions say what they leave, both one after the other leave this
pub ends_at : {Y : Type 0} {o p : Out Y} {r : Y} {zs : List Station} {cs : List ℕ} → o ≡ p → Ends o r zs cs → Ends p r zs cs
ends_at {r = r} {zs = zs} {cs = cs} e n = subst (λ q. Ends q r zs cs) e n

pub ends_so : {Y : Type 0} {r : Y} {zs : List Station} {cs : List ℕ} {o : Out Y} → out r zs cs ≡ o → Ends o r zs cs
ends_so e = record { answers = λ i. (e i).answer; leaves = λ i. (e i).reg; writes = λ i. (e i).book }

-- ---- choosing

-- the window of a choice that fits
window-there : (p : Plan) (a : Wanted) → ask_fits p a ≡ true → (a.k < p.rate) × (a.timeout < most_time_out + 1)
unfolding ask_fits
window-there p a e =
    let f = both_left (ltb a.k p.rate) (between least_time_out most_time_out a.timeout) e in
    let r = between_is least_time_out most_time_out a.timeout (both_right (ltb a.k p.rate) (between least_time_out most_time_out a.timeout) e) in
    (ltb-true a.k p.rate f, omega (arith, r.1))

module _ (ys : List Station) (bs : List ℕ) (w : Watch) (a : Wanted) (f : FitTask (Ok (task.Choose a)) w.channel.plan ys bs) where
  pub ask-fits : (length bs ≡ slot_times) × (InRange w.channel.plan × ((a.k < w.channel.plan.rate) × (a.timeout < most_time_out + 1)))
  ask-fits = let t = window-there w.channel.plan a f.2 in (f.0.size, (in-range w.channel.plan f.1, t))

  window-fits : (asked bs w a).window.first ≤ frame_slots × ((asked bs w a).window.timeout < most_time_out + 1 × ((asked bs w a).window.width ≤ widest))
  unfolding asked
  window-fits =
      let few = (window-there w.channel.plan a f.2).1 in (
        near w.present w.channel.plan a.k a.timeout _ refl,
        (omega (arith, few, timed w.present w.channel.plan a.k a.timeout _ refl), narrow w.present w.channel.plan a.k a.timeout _ refl),
      )

  -- what the draw needs of the window that is meant
  pub query-fits : (q : Query) → q ≡ asked bs w a → q.window.first ≤ frame_slots × (q.window.timeout < most_time_out + 1 × (q.window.width ≤ widest))
  query-fits q e = subst (λ (q : Query). q.window.first ≤ frame_slots × (q.window.timeout < most_time_out + 1 × (q.window.width ≤ widest))) (sym e) window-fits

  pub owns-fits : (o : Owning) → drawn_by ys bs w a ≡ Ok o → Owns ys bs o
  owns-fits o e = let q = asked bs w a in subst (OwnsBy q ys bs) e (run-met q ys bs (judged bs q (scanned ys bs q)) f.0.register f.0.size)

  pub owns-drawn : (r : Result Owning Refusal) → r ≡ drawn_by ys bs w a → IfOk r (λ o. Owns ys bs o)
  owns-drawn (Ok o) e = owns-fits o (sym e)
  owns-drawn (Err r) e = tt

  pub chosen_is : (r : Result Owning Refusal) → r ≡ drawn_by ys bs w a → chosen_out w r ys bs ≡ done_out (Ok (task.Choose a)) w ys bs
  unfolding done_task asked
  chosen_is r e =
      ap (λ (r : Result Owning Refusal). chosen_out w r ys bs) e
      ∙ ap (λ p. chosen_out w (owning_of (asked bs w a) p) ys bs) (finds-the-choice ys bs w a (window-there w.channel.plan a f.2).1)
      ∙ chooses-is ys bs w a (asked bs w a) refl refl

-- ---- the rest

pub plan-comes : (w : Watch) (p : Plan) (ys : List Station) (bs : List ℕ) (r : Reply) (cs : List ℕ) → Sized ys bs → Replans bs w p r cs
    → Ends (done_out (Ok (task.Plan p)) w ys bs) r ys cs
unfolding done_task planned
plan-comes w p ys bs r cs z f =
    let s = state_of ys bs w in
    let tallies : length (tallies_in ys) ≡ records = length-map ys (λ (x : Station). x.tally) ∙ z.register in
    let is : book_of cs (tallies_in ys) r.watch.channel.counts ≡ released ours (book_in s) slot_times =
    f.gives (tallies_in ys) tallies ∙ ap (released ours (book_in s)) z.size in
    let settled : settle (released ours (book_in s) slot_times) s ≡ state_of ys cs (with_counts w r.watch.channel.counts) =
    settle_is s (released ours (book_in s) slot_times) ys cs r.watch.channel.counts z.register refl is in
    record {
      answers = f.says ∙ (λ i. record { watch = record { present = (sym settled i).watch.present; channel = record { counts = (sym settled i).watch.channel.counts; plan = p }; ship = (sym settled i).watch.ship }; answer = Ok Planned });
      leaves = λ i. (sym settled i).reg;
      writes = λ i. (sym settled i).book;
    }

-- the report is told, or now is not own
pub report-comes : (w : Watch) (t : Time) (ys : List Station) (bs : List ℕ)
    → out (reported_reply bs w (heard_stations (tallies_in ys)) t) ys bs ≡ done_out (Ok (task.Report t)) w ys bs
unfolding done_task reported_reply reported
report-comes w t ys bs = go (own_at bs w.present 0)
  where
    go : (b : Bool)
        → out (record { watch = w; answer = report_answer (pick b (Ok (sub_message bs (heard_stations (tallies_in ys)) w.present w.channel.plan t (time_out bs w.present))) (Err NotOwn)) }) ys bs
        ≡ out_of (pick b (reports (state_of ys bs w) t) (no (state_of ys bs w) NotOwn))
    go true = refl
    go false = refl

-- as the code has it: n are heard, told is the report, and said what is answered
told-so : (told : Result SubMessage Refusal) (said : Result Answer Refusal) → MatchResult told (λ m. IsOkAnd said (λ a. a ≡ Told m)) (λ r. said ≡ Err r) → said ≡ report_answer told
told-so (Ok m) (Ok a) e = ap Ok e
told-so (Ok m) (Err r) e = absurd e
told-so (Err r) said e = e

pub reported-is : (w : Watch) (t : Time) (ys : List Station) (bs : List ℕ) (n : ℕ) → n ≡ count_by (λ (r : Station). ltb 0 r.tally) ys
    → (told : Result SubMessage Refusal) → told ≡ reported bs n w.present w.channel.plan t
    → (said : Result Answer Refusal) → MatchResult told (λ m. IsOkAnd said (λ a. a ≡ Told m)) (λ r. said ≡ Err r)
    → Ends (done_out (Ok (task.Report t)) w ys bs) (record { watch = w; answer = said }) ys bs
unfolding reported_reply
reported-is w t ys bs n en told et said es =
    let is : said ≡ report_answer (reported bs (heard_stations (tallies_in ys)) w.present w.channel.plan t) =
    told-so told said es ∙ ap report_answer et ∙ ap (λ (k : ℕ). report_answer (reported bs k w.present w.channel.plan t)) (en ∙ counts-heard ys) in
    ends_so ((λ i. out (record { watch = w; answer = is i }) ys bs) ∙ report-comes w t ys bs)

pub report-range : (t : Time) (p : Plan) (ys : List Station) (bs : List ℕ) → FitTask (Ok (task.Report t)) p ys bs → InRange p
report-range t p ys bs f = in-range p f.1

-- an empty register and book
pub begun-is : (w : Watch) (ys : List Station) (bs : List ℕ) (r : Reply) (zs : List Station) (cs : List ℕ) → Sized ys bs
    → r ≡ record { watch = new_watch; answer = Ok Begun } → zs ≡ replicate (length ys) blank → cs ≡ replicate (length bs) 0 → Ends (done_out (Ok task.New) w ys bs) r zs cs
unfolding done_task new_state
begun-is w ys bs r zs cs z a l m =
    record { answers = a; leaves = l ∙ ap (λ (n : ℕ). replicate n blank) z.register; writes = m ∙ ap (λ (n : ℕ). replicate n 0) z.size }

-- ---- slots that pass, and the rest

slid-plan : (s : State) (n : ℕ) → (slid s n).watch.channel.plan ≡ s.watch.channel.plan
unfolding slid_one settle
slid-plan s n = upto-keeps (λ (x : State) (i : ℕ). slid_one x) s (λ (x : State). x.watch.channel.plan ≡ s.watch.channel.plan) n (λ x i l e. e) refl

-- what is left to be done needs the same of a register and a book of the same lengths
fit-again : (t : Result Task Refusal) (p : Plan) (ys zs : List Station) (bs cs : List ℕ) → Sized zs cs → FitTask t p ys bs → FitTask t p zs cs
fit-again (Err r) p ys zs bs cs z f = tt
fit-again (Ok task.Nothing) p ys zs bs cs z f = tt
fit-again (Ok (task.Hear x)) p ys zs bs cs z f = z
fit-again (Ok (task.Plan q)) p ys zs bs cs z f = z
fit-again (Ok (task.Own o)) p ys zs bs cs z f = tt
fit-again (Ok (task.Choose a)) p ys zs bs cs z f = (z, f.1, f.2)
fit-again (Ok (task.Report t)) p ys zs bs cs z f = (z, f.1)
fit-again (Ok task.New) p ys zs bs cs z f = z
fit-again (Ok task.Sum) p ys zs bs cs z f = z

module _ (c : Case) (ys : List Station) (bs : List ℕ) (n : Fit ys bs c) where
  pub none-is : c.passes ≡ 0 → done_out c.task c.watch ys bs ≡ carried_out c ys bs
  unfolding upto
  none-is e = ap (λ (k : ℕ). out_of (done_task c.task (passes (state_of ys bs c.watch) k))) (sym e)

  -- the watch d, the register zs and the book cs are left once the slots have passed, and us is the register with its hold-offs less
  module _ (some : 0 < c.passes) (d : Watch) (zs us : List Station) (cs : List ℕ) (e : Ends (pass_out c.watch c.passes ys bs) d zs cs)
      (older : us ≡ map (λ (s : Station). with_hold s (s.hold - c.passes)) zs) where
    pub later-fits : length zs ≡ length ys → length cs ≡ length bs → FitTask c.task d.channel.plan us cs
    later-fits lz lc =
        let z = n.sized some in
        let same : d.channel.plan ≡ c.watch.channel.plan = ap (λ (w : Watch). w.channel.plan) e.answers ∙ slid-plan (state_of ys bs c.watch) c.passes in
        let sized : Sized us cs =
        record { register = ap length older ∙ length-map zs (λ (s : Station). with_hold s (s.hold - c.passes)) ∙ lz ∙ z.register; size = lc ∙ z.size } in
        subst (λ (p : Plan). FitTask c.task p us cs) (sym same) (fit-again c.task c.watch.channel.plan ys us bs cs sized n.fits)

    pub carried-is : done_out c.task d us cs ≡ carried_out c ys bs
    carried-is =
        ap (λ (l : List Station). done_out c.task d l cs) older
        ∙ (λ i. out_of (done_task c.task (aged c.passes (state_of (e.leaves i) (e.writes i) (e.answers i)))))
        ∙ ap (λ (s : State). out_of (done_task c.task s)) (sym (passes-slid (state_of ys bs c.watch) c.passes))
