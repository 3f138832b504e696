-- How the slot that was picked becomes ours: what comes of the draw, and the run over its frames.
-- Assumes nothing.
use Rattle.std.specs.Prelude.{ℕ, ◌+◌, ◌*◌, ◌%◌, ◌≤◌, ◌<◌, ◌≡◌, not, List, ltb, length, get_or, Ok, Err}
use Rattle.std.specs.declared.result.Result.{Result}
use Rattle.laws.specs.Tests.{pick}
use Rattle.laws.specs.Loops.{upto}
use Rattle.laws.specs.Counting.{one}
use Rattle.limits.specs.Limits.{frame_slots, slot_times, records}
use Rattle.numbers.specs.declared.Refusal.{Refusal}
use Rattle.numbers.specs.declared.Refusal.TheVariants.{BeyondBook}
use Rattle.ship.specs.declared.Station.{Station}
use Rattle.book.specs.declared.Watch.{Watch}
use Rattle.book.specs.Book.{ours, place, put_at, Puts}
use Rattle.candidates.specs.declared.Picked.{Picked}
use Rattle.candidates.specs.Slot.{is_none}
use Rattle.register.specs.declared.Turn.{Turn}
use Rattle.register.specs.declared.Reply.{Reply}
use Rattle.register.specs.declared.Slot.{Slot}
use Rattle.register.specs.declared.Answer.TheVariants.{Chosen}
use Rattle.register.specs.State.{State, state_of, with_counts, owned}
use Rattle.walks.specs.Out.{Out, out}
use Rattle.choosing.specs.declared.Query.{Query}
use Rattle.choosing.specs.declared.own.Owning.{Owning}
use Rattle.choosing.specs.Choose.{replaced_in}

-- ---- what comes of the draw

-- the slot that is picked, in the frames 0, 1, .. to the time-out
abbrev pub owned_at : Query → Picked → Owning
owned_at q p =
    record {
      watch = q.watch;
      slot = record { distance = p.distance; slot = place q.watch.present p.distance % frame_slots; candidates = p.candidates; replaced = 0 };
      frames = q.window.timeout + 1;
    }

unfoldable pub owning_at : Query → Picked → Result Owning Refusal
owning_at q p = pick (ltb (p.distance + frame_slots * q.window.timeout) slot_times) (Ok (owned_at q p)) (Err BeyondBook)

abbrev pub owning_of : Query → Result Picked Refusal → Result Owning Refusal
owning_of q (Ok p) = owning_at q p
owning_of q (Err r) = Err r

-- ---- the run

abbrev pub started : Owning → Turn
started o = record { handing = record { counts = o.watch.channel.counts; old = 0; new = 0 }; at = o.slot.distance; left = o.frames; marks = 0 }

-- what a step needs
pub record Steps (book : List ℕ) (t : Turn) : Type 0 where
  pub size : length book ≡ slot_times
  pub below : t.at < slot_times
  pub some : 0 < t.left
  pub few : t.marks < slot_times

pub record OwnsOne (book : List ℕ) (t : Turn) (o : Owning) (r : Turn) (book' : List ℕ) : Type 0 where
  pub puts : Puts (λ b. put_at b (place o.watch.present t.at) ours) book t.handing.counts r.handing book'
  pub old : r.handing.old ≡ get_or book (place o.watch.present t.at) 0
  pub new : r.handing.new ≡ ours
  pub next : r.at ≡ t.at + frame_slots
  pub less : r.left + 1 ≡ t.left
  pub counted : r.marks ≡ t.marks + one (not (is_none (get_or book (place o.watch.present t.at) 0)))

-- the slot x ahead and its later frames, n frames in all, become ours
abbrev pub owned_in : State → ℕ → ℕ → State
owned_in s x = upto (λ t i. owned t (place s.watch.present (x + frame_slots * i))) s

-- so many frames are done, and all lie in the book: the state, the marks replaced, and that the times from the next frame on are held as at the start
pub record Upto (o : Owning) (ys : List Station) (bs : List ℕ) (t : Turn) (zs : List Station) (cs : List ℕ) : Type 0 where
  pub inside : o.slot.distance + frame_slots * o.frames < slot_times + frame_slots
  pub done : ℕ
  pub left : t.left + done ≡ o.frames
  pub at : t.at ≡ o.slot.distance + frame_slots * done
  pub state : state_of zs cs (with_counts o.watch t.handing.counts) ≡ owned_in (state_of ys bs o.watch) o.slot.distance done
  pub marks : t.marks ≡ replaced_in bs o.watch.present o.slot.distance done
  pub later : (d : ℕ) → o.slot.distance + frame_slots * done ≤ d → d < slot_times
      → get_or cs (place o.watch.present d) 0 ≡ get_or bs (place o.watch.present d) 0

-- the slot with so many marks replaced
abbrev pub with_replaced : Slot → ℕ → Slot
with_replaced c n = record { distance = c.distance; slot = c.slot; candidates = c.candidates; replaced = n }

abbrev pub reply_of : Owning → Turn → Reply
reply_of o t = record { watch = with_counts o.watch t.handing.counts; answer = Ok (Chosen (with_replaced o.slot t.marks)) }

-- what the run needs: a register and a book of their lengths, and the frames lie in the book
pub record Owns (reg : List Station) (book : List ℕ) (o : Owning) : Type 0 where
  pub register : length reg ≡ records
  pub size : length book ≡ slot_times
  pub inside : o.slot.distance + frame_slots * o.frames < slot_times + frame_slots

abbrev pub owned_out : Owning → List Station → List ℕ → Out Reply
owned_out o reg book =
    let s = state_of reg book o.watch in
    let t = owned_in s o.slot.distance o.frames in
    out (record { watch = t.watch; answer = Ok (Chosen (with_replaced o.slot (replaced_in s.book s.watch.present o.slot.distance o.frames))) }) t.reg t.book

-- ---- what is answered and left, by what came of the draw

abbrev pub chosen_out : Watch → Result Owning Refusal → List Station → List ℕ → Out Reply
chosen_out w (Ok o) reg book = owned_out o reg book
chosen_out w (Err r) reg book = out (record { watch = w; answer = Err r }) reg book
