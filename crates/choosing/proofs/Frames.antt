-- The run over the frames of an own slot: that it starts as far as specs/Owning.antt says (`Upto`), that a turn keeps that, and what it ends with.
-- Assumes nothing.
use mathlib.Core.Path.{◌≡◌, refl, sym, ap, ◌∙◌}
use mathlib.Core.Bool.{not}
use mathlib.Core.List.{List}
use Prim.Native.Nat.{ℕ, ◌+◌, ◌*◌, ◌≤◌, ◌<◌}
use native.Mathlib.Omega.{arith}
use lib.ListN.{length, get_or, set, replicate, length-replicate}
use lib.Seq.{get_or-set_other}
use Rattle.laws.specs.Counting.{one}
use Rattle.laws.specs.Loops.{upto}
use Rattle.laws.proofs.Ranges.{many-none, many_more, many-le}
use Rattle.laws.proofs.Upto.{upto-more}
use Rattle.limits.specs.Limits.{frame_slots, slot_times, records}
use Rattle.ship.specs.declared.Station.{Station}
use Rattle.book.specs.declared.Counts.{Counts}
use Rattle.book.specs.declared.Handing.{Handing}
use Rattle.book.specs.Book.{Book, ours, place, put_at, Puts}
use Rattle.candidates.specs.Slot.{is_none, holder_at}
use Rattle.register.specs.declared.Turn.{Turn}
use Rattle.std.specs.declared.result.Result.TheVariants.{Ok}
use Rattle.register.specs.declared.Answer.TheVariants.{Chosen}
use Rattle.register.specs.State.{State, state_of, with_counts, owned}
use Rattle.register.proofs.Settling.{both-followed}
use Rattle.register.proofs.Owning.{owned-is}
use Rattle.walks.specs.Out.{Ends}
use Rattle.choosing.specs.declared.own.Owning.{Owning}
use Rattle.choosing.specs.Choose.{replaced_in}
use Rattle.choosing.specs.Owning.{started, Steps, OwnsOne, Upto, reply_of, with_replaced, owned_in, owned_out}

-- ---- places and marks

-- two times ahead, both in the book, have two places
pub apart : (present d k : ℕ) → d < slot_times → k < slot_times → place present d ≡ place present k → d ≡ k
apart present d k p q e = omega arith

-- what was put at a place stands there, and nothing else has changed
put-slots : (book book' : List ℕ) (c : Counts) (h : Handing) (at : ℕ) → Puts (λ b. put_at b at ours) book c h book' → book' ≡ set book at ours
unfolding put_at
put-slots book book' c h at puts = ap (λ (b : Book). b.slots) (puts (replicate records 0) (length-replicate {A = ℕ} records 0))

module _ (bs : List ℕ) (present x : ℕ) where
  replaced-most : (n : ℕ) → replaced_in bs present x n ≤ n
  unfolding replaced_in
  replaced-most n = many-le _ n

  replaced-none : 0 ≡ replaced_in bs present x 0
  unfolding replaced_in
  replaced-none = many-none _

  -- one frame more
  replaced-more : (n m k : ℕ) → m ≡ replaced_in bs present x n → k ≡ m + one (not (is_none (get_or bs (place present (x + frame_slots * n)) 0)))
      → k ≡ replaced_in bs present x (n + 1)
  unfolding replaced_in holder_at
  replaced-more n m k e f = f ∙ many_more (λ i. not (is_none (get_or bs (place present (x + frame_slots * i)) 0))) n m _ e refl

-- ---- it starts

pub starts : (o : Owning) (ys : List Station) (bs : List ℕ) → o.slot.distance + frame_slots * o.frames < slot_times + frame_slots → Upto o ys bs (started o) ys bs
unfolding upto
starts o ys bs inside =
    record {
      inside = inside;
      done = 0;
      left = omega arith;
      at = omega arith;
      state = refl;
      marks = replaced-none bs o.watch.present o.slot.distance;
      later = λ d l m. refl;
    }

-- ---- a turn

module _ (o : Owning) (ys : List Station) (bs : List ℕ) (t : Turn) (zs : List Station) (cs : List ℕ) (i : Upto o ys bs t zs cs)
    (some : 0 < t.left) where
  abbrev now : ℕ
  now = o.watch.present

  -- the next time lies in the book
  below : o.slot.distance + frame_slots * i.done < slot_times
  below = let l = i.left in omega (arith, i.inside)

  pub step-met : length cs ≡ slot_times → Steps cs t
  step-met size =
      let l = i.left in
      let at = i.at in
      record {
        size = size;
        below = omega (arith, below);
        some = some;
        few = let m = i.marks in omega (arith, replaced-most bs now o.slot.distance i.done);
      }

  module _ (u : Turn) (ds : List ℕ) (one-owned : OwnsOne cs t o u ds) (many : length zs ≡ records) where
    -- the place that becomes ours
    abbrev here : ℕ
    here = place now (o.slot.distance + frame_slots * i.done)

    is-here : place now t.at ≡ here
    is-here = ap (place now) i.at

    -- it is held as at the start
    held : get_or cs (place now t.at) 0 ≡ get_or bs here 0
    held = ap (λ (k : ℕ). get_or cs k 0) is-here ∙ i.later (o.slot.distance + frame_slots * i.done) (omega arith) below

    state-after : state_of (both-followed zs u) ds (with_counts o.watch u.handing.counts) ≡ owned_in (state_of ys bs o.watch) o.slot.distance (i.done + 1)
    state-after =
        let s : State = state_of zs cs (with_counts o.watch t.handing.counts) in
        let turn : State → ℕ → State = λ v j. owned v (place now (o.slot.distance + frame_slots * j)) in
        let is = owned-is s u (place now t.at) ds many one-owned.puts one-owned.old one-owned.new in
        upto-more turn (state_of ys bs o.watch) i.done s _ i.state (sym is ∙ ap (owned s) is-here)

    marks-after : u.marks ≡ replaced_in bs now o.slot.distance (i.done + 1)
    marks-after =
        replaced-more bs now o.slot.distance i.done t.marks u.marks i.marks
        (one-owned.counted ∙ ap (λ (h : ℕ). t.marks + one (not (is_none h))) held)

    later-after : (d : ℕ) → o.slot.distance + frame_slots * (i.done + 1) ≤ d → d < slot_times → get_or ds (place now d) 0 ≡ get_or bs (place now d) 0
    later-after d l m =
        let slots : ds ≡ set cs here ours = put-slots cs ds t.handing.counts u.handing (place now t.at) one-owned.puts ∙ ap (λ (k : ℕ). set cs k ours) is-here in
        let away : place now d ≡ here → ⊥ = λ e. omega (arith, apart now d (o.slot.distance + frame_slots * i.done) m below e) in
        ap (λ (l : List ℕ). get_or l (place now d) 0) slots ∙ get_or-set_other cs here (place now d) ours 0 away ∙ i.later d (omega arith) m

    pub upto-turns : Upto o ys bs u (both-followed zs u) ds
    upto-turns =
        let l = i.left in
        let less = one-owned.less in
        record {
          inside = i.inside;
          done = i.done + 1;
          left = omega arith;
          at = let a = i.at in let n = one-owned.next in omega arith;
          state = state-after;
          marks = marks-after;
          later = later-after;
        }

-- ---- it ends

pub ends : (o : Owning) (ys : List Station) (bs : List ℕ) (t : Turn) (zs : List Station) (cs : List ℕ) → Upto o ys bs t zs cs → t.left ≡ 0
    → Ends (owned_out o ys bs) (reply_of o t) zs cs
ends o ys bs t zs cs i z =
    let l = i.left in
    let all : i.done ≡ o.frames = omega arith in
    let state = i.state ∙ ap (owned_in (state_of ys bs o.watch) o.slot.distance) all in
    let marks = i.marks ∙ ap (replaced_in bs o.watch.present o.slot.distance) all in
    record {
      answers = λ j. record { watch = (state j).watch; answer = Ok (Chosen (with_replaced o.slot (marks j))) };
      leaves = ap (λ (v : State). v.reg) state;
      writes = ap (λ (v : State). v.book) state;
    }
