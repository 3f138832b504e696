-- Choosing holds off the stations whose marks it replaces, and no other: each own mark meets the holder that was there before the first one.
-- Assumes nothing.
use mathlib.Core.Path.{◌≡◌, refl, sym, ap, ◌∙◌}
use mathlib.Core.Bool.{Bool, true, false}
use mathlib.Core.List.{List, [], ◌∷◌}
use Prim.Native.Nat.{ℕ, zero, suc, ◌+◌, ◌-◌, ◌*◌, ◌≤◌, ◌<◌}
use native.Mathlib.Decide.{ℕ_discrete}
use native.Mathlib.Omega.{arith}
use borrow.Author.Tests.{lt-ltb, eqb-true}
use lib.Dec.{eqb}
use lib.ListN.{length, get_or, set, length-set}
use lib.Seq.{get_or-set_same, get_or-set_other}
use Rattle.laws.specs.Tests.{pick}
use Rattle.laws.specs.Loops.{upto}
use Rattle.laws.proofs.Tests.{both_right, pick_is}
use Rattle.laws.proofs.Upto.{upto-keeps}
use Rattle.limits.specs.Limits.{frame_slots, slot_times, records, hold_off}
use Rattle.ship.specs.declared.Station.{Station}
use Rattle.ship.specs.Ship.{blank}
use Rattle.book.specs.Book.{ours, is_record, tallies_of, holder, place, put_at}
use Rattle.candidates.specs.Slot.{holder_at}
use Rattle.candidates.specs.Window.{distance_in}
use Rattle.register.specs.State.{State, book_in, with_hold, tallied, settle, held_off, owned}
use Rattle.register.specs.Answers.{Answered, sized}
use Rattle.book.proofs.Holders.{record_is}
use Rattle.register.proofs.Settling.{tallied-length}
use Rattle.choosing.specs.Choose.{chosen}
use Rattle.choosing.specs.Owning.{owned_in}
use Rattle.choosing.specs.ChoosePromises.{OnlyReplacedHeldOff}
use Rattle.choosing.proofs.Frames.{apart}
use Rattle.choosing.proofs.Chosen.{through, draws, drawn, marks-in-the-book}

-- the hold-off of the record k
abbrev hold_at : List Station → ℕ → ℕ
hold_at reg k = (get_or reg k blank).hold

-- ---- one hold-off

module _ (reg : List Station) (h k : ℕ) where
  -- the station itself
  off-hit : h ≡ k + 1 → k < records → k < length reg → hold_at (held_off h reg) k ≡ hold_off
  unfolding held_off is_record
  off-hit e r l =
      let at : h - 1 ≡ k = omega arith in
      let low : 0 < h = omega arith in
      let high : h < ours = omega arith in
      rw (lt-ltb 0 h low, lt-ltb h ours high, at) (ap (λ (x : Station). x.hold) (get_or-set_same reg k (with_hold (get_or reg k blank) hold_off) blank l))

  -- any other
  off-miss : (h ≡ k + 1 → ⊥) → hold_at (held_off h reg) k ≡ hold_at reg k
  unfolding held_off
  off-miss n = go (is_record h) refl
    where
      go : (b : Bool) → is_record h ≡ b → hold_at (pick b (set reg (h - 1) (with_hold (get_or reg (h - 1) blank) hold_off)) reg) k ≡ hold_at reg k
      go true e =
          let low = (record_is h e).0 in
          ap (λ (x : Station). x.hold) (get_or-set_other reg (h - 1) k (with_hold (get_or reg (h - 1) blank) hold_off) blank (λ q. n (omega arith)))
      go false e = refl

  -- the register stays as long
  off-length : length (held_off h reg) ≡ length reg
  unfolding held_off
  off-length = pick_is (λ (l : List Station). length l) (is_record h) (length-set reg _ _) refl

-- tallies are no hold-offs
tallied-hold : (reg : List Station) (ts : List ℕ) (k : ℕ) → hold_at (tallied reg ts) k ≡ hold_at reg k
unfolding tallied
tallied-hold [] ts k = refl
tallied-hold (r ∷ reg) [] k = refl
tallied-hold (r ∷ reg) (t ∷ ts) zero = refl
tallied-hold (r ∷ reg) (t ∷ ts) (suc k) = tallied-hold reg ts k

-- ---- one own mark

module _ (t : State) (at : ℕ) where
  own-book : (owned t at).book ≡ set t.book at ours
  unfolding owned settle put_at
  own-book = refl

  own-length : length (owned t at).reg ≡ length t.reg
  unfolding owned settle
  own-length = off-length _ (holder (book_in t) at) 0 ∙ tallied-length t.reg _

  own-hit : (k : ℕ) → get_or t.book at 0 ≡ k + 1 → k < records → k < length t.reg → hold_at (owned t at).reg k ≡ hold_off
  unfolding owned settle
  own-hit k e r l = off-hit _ (holder (book_in t) at) k e r (omega (arith, tallied-length t.reg (tallies_of (put_at (book_in t) at ours))))

  own-miss : (k : ℕ) → (get_or t.book at 0 ≡ k + 1 → ⊥) → hold_at (owned t at).reg k ≡ hold_at t.reg k
  unfolding owned settle
  own-miss k n = off-miss _ (holder (book_in t) at) k n ∙ tallied-hold t.reg _ k

-- ---- the marks, one after the other, a frame apart

module _ (s : State) (x : ℕ) where
  abbrev present : ℕ
  present = s.watch.present

  -- n of them are done
  abbrev after : ℕ → State
  after = owned_in s x

  -- who holds the time i frames after the first, at the start
  abbrev first : ℕ → ℕ
  first i = holder_at s.book present (x + frame_slots * i)

  -- the marks before it leave a later frame as it was
  untouched : (n j : ℕ) → n ≤ j → x + frame_slots * j < slot_times → get_or (after n).book (place present (x + frame_slots * j)) 0 ≡ first j
  unfolding upto holder_at
  untouched zero j l b = refl
  untouched (suc n) j l b =
      let here = place present (x + frame_slots * n) in
      let there = place present (x + frame_slots * j) in
      let away : there ≡ here → ⊥ = λ e. omega (arith, apart present (x + frame_slots * j) (x + frame_slots * n) b (omega arith) e) in
      ap (λ (l : List ℕ). get_or l there 0) (own-book (after n) here)
      ∙ get_or-set_other (after n).book here there ours 0 away
      ∙ untouched n j (omega arith) b

  -- the register stays as long
  after-length : (n : ℕ) → length (after n).reg ≡ length s.reg
  after-length n = upto-keeps _ s (λ (t : State). length t.reg ≡ length s.reg) n (λ t i l e. own-length t _ ∙ e) refl

  module _ (m : ℕ) (fits : x + frame_slots * m < slot_times) (k : ℕ) where
    -- a station whose mark is replaced is held off
    met : length s.reg ≡ records → k < records → (n i : ℕ) → n ≤ m + 1 → i < n → first i ≡ k + 1 → hold_at (after n).reg k ≡ hold_off
    unfolding upto
    met many r zero i l b e = absurd (omega arith)
    met many r (suc n) i l b e = go (ℕ_discrete (first n) (k + 1)) (λ z. met many r n i (omega arith) z e)
      where
        here : get_or (after n).book (place present (x + frame_slots * n)) 0 ≡ first n
        here = untouched n n (omega arith) (omega arith)

        go : Dec (first n ≡ k + 1) → (i < n → hold_at (after n).reg k ≡ hold_off) → hold_at (after (suc n)).reg k ≡ hold_off
        go (yes q) before = own-hit (after n) _ k (here ∙ q) r (omega (arith, after-length n))
        go (no q) before = own-miss (after n) _ k (λ z. q (sym here ∙ z)) ∙ before (sooner (ℕ_discrete i n))
          where
            sooner : Dec (i ≡ n) → i < n
            sooner (yes z) = absurd (q (ap first (sym z) ∙ e))
            sooner (no z) = omega arith

    -- any other's hold-off stays
    not-met : (n : ℕ) → n ≤ m + 1 → ((i : ℕ) → i < n → first i ≡ k + 1 → ⊥) → hold_at (after n).reg k ≡ hold_at s.reg k
    unfolding upto
    not-met zero l none = refl
    not-met (suc n) l none =
        own-miss (after n) _ k (λ z. none n (omega arith) (sym (untouched n n (omega arith) (omega arith)) ∙ z))
        ∙ not-met n (omega arith) (λ i b. none i (omega arith))

-- ---- the call

-- the register has the length asked for
pub many-records : (s : State) → sized s ≡ true → length s.reg ≡ records
unfolding sized
many-records s e = eqb-true (length s.reg) records (both_right (eqb (length s.book) slot_times) (eqb (length s.reg) records) e)

pub only-replaced-held-off : OnlyReplacedHeldOff
unfolding chosen
only-replaced-held-off s a x slot n m k below e =
    let fits = marks-in-the-book s a x slot n m e in
    let many = many-records s (draws s a x slot n m e).sizes in
    let left =
    ap (λ (v : Answered). hold_at v.state.reg k) (through s a x slot n m e)
    ∙ ap (λ (d : ℕ). hold_at (chosen s d a.timeout).reg k) (ap distance_in (drawn s a x slot n m e)) in
    record {
      replaced = λ i b q. left ∙ met s x a.timeout fits k many below (suc a.timeout) i (omega arith) (omega arith) q;
      other = λ none. left ∙ not-met s x a.timeout fits k (suc a.timeout) (omega arith) (λ i b. none i (omega arith));
    }
