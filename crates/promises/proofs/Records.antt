-- What becomes of a record at a call: hold-offs fall with the slots that pass; hearing stores a station, choosing holds one off.
-- Assumes nothing.
use Prim.Native.Nat.{ℕ, zero, suc, ◌+◌, ◌-◌, ◌*◌, ◌%◌, ◌≤◌, ◌<◌}
use mathlib.Core.Path.{◌≡◌, refl, sym, ap, subst, ◌∙◌}
use mathlib.Core.Bool.{Bool}
use mathlib.Core.List.{List, map}
use native.Mathlib.Decide.{ℕ_discrete}
use native.Mathlib.Omega.{arith}
use borrow.Author.Tests.{eq-eqb, ne_eqb, eqb-true}
use lib.Dec.{eqb}
use lib.ListN.{length, get_or, set, get_or-replicate, get_or-map}
use lib.Seq.{get_or-set_same, get_or-set_other}
use Rattle.laws.specs.Tests.{pick}
use Rattle.laws.specs.Loops.{upto}
use Rattle.laws.specs.Exactly.{AllHold}
use Rattle.laws.proofs.Tests.{by-test, never}
use Rattle.laws.proofs.Ranges.{some-hit, some-passes}
use Rattle.laws.proofs.Upto.{upto-keeps}
use Rattle.laws.proofs.Ladder.{all-through}
use Rattle.limits.specs.Limits.{frame_slots, slot_times, records, hold_off}
use Rattle.ship.specs.declared.Station.{Station}
use Rattle.ship.specs.Ship.{blank}
use Rattle.book.specs.Book.{Book, ours, place, holder, put_at, released, tallies_of}
use Rattle.candidates.specs.Slot.{holder_at}
use Rattle.candidates.specs.Window.{distance_in, number_in}
use Rattle.hearing.specs.declared.Telling.{Telling}
use Rattle.hearing.specs.Hear.{telling_in, record_for, entered, stored, heard, hear_tests, hears, hear}
use Rattle.choosing.specs.declared.Wanted.{Wanted}
use Rattle.choosing.specs.Choose.{drawn_in, chosen, replaced_in, choose_tests, chooses, choose}
use Rattle.choosing.specs.ChoosePromises.{HeldOff}
use Rattle.choosing.proofs.HoldingOff.{many-records, only-replaced-held-off}
use Rattle.register.specs.declared.Answer.TheVariants.{Begun, Passed, Planned, Set}
use Rattle.register.specs.State.{State, new_state, book_in, with_tally, with_hold, tallied, settle, owned, passed, passes}
use Rattle.register.specs.Answers.{Answered, answered, said}
use Rattle.register.proofs.Settling.{tallied-field}
use Rattle.calls.specs.declared.What.{What}
use Rattle.calls.specs.declared.What.TheVariants.{Nothing, Hear, Plan, Own, Choose, Report, New, Sum}
use Rattle.calls.specs.Calls.{pass_tests, pass, planned, plan_tests, plan, owning, own_tests, own, report_tests, reports, report, begin, sum, done}
use Rattle.calls.proofs.Doing.{passes-keep}
use Rattle.calls.proofs.Promised.{called-sized}
use Rattle.promises.specs.Calls.{after_call}
use Rattle.promises.specs.Records.{record_of, is_replaced, done_to, becomes, RecordByCall}
use Rattle.promises.proofs.Moving.{by_tests}
use Rattle.promises.proofs.Written.{held_stays}

-- ---- records that are alike

-- what is the same of all records is the same of the record k
at-record : {A : Type 0} (f : Station → A) (reg reg' : List Station) (k : ℕ) → map f reg' ≡ map f reg → f (get_or reg' k blank) ≡ f (get_or reg k blank)
at-record {A} f reg reg' k e =
    sym (get_or-map f reg' k blank) ∙ ap (λ (l : List A). get_or l k (f blank)) e ∙ get_or-map f reg k blank

-- the book that is written back changes tallies alone
written : (b : Book) (s : State) (k : ℕ) → record_of (settle b s) k ≡ record_of s k
unfolding settle
written b s k =
    at-record (λ (r : Station). with_tally r 0) s.reg (tallied s.reg (tallies_of b)) k (tallied-field (λ (r : Station). with_tally r 0) (λ r t. refl) s.reg (tallies_of b))

-- ---- slots that pass

one_less : (s : State) (k : ℕ) → record_of (passed s) k ≡ with_hold (record_of s k) ((record_of s k).hold - 1)
unfolding passed
one_less s k =
    let t = settle (put_at (book_in s) (s.watch.present % slot_times) 0) s in
    ap (λ (r : Station). with_tally r 0) (get_or-map (λ (r : Station). with_hold r (r.hold - 1)) t.reg k blank)
    ∙ ap (λ (r : Station). with_hold r (r.hold - 1)) (written (put_at (book_in s) (s.watch.present % slot_times) 0) s k)

fallen : (s : State) (k n : ℕ) → record_of (passes s n) k ≡ with_hold (record_of s k) ((record_of s k).hold - n)
unfolding upto
fallen s k zero = let none : (record_of s k).hold ≡ (record_of s k).hold - 0 = omega arith in ap (with_hold (record_of s k)) none
fallen s k (suc n) =
    let more : (record_of s k).hold - n - 1 ≡ (record_of s k).hold - suc n = omega arith in
    one_less (passes s n) k
    ∙ ap (λ (r : Station). with_hold r (r.hold - 1)) (fallen s k n)
    ∙ ap (with_hold (record_of s k)) more

-- ---- a new register

pub new-record : (n m k : ℕ) → k < m → record_of (new_state n m) k ≡ blank
unfolding new_state
new-record n m k l = ap (λ (r : Station). with_tally r 0) (get_or-replicate m k blank blank l)

-- ---- hearing

module _ (s : State) (x : Telling) (k : ℕ) (there : k < length s.reg) where
  abbrev its : ℕ
  its = record_for s.reg x.source

  stored-record : record_of (stored s x) k ≡ pick (eqb k its) (entered x (record_of s k)) (record_of s k)
  unfolding stored entered
  stored-record = go (ℕ_discrete k its)
    where
      new : Station
      new = entered x (get_or s.reg its blank)

      go : Dec (k ≡ its) → record_of (stored s x) k ≡ pick (eqb k its) (entered x (record_of s k)) (record_of s k)
      go (yes e) =
          rw (eq-eqb k its e)
          (ap (λ (j : ℕ). with_tally (get_or (set s.reg its new) j blank) 0) e
          ∙ ap (λ (r : Station). with_tally r 0) (get_or-set_same s.reg its new blank (omega arith))
          ∙ ap (λ (j : ℕ). entered x (with_tally (get_or s.reg j blank) 0)) (sym e))
      go (no n) = rw (ne_eqb k its n) (ap (λ (r : Station). with_tally r 0) (get_or-set_other s.reg its k new blank n))

  heard-record : record_of (heard s x) k ≡ pick (eqb k its) (entered x (record_of s k)) (record_of s k)
  unfolding heard
  heard-record = written _ (stored s x) k ∙ stored-record

-- ---- choosing

-- a record without tally and hold-off
abbrev bare : Station → Station
bare r = with_hold (with_tally r 0) 0

module _ (s : State) (x : ℕ) where
  owned-bare : (t : State) (at : ℕ) → map bare (owned t at).reg ≡ map bare t.reg
  unfolding owned settle
  owned-bare t at =
      held_stays bare (λ r h. refl) (holder (book_in t) at) (settle (put_at (book_in t) at ours) t).reg
      ∙ tallied-field bare (λ r n. refl) t.reg (tallies_of (put_at (book_in t) at ours))

  chosen-bare : (m : ℕ) → map bare (chosen s x m).reg ≡ map bare s.reg
  unfolding chosen
  chosen-bare m =
      upto-keeps (λ t i. owned t (place s.watch.present (x + frame_slots * i))) s (λ (t : State). map bare t.reg ≡ map bare s.reg) (suc m)
      (λ t i l e. owned-bare t _ ∙ e) refl

module _ (s : State) (a : Wanted) (k : ℕ) (below : k < records) (held : AllHold (choose_tests s a)) where
  abbrev drawn : ℕ
  drawn = distance_in (drawn_in s a)

  through : choose s a ≡ chooses s a
  unfolding choose
  through = all-through (choose_tests s a) (chooses s a) held

  offs : HeldOff s (choose s a).state a drawn k
  offs =
      only-replaced-held-off s a drawn (place s.watch.present drawn % frame_slots) (number_in (drawn_in s a))
      (replaced_in s.book s.watch.present drawn (suc a.timeout)) k below (ap (λ (o : Answered). said o.answer) through)

  -- all but the hold-off is as it was
  with-hold : (h : ℕ) → (get_or (choose s a).state.reg k blank).hold ≡ h → record_of (chosen s drawn a.timeout) k ≡ with_hold (record_of s k) h
  with-hold h e =
      let left : (get_or (chosen s drawn a.timeout).reg k blank).hold ≡ h = sym (ap (λ (o : Answered). (get_or o.state.reg k blank).hold) through) ∙ e in
      let same = at-record bare s.reg (chosen s drawn a.timeout).reg k (chosen-bare s drawn a.timeout) in
      λ i. with_hold (same i) (left i)

  abbrev is_mark : ℕ → Type 0
  is_mark i = holder_at s.book s.watch.present (drawn + frame_slots * i) ≡ k + 1

  chosen-record : record_of (chosen s drawn a.timeout) k ≡ pick (is_replaced s drawn a.timeout k) (with_hold (record_of s k) hold_off) (record_of s k)
  chosen-record =
      let test : ℕ → Bool = λ i. eqb (holder_at s.book s.watch.present (drawn + frame_slots * i)) (k + 1) in
      by-test (is_replaced s drawn a.timeout k)
      (λ y.
      let hit = some-passes test (a.timeout + 1) y in
      rw y (with-hold hold_off (offs.replaced hit.0 (omega (arith, hit.1.0)) (eqb-true _ (k + 1) hit.1.1))))
      (λ y.
      let none : (i : ℕ) → i ≤ a.timeout → is_mark i → ⊥ = λ i l e. never (sym y ∙ sym (some-hit test i (a.timeout + 1) (omega arith) (eq-eqb _ (k + 1) e))) in
      rw y (with-hold (record_of s k).hold (offs.other none)))

-- ---- what is asked, once the slots have passed

module _ (s : State) (many : length s.reg ≡ records) (bytes : List ℕ) (k : ℕ) (below : k < records) where
  abbrev Becomes : What → Answered → Type 0
  Becomes q a = record_of a.state k ≡ pick (eqb (said a.answer).number 0) (done_to q bytes (said a.answer).values s k (record_of s k)) (record_of s k)

  done-record : (q : What) → Becomes q (done q s bytes)
  unfolding pass hear hear_tests plan planned own choose choose_tests report begin sum
  done-record Nothing = by_tests (Becomes Nothing) (pass_tests s) (answered Passed s) (refl, tt) (λ h. refl)
  done-record Hear =
      by_tests (Becomes Hear) (hear_tests s bytes) (hears s (telling_in bytes)) (refl, (refl, (refl, (refl, (refl, (refl, (refl, tt)))))))
      (λ h. heard-record s (telling_in bytes) k (omega (arith, many)))
  done-record (Plan p) =
      by_tests (Becomes (Plan p)) (plan_tests s p) (answered Planned (planned s p)) (refl, (refl, tt)) (λ h. written (released ours (book_in s) slot_times) s k)
  done-record (Own o) = by_tests (Becomes (Own o)) (own_tests s o) (answered Set (owning s o)) (refl, (refl, tt)) (λ h. refl)
  done-record (Choose a) =
      by_tests (Becomes (Choose a)) (choose_tests s a) (chooses s a) (refl, (refl, (refl, (refl, (refl, (refl, (refl, tt)))))))
      (λ h. chosen-record s a k below h)
  done-record (Report t) = by_tests (Becomes (Report t)) (report_tests s t) (reports s t) (refl, (refl, (refl, (refl, tt)))) (λ h. refl)
  done-record New =
      by_tests (Becomes New) (pass_tests s) (answered Begun (new_state slot_times records)) (refl, tt) (λ h. new-record slot_times records k below)
  done-record Sum = by_tests (Becomes Sum) (pass_tests s) _ (refl, tt) (λ h. refl)

-- ---- the call

pub record-by-call : RecordByCall
unfolding after_call
record-by-call s c k e below =
    let t = passes s c.passes in
    let many : length t.reg ≡ records = (passes-keep s c.passes).register ∙ many-records s e in
    subst (λ (a : Answered). record_of a.state k ≡ becomes (said a.answer) c t k (with_hold (record_of s k) ((record_of s k).hold - c.passes)))
    (sym (called-sized s c.passes c.bytes c.what e))
    (subst (λ (r : Station). record_of (done c.what t c.bytes).state k ≡ becomes (said (done c.what t c.bytes).answer) c t k r)
    (fallen s k c.passes) (done-record t many c.bytes k below c.what))
