-- Kind and position of every record are those of the last message of its source.
-- Assumes nothing.
use Prim.Native.Nat.{ℕ, ◌-◌, ◌<◌}
use mathlib.Core.Path.{◌≡◌, refl, sym, ap, subst, ◌∙◌}
use mathlib.Core.Bool.{Bool, true, false}
use mathlib.Core.List.{List, [], ◌∷◌}
use native.Mathlib.Decide.{ℕ_discrete}
use native.Mathlib.Omega.{arith}
use borrow.Author.Tests.{eq-eqb, ne_eqb, eqb-true, ltb-true}
use lib.Dec.{eqb}
use lib.ListN.{get_or, get_or-map}
use Rattle.laws.specs.Tests.{pick}
use Rattle.laws.proofs.Ladder.{all-answered}
use Rattle.limits.specs.Limits.{slot_times, records, hold_off}
use Rattle.ship.specs.declared.Station.{Station}
use Rattle.ship.specs.Ship.{blank}
use Rattle.hearing.specs.declared.Telling.{Telling}
use Rattle.hearing.specs.Hear.{telling_in, record_for, entered, hear_tests, hears, hear}
use Rattle.register.specs.State.{State, sources_in, with_hold, passes}
use Rattle.register.specs.Answers.{Said, said, given_number, sized}
use Rattle.calls.specs.declared.What.{What}
use Rattle.calls.specs.declared.What.TheVariants.{Nothing, Hear, Plan, Own, Choose, Report, New, Sum}
use Rattle.calls.specs.Calls.{done}
use Rattle.calls.proofs.Promised.{called-sized}
use Rattle.promises.specs.Calls.{Call, answer_to, after_call, after_all}
use Rattle.promises.specs.Records.{Told, record_of, is_replaced, done_to, known_by, told_then, last_told, LastMessageDecides}
use Rattle.promises.proofs.Written.{fine-sized}
use Rattle.promises.proofs.Known.{Apart}
use Rattle.promises.proofs.Grown.{grown, always}
use Rattle.promises.proofs.Holders.{Agrees, agreed}
use Rattle.promises.proofs.Records.{new-record, record-by-call}

-- a station that is heard has a record
heard-there : (s : State) (bytes : List ℕ) → given_number (hear s bytes) ≡ 0 → record_for s.reg (telling_in bytes).source < records
unfolding hear hear_tests
heard-there s bytes e =
    ltb-true (record_for s.reg (telling_in bytes).source) records (all-answered given_number (hear_tests s bytes) (hears s (telling_in bytes)) tt e).1.1.1.1.1.0

-- ---- one call

module _ (s : State) (c : Call) (size : sized s ≡ true) (apart : Apart (sources_in (after_call s c).reg)) (last : ℕ → Told) where
  -- the state once the slots have passed, what is answered, and what is heard
  abbrev then : State
  then = passes s c.passes

  abbrev answer : Said
  answer = said (answer_to s c).answer

  abbrev told : Telling
  told = telling_in c.bytes

  abbrev its : ℕ
  its = record_for then.reg told.source

  -- the record k before what is asked is done
  abbrev old : ℕ → Station
  old k = with_hold (record_of s k) ((record_of s k).hold - c.passes)

  module _ (what : c.what ≡ Hear) (number : answer.number ≡ 0) where
    there : its < records
    there =
        heard-there then c.bytes
        (sym (ap given_number (called-sized s c.passes c.bytes c.what size ∙ ap (λ (q : What). done q then c.bytes) what)) ∙ number)

    -- a record after it
    heard-record : (k : ℕ) → k < records → record_of (after_call s c) k ≡ pick (eqb k its) (entered told (old k)) (old k)
    heard-record k below =
        record-by-call s c k size below ∙ (λ i. pick (eqb (number i) 0) (done_to (what i) c.bytes answer.values then k (old k)) (old k))

    source-at : (k : ℕ) → get_or (sources_in (after_call s c).reg) k 0 ≡ (record_of (after_call s c) k).source
    source-at k = get_or-map (λ (r : Station). r.source) (after_call s c).reg k blank

    -- no other record has its source
    no_other : (k : ℕ) → k < records → (k ≡ its → ⊥) → 0 < (record_of s k).source → told.source ≡ (record_of s k).source → ⊥
    unfolding entered
    no_other k below n known same =
        let mine : (record_of (after_call s c) its).source ≡ told.source = ap (λ (r : Station). r.source) (heard-record its there) ∙ rw (eq-eqb its its refl) in
        let other : (record_of (after_call s c) k).source ≡ (record_of s k).source = ap (λ (r : Station). r.source) (heard-record k below) ∙ rw (ne_eqb k its n) in
        n (apart k its below there (source-at k ∙ other ∙ sym same ∙ sym mine ∙ sym (source-at its)) (λ z. omega (arith, z, source-at k, other, known)))

  module _ (k : ℕ) (below : k < records) (before : 0 < (record_of s k).source → known_by (record_of s k) ≡ last (record_of s k).source) where
    -- what is known of a record by the messages so far
    abbrev Fits : Station → (ℕ → Told) → Type 0
    Fits r l = 0 < r.source → known_by r ≡ l r.source

    heard-fits : c.what ≡ Hear → answer.number ≡ 0
        → Fits (pick (eqb k its) (entered told (old k)) (old k)) (λ x. pick (eqb told.source x) (known_by (entered told (old k))) (last x))
    unfolding entered
    heard-fits what number = go (ℕ_discrete k its)
      where
        go : Dec (k ≡ its) → Fits (pick (eqb k its) (entered told (old k)) (old k)) (λ x. pick (eqb told.source x) (known_by (entered told (old k))) (last x))
        go (yes e) = rw (eq-eqb k its e) (λ h. rw (eq-eqb told.source told.source refl))
        go (no n) =
            rw (ne_eqb k its n)
            (λ h. rw (ne_eqb told.source (record_of s k).source (no_other what number k below n h)) (before h))

    done-fits : (q : What) → c.what ≡ q → answer.number ≡ 0 → Fits (done_to q c.bytes answer.values then k (old k)) (λ x. told_then q c.bytes x (last x))
    unfolding entered
    done-fits Nothing w z = before
    done-fits Hear w z = heard-fits w z
    done-fits (Plan p) w z = before
    done-fits (Own o) w z = before
    done-fits (Choose a) w z = held (is_replaced then (get_or answer.values 0 0) a.timeout k)
      where
        held : (b : Bool) → Fits (pick b (with_hold (old k) hold_off) (old k)) last
        held true = before
        held false = before
    done-fits (Report t) w z = before
    done-fits New w z = λ h. absurd (omega (arith, h))
    done-fits Sum w z = before

    after-fits : Fits (record_of (after_call s c) k) (λ x. pick (eqb answer.number 0) (told_then c.what c.bytes x (last x)) (last x))
    after-fits =
        subst (λ (r : Station). Fits r (λ x. pick (eqb answer.number 0) (told_then c.what c.bytes x (last x)) (last x))) (sym (record-by-call s c k size below))
        (go (eqb answer.number 0) refl)
      where
        go : (z : Bool) → eqb answer.number 0 ≡ z
            → Fits (pick z (done_to c.what c.bytes answer.values then k (old k)) (old k)) (λ x. pick z (told_then c.what c.bytes x (last x)) (last x))
        go true e = done-fits c.what refl (eqb-true answer.number 0 e)
        go false e = before

-- ---- any row of calls

pub last-message-decides : LastMessageDecides
unfolding after_all last_told
last-message-decides [] k below = λ h. absurd (omega (arith, ap (λ (r : Station). r.source) (new-record slot_times records k below), h))
last-message-decides (c ∷ cs) k below =
    after-fits (after_all cs) c (fine-sized (after_all cs) (grown cs)) (always Agrees agreed (c ∷ cs)).apart (last_told cs) k below (last-message-decides cs k below)
