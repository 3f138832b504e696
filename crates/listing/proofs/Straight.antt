-- The numbers of a message that stands in bytes, by the tests on the way from the bytes to the list.
-- Assumes nothing.
use mathlib.Core.Path.{◌≡◌, refl, sym, ap, ◌∙◌}
use mathlib.Core.Bool.{true, false}
use mathlib.Core.List.{List, [], ◌∷◌, ◌++◌}
use Prim.Native.Nat.{ℕ, zero, suc, ◌+◌, ◌-◌, ◌*◌, ◌/◌, ◌%◌, ◌≤◌}
use native.Mathlib.Decide.{ℕ_discrete}
use native.Mathlib.Numerals.{add-one}
use native.Mathlib.Omega.{arith}
use borrow.Author.Tests.{eqb-true, eqb-false}
use lib.Dec.{eqb}
use lib.IntN.{ℤ, pos}
use lib.ListN.{length, set}
use lib.Seq.{sets}
use Rattle.laws.specs.Tests.{between}
use Rattle.laws.proofs.Tests.{between_is}
use Rattle.message.specs.Sheet.{clock_from, sub_by, sub_from, organised_from, one_or_two}
use Rattle.message.specs.State.{organised_of, incremental_of}
use Rattle.message.specs.Message.{id_in, report_of, base_of, message_of}
use Rattle.message.specs.declared.state.SubMessage.TheVariants.{Time}
use Rattle.message.specs.declared.state.SelfOrganised.{SelfOrganised}
use Rattle.message.specs.declared.state.Incremental.{Incremental}
use Rattle.message.proofs.Readings.{sub-slot, sub-stations, message-four, message-three, message-other}
use Rattle.listing.specs.Listing.{report_numbers, base_numbers, sub_numbers, organised_numbers, incremental_numbers, numbers_of}

-- ---- the self-organised state: with time-out 1 the clock, with another one the time-out and 14 bits

pub sub-clock : (t v : ℕ) → t ≡ 1 → sub_numbers (sub_from t v) ≡ sub_numbers (Time (clock_from v))
unfolding sub_by
sub-clock t v e = ap (λ (n : ℕ). sub_numbers (sub_from n v)) e

abbrev plain : ℕ → ℕ → List ℤ
plain t v = pos t ∷ pos v ∷ []

counted : (t v : ℕ) → 2 ≤ t → Dec (t % 2 ≡ 0) → sub_numbers (sub_from t v) ≡ plain t v
counted t v h (yes m) =
    let p : 2 + 2 * ((t - 2) / 2) ≡ t = omega arith in
    ap sub_numbers (sym (sub-slot t v (clock_from v) (λ z. omega arith) (λ o. omega arith) m)) ∙ ap (λ (n : ℕ). plain n v) p
counted t v h (no m) =
    let p : 3 + 2 * ((t - 3) / 2) ≡ t = omega arith in
    ap sub_numbers (sym (sub-stations t v (clock_from v) (λ z. omega arith) (λ o. omega arith) m)) ∙ ap (λ (n : ℕ). plain n v) p

pub sub-plain : (t v : ℕ) → (t ≡ 1 → ⊥) → sub_numbers (sub_from t v) ≡ plain t v
unfolding sub_by
sub-plain zero v n = refl
sub-plain (suc zero) v n = absurd (n refl)
sub-plain (suc (suc t)) v n = counted (suc (suc t)) v (omega arith) (ℕ_discrete (suc (suc t) % 2) 0)

-- put one by one
pub two-put : (l : List ℤ) (at : ℕ) {x y x' y' : ℤ} → x ≡ x' → y ≡ y' → set (set l (at + 1) x) (at + 2) y ≡ sets l (at + 1) (x' ∷ y' ∷ [])
two-put l at e f =
    let two : at + 2 ≡ suc (at + 1) = omega arith in
    λ j. set (set l (at + 1) (e j)) (two j) (f j)

-- the sync state x, and after it the numbers of the sub-message
pub organised-put : (v : ℕ) (xs out out' : List ℤ) (at r : ℕ) (x : ℤ) → sub_numbers (organised_from v).sub ≡ xs → x ≡ pos (v / 131072)
    → r ≡ at + 1 + length xs → out' ≡ sets (set out at x) (at + 1) xs
    → (r ≡ at + length (organised_numbers (organised_from v))) × (out' ≡ sets out at (organised_numbers (organised_from v)))
organised-put v xs out out' at r x e f n s = (omega (arith, ap length e), s ∙ (λ j. sets (set out at (f j)) (add-one at j) (sym e j)))

-- ---- a message by its id

module _ (l : List ℕ) where
  abbrev base : SelfOrganised → List ℤ
  base s = base_numbers (base_of l) ++ organised_numbers s

  abbrev report : ℕ → List ℤ → List ℤ
  report id state = report_numbers id (report_of l) ++ state

  pub numbers-base : id_in l ≡ 4 → (s : SelfOrganised) → s ≡ organised_of l → numbers_of (message_of l) ≡ base s
  unfolding numbers_of
  numbers-base e s state = ap numbers_of (sym (message-four l e)) ∙ ap base (sym state)

  pub numbers-three : eqb (id_in l) 3 ≡ true → (i : Incremental) → i ≡ incremental_of l → numbers_of (message_of l) ≡ report (id_in l) (incremental_numbers i)
  unfolding numbers_of
  numbers-three e i state = ap numbers_of (sym (message-three l e)) ∙ (λ j. report (sym (eqb-true (id_in l) 3 e) j) (incremental_numbers (sym state j)))

  one-or-two : (id : ℕ) → 1 ≤ id → id ≤ 2 → (s : SelfOrganised) → numbers_of (one_or_two id (report_of l) s) ≡ report id (organised_numbers s)
  unfolding numbers_of one_or_two
  one-or-two zero h k s = absurd (omega arith)
  one-or-two (suc zero) h k s = refl
  one-or-two (suc (suc zero)) h k s = refl
  one-or-two (suc (suc (suc id))) h k s = absurd (omega arith)

  pub numbers-other : eqb (id_in l) 3 ≡ false → (id_in l ≡ 4 → ⊥) → between 1 4 (id_in l) ≡ true → (s : SelfOrganised) → s ≡ organised_of l
      → numbers_of (message_of l) ≡ report (id_in l) (organised_numbers s)
  numbers-other e n k s state =
      let b = between_is 1 4 (id_in l) k in
      ap numbers_of (sym (message-other l e n) ∙ ap (one_or_two (id_in l) (report_of l)) (sym state)) ∙ one-or-two (id_in l) b.0 (omega (arith, b, n, eqb-false (id_in l) 3 e)) s
