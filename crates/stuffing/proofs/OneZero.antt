-- One 0 put in after the lowest marked bit of a number: what it makes of the bits and of the marks, and that they are filled as before.
-- Assumes nothing.
use Rattle.std.proofs.Common.{◌≡◌, ℕ, zero, suc, ◌+◌, ◌-◌, ◌*◌, ◌/◌, ◌%◌, ◌^◌, ◌<◌, List, [], ◌∷◌, sym, refl, ap, ◌∙◌, ap₂, arith}
use lib.Bits.{bit_and, and_step, and_le_l, and_mask, shifted_half, shifted_even}
use Rattle.bits.specs.Bits.{low_first}
use Rattle.stuffing.specs.Marks.{up_to_lowest, filled}
use Rattle.stuffing.proofs.Marking.{half-shift, lowest-odd, lowest-even}

unfoldable pub with-zero : ℕ → ℕ → ℕ
with-zero v m = v + (v - bit_and v (up_to_lowest m))

unfoldable pub marks_then : ℕ → ℕ
marks_then m = (m - bit_and m (up_to_lowest m * 16 + 15)) * 2

pub record Longer (n v m v' m' : ℕ) : Type 0 where
  pub fills : filled 0 (low_first (suc n) m') (low_first (suc n) v') ≡ filled 0 (low_first n m) (low_first n v)
  pub small : v' < 2 ^ suc n
  pub marks : m' < 2 ^ suc n

-- marks that do not count may as well not be there
uncounted : (i j q : ℕ) (X : List ℕ) → filled i (low_first j q) X ≡ filled 0 (low_first j (q / 2 ^ i * 2 ^ i)) X
unfolding filled low_first
uncounted zero j q X = let e : q / 2 ^ 0 * 2 ^ 0 ≡ q = omega arith in rw e refl
uncounted (suc i) zero q X = refl
uncounted (suc i) (suc j) q [] = refl
uncounted (suc i) (suc j) q (x ∷ X) =
    let p : q / 2 ^ suc i ≡ q / 2 / 2 ^ i = sym (half-shift q i) in
    let a : q / 2 ^ suc i * 2 ^ suc i % 2 ≡ 0 = shifted_even (q / 2 ^ suc i) i in
    let b : q / 2 ^ suc i * 2 ^ suc i / 2 ≡ q / 2 / 2 ^ i * 2 ^ i = shifted_half (q / 2 ^ suc i) i ∙ ap (λ (z : ℕ). z * 2 ^ i) p in
    rw (a, b) (ap (λ (ys : List ℕ). x ∷ ys) (uncounted i j (q / 2) X))

low-is : (n x b h : ℕ) → x % 2 ≡ b → x / 2 ≡ h → low_first (suc n) x ≡ b ∷ low_first n h
unfolding low_first
low-is n x b h e f = ap₂ (λ (b h : ℕ). b ∷ low_first n h) e f

longer-here : (n v m : ℕ) → v < 2 ^ suc n → m < 2 ^ suc n → m % 2 ≡ 1 → Longer (suc n) v m (with-zero v m) (marks_then m)
unfolding with-zero marks_then filled
longer-here n v m small marks e =
    let low = lowest-odd m e in
    let av : bit_and v 1 ≡ v % 2 = and_mask v 1 in
    let am : bit_and m 31 ≡ m % 32 = and_mask m 5 in
    let v' : v + (v - bit_and v (up_to_lowest m)) ≡ v / 2 * 2 * 2 + v % 2 = rw low (omega arith) in
    let m' : (m - bit_and m (up_to_lowest m * 16 + 15)) * 2 ≡ m / 2 / 2 ^ 4 * 2 ^ 4 * 2 * 2 = rw low (omega arith) in
    rw (v', m') (record {
      fills = ap₂ (filled 0)
          (low-is (suc n) (m / 2 / 2 ^ 4 * 2 ^ 4 * 2 * 2) 0 (m / 2 / 2 ^ 4 * 2 ^ 4 * 2) (omega arith) (omega arith) ∙ ap (λ (xs : List ℕ). 0 ∷ xs) (low-is n (m / 2 / 2 ^ 4 * 2 ^ 4 * 2) 0 (m / 2 / 2 ^ 4 * 2 ^ 4) (omega arith) (omega arith)))
          (low-is (suc n) (v / 2 * 2 * 2 + v % 2) (v % 2) (v / 2 * 2) (omega arith) (omega arith) ∙ ap (λ (xs : List ℕ). v % 2 ∷ xs) (low-is n (v / 2 * 2) 0 (v / 2) (omega arith) (omega arith)))
          ∙ ap (λ (xs : List ℕ). v % 2 ∷ 0 ∷ xs) (sym (uncounted 4 n (m / 2) (low_first n (v / 2))))
          ∙ sym (ap₂ (filled 0) (low-is n m 1 (m / 2) e refl) (low-is n v (v % 2) (v / 2) refl refl));
      small = omega arith;
      marks = omega arith;
    })

longer-later : (k v m u q : ℕ) → m % 2 ≡ 0 → Longer k (v / 2) (m / 2) u q → Longer (suc k) v m (u * 2 + v % 2) (q * 2)
unfolding filled
longer-later k v m u q e r = record {
  fills = ap₂ (filled 0) (low-is (suc k) (q * 2) 0 q (omega arith) (omega arith)) (low-is (suc k) (u * 2 + v % 2) (v % 2) u (omega arith) (omega arith))
      ∙ ap (λ (xs : List ℕ). v % 2 ∷ xs) r.fills ∙ sym (ap₂ (filled 0) (low-is k m 0 (m / 2) e refl) (low-is k v (v % 2) (v / 2) refl refl));
  small = omega (arith, r.small);
  marks = omega (arith, r.marks);
}

-- the mark is further up: as the halves go
with-zero-later : (v m : ℕ) → m % 2 ≡ 0 → 0 < m → with-zero v m ≡ with-zero (v / 2) (m / 2) * 2 + v % 2
unfolding with-zero
with-zero-later v m e some =
    let L = up_to_lowest (m / 2) in
    let half : (L * 2 + 1) / 2 ≡ L = omega arith in
    let one : (L * 2 + 1) % 2 ≡ 1 = omega arith in
    let a : bit_and v (L * 2 + 1) ≡ bit_and (v / 2) L * 2 + v % 2 = and_step v (L * 2 + 1) ∙ rw (half, one) (omega arith) in
    rw (lowest-even m e some, a) (omega (arith, and_le_l (v / 2) L))

marks-then-later : (m : ℕ) → m % 2 ≡ 0 → 0 < m → marks_then m ≡ marks_then (m / 2) * 2
unfolding marks_then
marks-then-later m e some =
    let L = up_to_lowest (m / 2) in
    let half : ((L * 2 + 1) * 16 + 15) / 2 ≡ L * 16 + 15 = omega arith in
    let one : ((L * 2 + 1) * 16 + 15) % 2 ≡ 1 = omega arith in
    let a : bit_and m ((L * 2 + 1) * 16 + 15) ≡ bit_and (m / 2) (L * 16 + 15) * 2 = and_step m ((L * 2 + 1) * 16 + 15) ∙ rw (half, one, e) (omega arith) in
    rw (lowest-even m e some, a) (omega (arith, and_le_l (m / 2) (L * 16 + 15)))

pub longer : (n v m : ℕ) → v < 2 ^ n → m < 2 ^ n → 0 < m → Longer n v m (with-zero v m) (marks_then m)
longer zero v m small marks some = absurd (omega arith)
longer (suc n) v m small marks some = go (λ h. longer n (v / 2) (m / 2) (omega arith) (omega arith) h) (m % 2) refl (omega arith)
  where
    go : (0 < m / 2 → Longer n (v / 2) (m / 2) (with-zero (v / 2) (m / 2)) (marks_then (m / 2))) → (x : ℕ) → m % 2 ≡ x → x < 2 → Longer (suc n) v m (with-zero v m) (marks_then m)
    go ih zero e l = rw (with-zero-later v m e some, marks-then-later m e some) (longer-later n v m _ _ e (ih (omega arith)))
    go ih (suc zero) e l = longer-here n v m small marks e
    go ih (suc (suc x)) e l = absurd (omega arith)
