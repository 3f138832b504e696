-- Five ones in a row, and the lowest mark: how both go from a number to its half. And what the proofs on words of bits share.
-- Assumes nothing.
use Rattle.std.proofs.Common.{◌≡◌, ℕ, zero, suc, ◌+◌, ◌-◌, ◌*◌, ◌/◌, ◌%◌, ◌^◌, ◌<◌, ◌≤◌, Bool, true, false, T, eqb, sym, refl, ap, ◌∙◌, ap₂, mul_comm, pow-suc, add-one, arith, ne_eqb, eqb-true}
use native.Mathlib.Nat.{div-div-eq-div-mul}
use lib.Bits.{bit_and, bit_xor, xor_step, xor_self, xor_zero_l, xor_lt, and_shr, and_mod}
use lib.Pow.{mod-pow-add}
use Rattle.laws.specs.Tests.{pick}
use Rattle.laws.proofs.Tests.{is_true}
use Rattle.laws.proofs.Table.{all_below, below}
use Rattle.stuffing.specs.Marks.{fives_of, up_to_lowest}

-- ---- what the proofs on words of bits share

pub half-shift : (x h : ℕ) → x / 2 / 2 ^ h ≡ x / 2 ^ suc h
half-shift x h = div-div-eq-div-mul x 2 (2 ^ h) ∙ ap (x /◌) (mul_comm 2 (2 ^ h) ∙ sym (pow-suc 2 h))

-- ---- five ones in a row

-- is there a mark at the lowest of these five bits
unfoldable pub mark : ℕ → ℕ
mark w = pick (eqb (w % 32) 31) 1 0

pub mark-bit : (w : ℕ) → mark w ≤ 1
unfolding mark
mark-bit w = go (eqb (w % 32) 31)
  where
    go : (b : Bool) → pick b 1 0 ≤ 1
    go true = omega arith
    go false = omega arith

-- the lowest n marks
unfoldable pub marks_of : ℕ → ℕ → ℕ
marks_of zero w = 0
marks_of (suc n) w = mark w + 2 * marks_of n (w / 2)

half-and : (a b : ℕ) → bit_and a b / 2 ≡ bit_and (a / 2) (b / 2)
half-and a b = and_shr a b 1

fives-half : (w : ℕ) → fives_of w / 2 ≡ fives_of (w / 2)
unfolding fives_of
fives-half w =
    let t = bit_and w (w / 2) in
    let q : t / 4 / 2 ≡ t / 2 / 4 = omega arith in
    let e : w / 16 / 2 ≡ w / 2 / 16 = omega arith in
    half-and (bit_and t (t / 4)) (w / 16) ∙ ap₂ bit_and (half-and t (t / 4) ∙ ap₂ bit_and (half-and w (w / 2)) (q ∙ ap (λ (x : ℕ). x / 4) (half-and w (w / 2)))) e

fives-here : ℕ → Bool
unfolding fives_of mark
fives-here w = eqb (fives_of w % 2) (mark w)

all-fives-here : T (all_below fives-here 32)
unfolding fives-here
all-fives-here = tt

-- only the low five bits count
fives-bits : (w : ℕ) → fives_of w % 2 ≡ bit_and (bit_and (bit_and (w % 2) (w / 2 % 2)) (bit_and (w / 4 % 2) (w / 2 / 4 % 2))) (w / 16 % 2)
unfolding fives_of
fives-bits w =
    let t = bit_and w (w / 2) in
    let e : t % 2 ≡ bit_and (w % 2) (w / 2 % 2) = and_mod w (w / 2) 1 in
    let f : t / 4 % 2 ≡ bit_and (w / 4 % 2) (w / 2 / 4 % 2) = ap (λ (x : ℕ). x % 2) (and_shr w (w / 2) 2) ∙ and_mod (w / 4) (w / 2 / 4) 1 in
    and_mod (bit_and t (t / 4)) (w / 16) 1 ∙ ap (λ (x : ℕ). bit_and x (w / 16 % 2)) (and_mod t (t / 4) 1 ∙ ap₂ bit_and e f)

five-low : (w : ℕ) → (w % 32 % 2 ≡ w % 2) × (w % 32 / 2 % 2 ≡ w / 2 % 2) × (w % 32 / 2 / 2 % 2 ≡ w / 2 / 2 % 2) × (w % 32 / 2 / 2 / 2 % 2 ≡ w / 2 / 2 / 2 % 2)
    × (w % 32 / 2 / 2 / 2 / 2 % 2 ≡ w / 2 / 2 / 2 / 2 % 2)
five-low w = (omega arith, omega arith, omega arith, omega arith, omega arith)

halves : (w : ℕ) → (w / 4 ≡ w / 2 / 2) × (w / 2 / 4 ≡ w / 2 / 2 / 2) × (w / 16 ≡ w / 2 / 2 / 2 / 2)
halves w = (omega arith, omega arith, omega arith)

fives-low : (w : ℕ) → fives_of w % 2 ≡ fives_of (w % 32) % 2
fives-low w =
    let l = five-low w in
    let h = halves w in
    let g = halves (w % 32) in
    (rw (h.0, h.1, h.2) at (fives-bits w)) ∙ sym (rw (g.0, g.1, g.2, l.0, l.1, l.2, l.3, l.4) at (fives-bits (w % 32)))

mark-low : (w : ℕ) → mark (w % 32) ≡ mark w
unfolding mark
mark-low w = let e : w % 32 % 32 ≡ w % 32 = omega arith in rw e

pub fives-first : (w : ℕ) → fives_of w % 2 ≡ mark w
unfolding fives-here
fives-first w = fives-low w ∙ eqb-true _ _ (is_true {b = fives-here (w % 32)} (below fives-here 32 all-fives-here (w % 32) (omega arith))) ∙ mark-low w

pub fives-marks : (n w : ℕ) → fives_of w % 2 ^ n ≡ marks_of n w
unfolding marks_of
fives-marks zero w = omega arith
fives-marks (suc n) w =
    let m : fives_of w % 2 ^ suc n ≡ fives_of w / 2 % 2 ^ n * 2 + fives_of w % 2 = rw (add-one n) at (mod-pow-add (fives_of w) n 1) in
    m ∙ rw (fives-half w, fives-marks n (w / 2), fives-first w) (omega arith)

-- ---- the lowest mark

pub lowest-odd : (m : ℕ) → m % 2 ≡ 1 → up_to_lowest m ≡ 1
unfolding up_to_lowest
lowest-odd m e =
    let h : (m - 1) / 2 ≡ m / 2 = omega arith in
    let r : (m - 1) % 2 ≡ 0 = omega arith in
    simp (ne_eqb m 0 (λ z. omega arith)) (xor_step m (m - 1) ∙ rw (h, r, e) (ap (λ (x : ℕ). x * 2 + 1) (xor_self (m / 2))))

pub lowest-even : (m : ℕ) → m % 2 ≡ 0 → 0 < m → up_to_lowest m ≡ up_to_lowest (m / 2) * 2 + 1
unfolding up_to_lowest
lowest-even m e some =
    let h : (m - 1) / 2 ≡ m / 2 - 1 = omega arith in
    let r : (m - 1) % 2 ≡ 1 = omega arith in
    simp (ne_eqb m 0 (λ z. omega arith), ne_eqb (m / 2) 0 (λ z. omega arith)) (xor_step m (m - 1) ∙ rw (h, r, e) refl)

-- as the code computes it
pub lowest-is : (m : ℕ) → m < 2 ^ 64 → bit_xor m ((m + (2 ^ 64 - 1)) % 2 ^ 64) ≡ up_to_lowest m
unfolding up_to_lowest
lowest-is zero h = xor_zero_l _
lowest-is (suc m) h =
    let e : (suc m + (2 ^ 64 - 1)) % 2 ^ 64 ≡ suc m - 1 = omega arith in
    simp (ne_eqb (suc m) 0 (λ z. omega arith)) (ap (bit_xor (suc m)) e)

-- what it tells of whether there is a mark
pub lowest-none : up_to_lowest 0 ≡ 2 ^ 64 - 1
unfolding up_to_lowest
lowest-none = refl

pub lowest-small : (n m : ℕ) → 0 < m → m < 2 ^ n → up_to_lowest m < 2 ^ n
unfolding up_to_lowest
lowest-small n m some h = simp (ne_eqb m 0 (λ z. omega arith)) (xor_lt n m (m - 1) h (omega arith))
