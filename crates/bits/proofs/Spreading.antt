-- A byte's bits as eight bytes, and back: a test at each byte, and places counted up.
-- Assumes nothing.
use mathlib.Core.Path.{◌≡◌, sym, ap, ap₂, ◌∙◌}
use mathlib.Core.Bool.{Bool, true}
use mathlib.Core.List.{List, [], ◌∷◌, ◌++◌, append_assoc}
use Prim.Native.Nat.{ℕ, suc, ◌+◌, ◌-◌, ◌*◌, ◌/◌, ◌%◌, ◌^◌, ◌≤◌, ◌<◌}
use native.Mathlib.Nat.{pow-suc, mul_assoc}
use native.Mathlib.Omega.{arith}
use borrow.Rule.Slice.PartMut.{put_mid}
use lib.Bits.{bit_and}
use borrow.Author.Tests.{eqb-true}
use lib.Dec.{T, eqb}
use lib.ListN.{length, get_or, take, drop, length-drop}
use lib.Seq.{sets, sets-eq, get_or-take, get_or-drop, length-take-le, take-add, drop-drop}
use Rattle.std.specs.Int.{w64, from_le_bytes}
use Rattle.laws.specs.Lists.{same}
use Rattle.laws.proofs.Tests.{is_true}
use Rattle.laws.proofs.Lists.{same→eq}
use Rattle.laws.proofs.Table.{all_below, below}
use Rattle.bits.specs.Bits.{low_first, high_first, low_value, all_bits, eight_of}
use Rattle.bits.specs.Field.{word_of}
use Rattle.bits.proofs.Bits.{all_bits-take, all_bits-drop, bits_back, value-bound}

-- as the code computes it
pub spreading : ℕ → ℕ
spreading t = bit_and ((t * 0x0040201008040201 + t * 2 ^ 63 % 2 ^ 64) / 128) 0x0101010101010101

spreads-well : ℕ → Bool
unfolding spreading same high_first eight_of
spreads-well t = same (eight_of (spreading t)) (high_first 8 t)

all-spread-well : T (all_below spreads-well 256)
unfolding spreads-well
all-spread-well = tt

pub spread-bits : (t : ℕ) → t < 256 → eight_of (bit_and ((t * 0x0040201008040201 + t * 2 ^ 63 % 2 ^ 64) / 128) 0x0101010101010101) ≡ high_first 8 t
unfolding spreading spreads-well
spread-bits t h = same→eq _ _ (is_true {b = spreads-well t} (below spreads-well 256 all-spread-well t h))

-- eight places, one after the other
pub places : (at : ℕ) → (at + 1 ≡ suc at) × (at + 2 ≡ suc (suc at)) × (at + 3 ≡ suc (suc (suc at))) × (at + 4 ≡ suc (suc (suc (suc at))))
    × (at + 5 ≡ suc (suc (suc (suc (suc at))))) × (at + 6 ≡ suc (suc (suc (suc (suc (suc at)))))) × (at + 7 ≡ suc (suc (suc (suc (suc (suc (suc at)))))))
places at = (omega arith, omega arith, omega arith, omega arith, omega arith, omega arith, omega arith)

-- a write to k places from place at on
pub part-put : (out : List ℕ) (at k : ℕ) {ys zs : List ℕ} → at + k ≤ length out → ys ≡ zs → length zs ≡ k → put_mid at (at + k - at) out ys ≡ sets out at zs
part-put out at k {ys} {zs} room e n =
    let m : at + k - at ≡ k = omega arith in
    ap₂ (λ (j : ℕ) (t : List ℕ). take at out ++ (t ++ drop j (drop at out))) m e
    ∙ sym (sets-eq zs out at (omega (arith, n)) ∙ append_assoc (take at out) zs (drop (at + length zs) out)
    ∙ ap (λ (t : List ℕ). take at out ++ (zs ++ t)) (ap (λ (j : ℕ). drop (at + j) out) n ∙ sym (drop-drop k at out)))

-- ---- neighbours taken out

taken : (n : ℕ) (l : List ℕ) (at i : ℕ) → i < n → get_or (take n (drop at l)) i 0 ≡ get_or l (at + i) 0
taken n l at i h = get_or-take n (drop at l) i 0 h ∙ get_or-drop at l i 0

pub word-there : (l : List ℕ) (at : ℕ) → word_of (take 8 (drop at l)) 0 ≡ word_of l at
unfolding word_of
word-there l at =
    let z : at + 0 ≡ at = omega arith in
    rw (
      taken 8 l at 0 (omega arith),
      taken 8 l at 1 (omega arith),
      taken 8 l at 2 (omega arith),
      taken 8 l at 3 (omega arith),
      taken 8 l at 4 (omega arith),
      taken 8 l at 5 (omega arith),
      taken 8 l at 6 (omega arith),
      taken 8 l at 7 (omega arith),
      z,
    )

-- ---- eight bits as a byte

gathering : ℕ → ℕ
unfolding low_first
gathering v = from_le_bytes w64 (low_first 8 v) * 0x0102040810204080 % 2 ^ 64 / 2 ^ 56

gathers-well : ℕ → Bool
unfolding gathering
gathers-well v = eqb (gathering v) v

all-gather-well : T (all_below gathers-well 256)
unfolding gathers-well
all-gather-well = tt

module _ (l : List ℕ) (at : ℕ) (bits : all_bits l ≡ true) (fits : at + 8 ≤ length l) where
  eight : List ℕ
  eight = take 8 (drop at l)

  eight_is : low_first 8 (low_value eight) ≡ eight
  unfolding eight
  eight_is = bits_back 8 (take 8 (drop at l)) (length-take-le 8 (drop at l) (omega (arith, length-drop at l))) (all_bits-take 8 (drop at l) (all_bits-drop at l bits))

  pub gathered : {z : ℕ} → z ≡ from_le_bytes w64 (take 8 (drop at l)) → z * 0x0102040810204080 % 2 ^ 64 / 2 ^ 56 ≡ low_value (take 8 (drop at l))
  unfolding eight gathering gathers-well
  gathered ez =
      let v = low_value eight in
      ap (λ (x : ℕ). x * 0x0102040810204080 % 2 ^ 64 / 2 ^ 56) (ez ∙ ap (from_le_bytes w64) (sym eight_is))
      ∙ eqb-true _ _ (is_true {b = gathers-well v} (below gathers-well 256 all-gather-well v (value-bound 8 (drop at l) (all_bits-drop at l bits))))

-- ---- 32 bits as a word

value-append : (xs ys : List ℕ) → low_value (xs ++ ys) ≡ low_value xs + low_value ys * 2 ^ length xs
unfolding low_value
value-append [] ys = omega arith
value-append (x ∷ xs) ys = omega (arith, value-append xs ys, pow-suc 2 (length xs), mul_assoc (low_value ys) (2 ^ length xs) 2, ap (low_value ys *◌) (pow-suc 2 (length xs)))

value-more : (l : List ℕ) (at n : ℕ) → at + 8 ≤ length l → low_value (take (8 + n) (drop at l)) ≡ low_value (take 8 (drop at l)) + low_value (take n (drop (at + 8) l)) * 256
value-more l at n h =
    let first = take 8 (drop at l) in
    let e : take (8 + n) (drop at l) ≡ first ++ take n (drop (at + 8) l) = take-add 8 n (drop at l) ∙ ap (λ (t : List ℕ). first ++ take n t) (drop-drop 8 at l) in
    let k : length first ≡ 8 = length-take-le 8 (drop at l) (omega (arith, length-drop at l)) in
    ap low_value e ∙ value-append first (take n (drop (at + 8) l)) ∙ ap (λ (j : ℕ). low_value first + low_value (take n (drop (at + 8) l)) * 2 ^ j) k

pub word-is : (l : List ℕ) (at : ℕ) → at + 32 ≤ length l → {a b c d : ℕ} → a ≡ low_value (take 8 (drop at l)) → b ≡ low_value (take 8 (drop (at + 8) l)) → c ≡ low_value (take 8 (drop (at + 16) l))
    → d ≡ low_value (take 8 (drop (at + 24) l)) → a + b * 256 + c * 65536 + d * 16777216 ≡ low_value (take 32 (drop at l))
word-is l at h ea eb ec ed =
    let p : at + 8 + 8 ≡ at + 16 = omega arith in
    let q : at + 16 + 8 ≡ at + 24 = omega arith in
    omega (arith, value-more l at 24 (omega arith), rw p at (value-more l (at + 8) 16 (omega arith)), rw q at (value-more l (at + 16) 8 (omega arith)), ea, eb, ec, ed)
