-- A field as a part of the number of eight bytes: what the code reads and writes is the field of the definitions.
-- Assumes nothing.
use mathlib.Core.Path.{◌≡◌, refl, sym, ap, ap₂, ◌∙◌}
use mathlib.Core.List.{List, [], ◌∷◌, ◌++◌, append_assoc}
use Prim.Native.Nat.{ℕ, suc, ◌+◌, ◌-◌, ◌*◌, ◌/◌, ◌%◌, ◌^◌, ◌≤◌, ◌<◌}
use native.Mathlib.Nat.{one-mul, mod-lt}
use native.Mathlib.Omega.{arith}
use lib.Arith.{digits_lt}
use lib.ListN.{length, get_or, take, drop, length-append}
use lib.Pow.{pow_pos, pow-add, shl_exact, shr_lt, split, high, low, mod-pow-add, field, shr-shr, shl-shr}
use lib.Seq.{sets, drop-cons, length-take-le, length-sets, sets-eq}
use Rattle.laws.specs.Lists.{AllBytes}
use Rattle.laws.proofs.Lists.{all-bytes, three-parts}
use Rattle.bits.specs.Bits.{high_first, high_value, joined}
use Rattle.bits.specs.Field.{bits_of, packed, field_of, spliced, put_field, word_of, bytes_of_word}
use Rattle.bits.proofs.Bits.{length-high_first, high-append, high-low, high-back, value-high, value-append}
use Rattle.bits.proofs.Spreading.{places}
use Rattle.bits.proofs.Fields.{length-bits, bits_are, bits-append, packed-bits, spliced-middle, field-there}

-- ---- bytes as a number

-- the number of bytes, the first one the highest, after those of a
unfoldable number_of : ℕ → List ℕ → ℕ
number_of a [] = a
number_of a (b ∷ bs) = number_of (a * 256 + b) bs

number-value : (bs : List ℕ) (a : ℕ) → AllBytes bs → high_value a (bits_of bs) ≡ number_of a bs
unfolding number_of AllBytes bits_of joined high_value
number-value [] a h = refl
number-value (b ∷ bs) a h =
    let m : high_value a (high_first 8 b) ≡ a * 256 + b = value-high 8 b a ∙ omega (arith, h.0) in
    value-append (high_first 8 b) (bits_of bs) a ∙ rw m (number-value bs (a * 256 + b) h.1)

-- eight bytes have the bits of their number
number-bits : (bs : List ℕ) → length bs ≡ 8 → AllBytes bs → bits_of bs ≡ high_first 64 (number_of 0 bs)
number-bits bs n h =
    let e : length (bits_of bs) ≡ 64 = omega (arith, length-bits bs) in
    sym (rw (e, number-value bs 0 h) at (high-back (bits_of bs) 0 (bits_are bs)))

eight-at : (l : List ℕ) (s : ℕ) → s + 8 ≤ length l
    → take 8 (drop s l) ≡ get_or l s 0 ∷ get_or l (s + 1) 0 ∷ get_or l (s + 2) 0 ∷ get_or l (s + 3) 0 ∷ get_or l (s + 4) 0 ∷ get_or l (s + 5) 0 ∷ get_or l (s + 6) 0 ∷ get_or l (s + 7) 0 ∷ []
eight-at l s h =
    let p = places s in
    let d : (i : ℕ) → i < length l → drop i l ≡ get_or l i 0 ∷ drop (suc i) l = λ i h. drop-cons l i 0 h in
    rw (
      p.0,
      p.1,
      p.2,
      p.3,
      p.4,
      p.5,
      p.6,
      d s (omega arith),
      d (suc s) (omega arith),
      d (suc (suc s)) (omega arith),
      d (suc (suc (suc s))) (omega arith),
      d (suc (suc (suc (suc s)))) (omega arith),
      d (suc (suc (suc (suc (suc s))))) (omega arith),
      d (suc (suc (suc (suc (suc (suc s)))))) (omega arith),
      d (suc (suc (suc (suc (suc (suc (suc s))))))) (omega arith),
    )

-- each of eight is a byte
abbrev Small : ℕ → ℕ → ℕ → ℕ → ℕ → ℕ → ℕ → ℕ → Type 0
Small a b c d e f g h = (a < 256) × (b < 256) × (c < 256) × (d < 256) × (e < 256) × (f < 256) × (g < 256) × (h < 256)

eight-small : (l : List ℕ) → ((i : ℕ) → get_or l i 0 < 256) → (s : ℕ)
    → Small (get_or l s 0) (get_or l (s + 1) 0) (get_or l (s + 2) 0) (get_or l (s + 3) 0) (get_or l (s + 4) 0) (get_or l (s + 5) 0) (get_or l (s + 6) 0) (get_or l (s + 7) 0)
eight-small l h s = (h s, h (s + 1), h (s + 2), h (s + 3), h (s + 4), h (s + 5), h (s + 6), h (s + 7))

-- ---- the bits of eight bytes

bytes_bits : (z : ℕ) → bits_of (bytes_of_word z) ≡ high_first 64 z
unfolding number_of AllBytes bytes_of_word
bytes_bits z =
    number-bits (bytes_of_word z) refl (omega arith)
    ∙ ap (high_first 64) (omega (arith, mod-pow-add z 8 56, mod-pow-add z 8 48, mod-pow-add z 8 40, mod-pow-add z 8 32, mod-pow-add z 8 24, mod-pow-add z 8 16, mod-pow-add z 8 8))
    ∙ high-low 64 z

-- ---- the bits of a number in three parts, and v in the place of the middle one

-- the number with v for the w bits that stand before the last r
replaced : ℕ → ℕ → ℕ → ℕ → ℕ
replaced w r a v = a - a / 2 ^ r % 2 ^ w * 2 ^ r + v * 2 ^ r

digits : (w r a : ℕ) → a ≡ (a / 2 ^ r / 2 ^ w * 2 ^ w + a / 2 ^ r % 2 ^ w) * 2 ^ r + a % 2 ^ r
digits w r a = sym (ap (λ (h : ℕ). h * 2 ^ r + a % 2 ^ r) (split (a / 2 ^ r) w) ∙ split a r)

replaced-is : (w r a v : ℕ) → replaced w r a v ≡ (a / 2 ^ r / 2 ^ w * 2 ^ w + v) * 2 ^ r + a % 2 ^ r
unfolding replaced
replaced-is w r a v = go (a / 2 ^ r / 2 ^ w * 2 ^ w) (a / 2 ^ r % 2 ^ w) (2 ^ r) (a % 2 ^ r) (digits w r a)
  where
    go : (h m p k : ℕ) → a ≡ (h + m) * p + k → a - m * p + v * p ≡ (h + v) * p + k
    go h m p k e = omega arith

replaced-fits : (q w r a v : ℕ) → a < 2 ^ (q + w + r) → v < 2 ^ w → replaced w r a v < 2 ^ (q + w + r)
replaced-fits q w r a v h small =
    let up : a / 2 ^ r / 2 ^ w < 2 ^ q = shr_lt q w (shr_lt (q + w) r h) in
    rw (replaced-is w r a v, pow-add 2 (q + w) r, pow-add 2 q w) (digits_lt (digits_lt up small) (mod-lt a (pow_pos r)))

high-three : (q w r a : ℕ) → high_first (q + w + r) a ≡ high_first q (a / 2 ^ r / 2 ^ w) ++ high_first w (a / 2 ^ r) ++ high_first r a
high-three q w r a = high-append (q + w) r a ∙ ap (◌++ high_first r a) (high-append q w (a / 2 ^ r))

high-replaced : (q w r a v : ℕ) → v < 2 ^ w → high_first (q + w + r) (replaced w r a v) ≡ high_first q (a / 2 ^ r / 2 ^ w) ++ high_first w v ++ high_first r a
high-replaced q w r a v small =
    let h = a / 2 ^ r / 2 ^ w in
    let up : replaced w r a v / 2 ^ r ≡ h * 2 ^ w + v = rw (replaced-is w r a v) (high (h * 2 ^ w + v) r (mod-lt a (pow_pos r))) in
    let down : replaced w r a v % 2 ^ r ≡ a % 2 ^ r = rw (replaced-is w r a v) (low (h * 2 ^ w + v) r (mod-lt a (pow_pos r))) in
    let mid : high_first w (h * 2 ^ w + v) ≡ high_first w v = sym (high-low w (h * 2 ^ w + v)) ∙ ap (high_first w) (low h w small) in
    let end : high_first r (replaced w r a v) ≡ high_first r a = sym (high-low r (replaced w r a v)) ∙ ap (high_first r) down ∙ high-low r a in
    high-three q w r (replaced w r a v) ∙ rw (up, high h w small, mid, end)

-- ---- the numbers as the code computes them

-- how many bits of the eight bytes from place s on follow a field
abbrev pub over : ℕ → ℕ → ℕ → ℕ
over s at w = 64 - (at - 8 * s) - w

-- the old field in its place, and the new number, as the code computes them from the number a
abbrev pub old_part : ℕ → ℕ → ℕ → ℕ → ℕ
old_part s at w a = a / 2 ^ over s at w % (1 * 2 ^ w % 2 ^ 64) * 2 ^ over s at w % 2 ^ 64

abbrev pub new_word : ℕ → ℕ → ℕ → ℕ → ℕ → ℕ
new_word s at w a v = a - old_part s at w a + v * 2 ^ over s at w % 2 ^ 64

-- the eight bytes from place s on hold the field
pub record Holds (len s at w : ℕ) : Type 0 where
  pub fits : s + 8 ≤ len
  pub begins : 8 * s ≤ at
  pub ends : at + w ≤ 8 * s + 64
  pub narrow : w < 64

module _ {len s at w : ℕ} (here : Holds len s at w) where
  counted : at - 8 * s + w + over s at w ≡ 64
  counted = omega (arith, here.begins, here.ends)

  mask : 1 * 2 ^ w % 2 ^ 64 ≡ 2 ^ w
  mask = shl_exact 1 w 64 (omega arith) (omega (arith, here.narrow)) ∙ one-mul (2 ^ w)

  up-exact : (v : ℕ) → v < 2 ^ w → v * 2 ^ over s at w % 2 ^ 64 ≡ v * 2 ^ over s at w
  up-exact v small = shl_exact w (over s at w) 64 small (omega (arith, counted))

  old-exact : (a : ℕ) → old_part s at w a ≡ a / 2 ^ over s at w % 2 ^ w * 2 ^ over s at w
  old-exact a = rw mask (up-exact (a / 2 ^ over s at w % 2 ^ w) (mod-lt (a / 2 ^ over s at w) (pow_pos w)))

  as_code : (a v : ℕ) → v < 2 ^ w → new_word s at w a v ≡ replaced w (over s at w) a v
  unfolding replaced
  as_code a v small = ap₂ (λ (x y : ℕ). a - x + y) (old-exact a) (up-exact v small)

  pub new-fits : (a v : ℕ) → a < 2 ^ 64 → v < 2 ^ w → new_word s at w a v < 2 ^ 64
  new-fits a v h small = rw (as_code a v small) (rw counted at (replaced-fits (at - 8 * s) w (over s at w) a v (rw counted h) small))

-- ---- a field in the bytes

module _ (l : List ℕ) (bytes : (i : ℕ) → get_or l i 0 < 256) (s at w : ℕ) (here : Holds (length l) s at w) where
  word-bits : bits_of (take 8 (drop s l)) ≡ high_first 64 (word_of l s)
  unfolding number_of AllBytes word_of
  word-bits =
      ap bits_of (eight-at l s here.fits)
      ∙ number-bits _ refl (omega (arith, eight-small l bytes s))
      ∙ ap (high_first 64) (omega arith)

  -- the bytes with the number z at place s, as bits
  around : ℕ → List ℕ
  around z = bits_of (take s l) ++ high_first 64 z ++ bits_of (drop (s + 8) l)

  bits-around : bits_of l ≡ around (word_of l s)
  unfolding around
  bits-around =
      ap bits_of (three-parts l s 8) ∙ bits-append (take s l ++ take 8 (drop s l)) (drop (s + 8) l)
      ∙ ap (◌++ bits_of (drop (s + 8) l)) (bits-append (take s l) (take 8 (drop s l)) ∙ ap (bits_of (take s l) ++◌) word-bits)

  put-around : (z : ℕ) → bits_of (sets l s (bytes_of_word z)) ≡ around z
  unfolding around bytes_of_word
  put-around z =
      ap bits_of (sets-eq (bytes_of_word z) l s here.fits) ∙ bits-append (take s l ++ bytes_of_word z) (drop (s + 8) l)
      ∙ ap (◌++ bits_of (drop (s + 8) l)) (bits-append (take s l) (bytes_of_word z) ∙ ap (bits_of (take s l) ++◌) (bytes_bits z))

  -- the bits before the field, and those after it
  lead : List ℕ
  lead = bits_of (take s l) ++ high_first (at - 8 * s) (word_of l s / 2 ^ over s at w / 2 ^ w)

  rest : List ℕ
  rest = high_first (over s at w) (word_of l s) ++ bits_of (drop (s + 8) l)

  length-lead : length lead ≡ at
  unfolding lead
  length-lead =
      let h = word_of l s / 2 ^ over s at w / 2 ^ w in
      omega (arith, length-append (bits_of (take s l)) (high_first (at - 8 * s) h), length-bits (take s l), length-take-le s l (omega (arith, here.fits)), length-high_first (at - 8 * s) h, here.begins)

  parted : (z m : ℕ) → high_first (at - 8 * s + w + over s at w) z ≡ high_first (at - 8 * s) (word_of l s / 2 ^ over s at w / 2 ^ w) ++ high_first w m ++ high_first (over s at w) (word_of l s)
      → around z ≡ lead ++ high_first w m ++ rest
  unfolding around lead rest
  parted z m e = ap (λ (t : List ℕ). bits_of (take s l) ++ t ++ bits_of (drop (s + 8) l)) (rw (counted here) at e) ∙ simp append_assoc

  bits-parted : bits_of l ≡ lead ++ high_first w (word_of l s / 2 ^ over s at w) ++ rest
  bits-parted = bits-around ∙ parted (word_of l s) (word_of l s / 2 ^ over s at w) (high-three (at - 8 * s) w (over s at w) (word_of l s))

  -- shifted up and down again: the field without what is before and after it
  shifted : (a : ℕ) → a * 2 ^ (at - 8 * s) % 2 ^ 64 / 2 ^ (64 - w) ≡ a / 2 ^ over s at w % 2 ^ w
  shifted a =
      let k = at - 8 * s in
      let top : w + (64 - w) ≡ 64 = omega (arith, here.narrow) in
      let down : 64 - w ≡ k + over s at w = omega (arith, counted here) in
      ap (λ (n : ℕ). a * 2 ^ k % 2 ^ n / 2 ^ (64 - w)) (sym top) ∙ field (a * 2 ^ k) w (64 - w)
      ∙ ap (λ (n : ℕ). a * 2 ^ k / 2 ^ n % 2 ^ w) down ∙ ap (◌% 2 ^ w) (sym (shr-shr (a * 2 ^ k) k (over s at w)) ∙ ap (◌/ 2 ^ over s at w) (shl-shr a k))

  pub field_is : {a : ℕ} → a ≡ word_of l s → a * 2 ^ (at - 8 * s) % 2 ^ 64 / 2 ^ (64 - w) ≡ field_of l at w
  field_is {a} e =
      shifted a ∙ ap (λ (b : ℕ). b / 2 ^ over s at w % 2 ^ w) e ∙ sym (field-there l lead rest at w (word_of l s / 2 ^ over s at w) length-lead bits-parted)

  pub put_is : (v : ℕ) → v < 2 ^ w → {out : List ℕ} {a : ℕ} → a ≡ word_of l s
      → out ≡ sets l s (bytes_of_word (new_word s at w a v))
      → ((i : ℕ) → get_or out i 0 < 256) → out ≡ put_field l at w v
  unfolding put_field
  put_is v small {out} {a} ea e known =
      let m = word_of l s / 2 ^ over s at w in
      let z = replaced w (over s at w) (word_of l s) v in
      let put : out ≡ sets l s (bytes_of_word z) = e ∙ ap (λ (t : ℕ). sets l s (bytes_of_word t)) (as_code here a v small ∙ ap (λ (b : ℕ). replaced w (over s at w) b v) ea) in
      let wrote : bits_of out ≡ lead ++ high_first w v ++ rest = ap bits_of put ∙ put-around z ∙ parted z v (high-replaced (at - 8 * s) w (over s at w) (word_of l s) v small) in
      let meant : spliced (bits_of l) at w v ≡ lead ++ high_first w v ++ rest =
      ap (λ (b : List ℕ). spliced b at w v) bits-parted ∙ spliced-middle lead (high_first w m) rest at w v length-lead (length-high_first w m) in
      sym (packed-bits out (all-bytes out known)) ∙ ap₂ packed (ap length put ∙ length-sets l s (bytes_of_word z)) (wrote ∙ sym meant)
