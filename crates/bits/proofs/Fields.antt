-- Fields of bytes, by the bits: a write changes the bits of its field and no others, and what is written is read again.
-- Assumes nothing.
use mathlib.Core.Path.{◌≡◌, sym, ap, ap₂, ◌∙◌}
use mathlib.Core.Bool.{true}
use mathlib.Core.List.{List, [], ◌++◌, append_assoc, append-nil}
use Prim.Native.Nat.{ℕ, ◌+◌, ◌-◌, ◌*◌, ◌/◌, ◌%◌, ◌^◌, ◌≤◌, ◌<◌}
use native.Mathlib.Nat.{mod-eq_of_lt}
use native.Mathlib.Omega.{arith}
use lib.ListN.{length, take, drop, length-take, length-drop, length-append, take-append-drop}
use lib.Seq.{take_all, take_at, drop_at, drop-drop, length-take-le}
use Rattle.laws.specs.Lists.{AllBytes}
use Rattle.laws.proofs.Lists.{take-middle, take_within, three-parts}
use Rattle.bits.specs.Bits.{high_first, high_value, all_bits}
use Rattle.bits.specs.Field.{bits_of, packed, field_of, spliced, put_field}
use Rattle.bits.proofs.Bits.{all_bits-append, all_bits-take, all_bits-drop, high_bits, length-high_first, high-append, high-back, high-bound, value-high}
use Rattle.bits.proofs.Bytes.{joined-append, length-joined, joined-bits, eights-joined, joined-eights}

-- ---- bytes as bits and back

pub length-bits : (l : List ℕ) → length (bits_of l) ≡ 8 * length l
unfolding bits_of
length-bits l = length-joined (high_first 8) (length-high_first 8) l

pub bits_are : (l : List ℕ) → all_bits (bits_of l) ≡ true
unfolding bits_of
bits_are l = joined-bits (high_first 8) (high_bits 8) l

pub bits-append : (xs ys : List ℕ) → bits_of (xs ++ ys) ≡ bits_of xs ++ bits_of ys
unfolding bits_of
bits-append xs ys = joined-append (high_first 8) xs ys

pub packed-bits : (l : List ℕ) → AllBytes l → packed (length l) (bits_of l) ≡ l
unfolding packed bits_of
packed-bits l h =
    let back : (b : ℕ) → b < 256 → high_value 0 (high_first 8 b) ≡ b = λ b h. value-high 8 b 0 ∙ omega arith in
    ap (packed (length l)) (sym (append-nil (bits_of l))) ∙ eights-joined (high_first 8) (high_value 0) (length-high_first 8) back l [] h

pub bits-packed : (n : ℕ) (bits : List ℕ) → length bits ≡ 8 * n → all_bits bits ≡ true → bits_of (packed n bits) ≡ bits
unfolding packed bits_of
bits-packed n bits l e =
    let back : (bs : List ℕ) → length bs ≡ 8 → all_bits bs ≡ true → high_first 8 (high_value 0 bs) ≡ bs = λ bs m e. rw m at (high-back bs 0 e) in
    joined-eights (high_first 8) (high_value 0) back n bits (omega arith) e ∙ take_all (8 * n) bits (omega arith)

-- ---- bits with others in the place of a part

pub spliced-middle : (xs ys zs : List ℕ) (at w v : ℕ) → length xs ≡ at → length ys ≡ w → spliced (xs ++ ys ++ zs) at w v ≡ xs ++ high_first w v ++ zs
unfolding spliced
spliced-middle xs ys zs at w v e f =
    ap₂ (λ (a b : List ℕ). a ++ high_first w v ++ b)
    (ap (take at) (append_assoc xs ys zs) ∙ take_at xs (ys ++ zs) at e)
    (drop_at (xs ++ ys) zs (at + w) (omega (arith, length-append xs ys)))

spliced-bits : (bits : List ℕ) (at w v : ℕ) → all_bits bits ≡ true → all_bits (spliced bits at w v) ≡ true
unfolding spliced
spliced-bits bits at w v e =
    all_bits-append (take at bits ++ high_first w v) (drop (at + w) bits) (all_bits-append (take at bits) (high_first w v) (all_bits-take at bits e) (high_bits w v)) (all_bits-drop (at + w) bits e)

length-spliced : (bits : List ℕ) (at w v : ℕ) → at + w ≤ length bits → length (spliced bits at w v) ≡ length bits
unfolding spliced
length-spliced bits at w v h =
    omega (arith, length-append (take at bits ++ high_first w v) (drop (at + w) bits), length-append (take at bits) (high_first w v), length-take at bits, length-high_first w v, length-drop (at + w) bits)

-- ---- fields

pub field_bound : (l : List ℕ) (at w : ℕ) → field_of l at w < 2 ^ w
unfolding field_of
field_bound l at w = high-bound w (drop at (bits_of l)) (all_bits-drop at (bits_of l) (bits_are l))

-- bits that stand in the bytes are the field there
pub field-there : (l pre post : List ℕ) (at w v : ℕ) → length pre ≡ at → bits_of l ≡ pre ++ high_first w v ++ post → field_of l at w ≡ v % 2 ^ w
unfolding field_of
field-there l pre post at w v e bits =
    ap (λ (t : List ℕ). high_value 0 (take w (drop at t))) bits ∙ ap (high_value 0) (take-middle pre (high_first w v) post at w e (length-high_first w v))
    ∙ value-high w v 0 ∙ omega arith

length-field : (l : List ℕ) (at w : ℕ) → at + w ≤ 8 * length l → length (take w (drop at (bits_of l))) ≡ w
length-field l at w h = length-take-le w (drop at (bits_of l)) (omega (arith, length-drop at (bits_of l), length-bits l))

pub field-bits : (l : List ℕ) (at w : ℕ) → at + w ≤ 8 * length l → high_first w (field_of l at w) ≡ take w (drop at (bits_of l))
unfolding field_of
field-bits l at w h =
    let part = take w (drop at (bits_of l)) in
    ap (λ (k : ℕ). high_first k (high_value 0 part)) (sym (length-field l at w h)) ∙ high-back part 0 (all_bits-take w (drop at (bits_of l)) (all_bits-drop at (bits_of l) (bits_are l)))

-- a part of a field: w bits, with i of the field's before them and j after them
pub field-part : (l : List ℕ) (at i w j : ℕ) → at + (i + w + j) ≤ 8 * length l → field_of l (at + i) w ≡ field_of l at (i + w + j) / 2 ^ j % 2 ^ w
unfolding field_of
field-part l at i w j h =
    let v = field_of l at (i + w + j) in
    let from_at = drop at (bits_of l) in
    let part = take (i + w + j) from_at in
    let apart : part ≡ high_first i (v / 2 ^ j / 2 ^ w) ++ high_first w (v / 2 ^ j) ++ high_first j v =
    sym (field-bits l at (i + w + j) h) ∙ high-append (i + w) j v ∙ ap (◌++ high_first j v) (high-append i w (v / 2 ^ j)) in
    let here : take w (drop i from_at) ≡ take w (drop i part) =
    ap (λ (t : List ℕ). take w (drop i t)) (sym (take-append-drop (i + w + j) from_at)) ∙ take_within part (drop (i + w + j) from_at) i w (omega (arith, length-field l at (i + w + j) h)) in
    ap (λ (t : List ℕ). high_value 0 (take w t)) (sym (drop-drop i at (bits_of l)))
    ∙ ap (high_value 0) (here ∙ ap (λ (t : List ℕ). take w (drop i t)) apart ∙ take-middle (high_first i (v / 2 ^ j / 2 ^ w)) (high_first w (v / 2 ^ j)) (high_first j v) i w (length-high_first i (v / 2 ^ j / 2 ^ w)) (length-high_first w (v / 2 ^ j)))
    ∙ value-high w (v / 2 ^ j) 0 ∙ omega arith

module _ (l : List ℕ) (at w v : ℕ) (fits : at + w ≤ 8 * length l) where
  inside : at + w ≤ length (bits_of l)
  inside = omega (arith, length-bits l)

  pub put-bits : bits_of (put_field l at w v) ≡ spliced (bits_of l) at w v
  unfolding put_field
  put-bits = bits-packed (length l) (spliced (bits_of l) at w v) (length-spliced (bits_of l) at w v inside ∙ length-bits l) (spliced-bits (bits_of l) at w v (bits_are l))

  front : length (take at (bits_of l)) ≡ at
  front = length-take-le at (bits_of l) (omega (arith, inside))

  pub get-put : v < 2 ^ w → field_of (put_field l at w v) at w ≡ v
  unfolding spliced
  get-put small = field-there (put_field l at w v) (take at (bits_of l)) (drop (at + w) (bits_of l)) at w v front put-bits ∙ mod-eq_of_lt small

  pub get-before : (i n : ℕ) → i + n ≤ at → field_of (put_field l at w v) i n ≡ field_of l i n
  unfolding field_of spliced
  get-before i n h =
      let b = bits_of l in
      let rest = high_first w v ++ drop (at + w) b in
      ap (λ (t : List ℕ). high_value 0 (take n (drop i t))) (put-bits ∙ append_assoc (take at b) (high_first w v) (drop (at + w) b))
      ∙ ap (high_value 0) (take_within (take at b) rest i n (omega (arith, front)) ∙ sym (take_within (take at b) (drop at b) i n (omega (arith, front))))
      ∙ ap (λ (t : List ℕ). high_value 0 (take n (drop i t))) (take-append-drop at b)

  pub get_after : (i n : ℕ) → at + w ≤ i → field_of (put_field l at w v) i n ≡ field_of l i n
  unfolding field_of spliced
  get_after i n h =
      let b = bits_of l in
      let on : at + w + (i - (at + w)) ≡ i = omega arith in
      let past : (t : List ℕ) → drop i t ≡ drop (i - (at + w)) (drop (at + w) t) = λ t. sym (drop-drop (i - (at + w)) (at + w) t ∙ ap (λ (k : ℕ). drop k t) on) in
      let same : drop (at + w) (spliced b at w v) ≡ drop (at + w) b =
      drop_at (take at b ++ high_first w v) (drop (at + w) b) (at + w) (length-append (take at b) (high_first w v) ∙ ap₂ ◌+◌ front (length-high_first w v)) in
      ap (λ (t : List ℕ). high_value 0 (take n (drop i t))) put-bits
      ∙ ap (λ (t : List ℕ). high_value 0 (take n t)) (past (spliced b at w v) ∙ ap (drop (i - (at + w))) same ∙ sym (past b))

pub put-get : (l : List ℕ) (at w : ℕ) → AllBytes l → at + w ≤ 8 * length l → put_field l at w (field_of l at w) ≡ l
unfolding put_field spliced
put-get l at w bytes fits =
    ap (λ (b : List ℕ). packed (length l) (take at (bits_of l) ++ b ++ drop (at + w) (bits_of l))) (field-bits l at w fits)
    ∙ ap (packed (length l)) (sym (three-parts (bits_of l) at w))
    ∙ packed-bits l bytes
