-- Fields in a row: their bits, rows laid over bytes one after the other, and rows read again.
-- Assumes nothing.
use mathlib.Core.Path.{◌≡◌, refl, sym, ap, ap₂, ◌∙◌}
use mathlib.Core.Bool.{Bool, true, false}
use mathlib.Core.List.{List, [], ◌∷◌, ◌++◌, append_assoc, append-nil}
use Prim.Native.Nat.{ℕ, zero, suc, ◌+◌, ◌*◌, ◌/◌, ◌%◌, ◌^◌, ◌≤◌, ◌<◌}
use native.Mathlib.Nat.{zero-add, mod-eq_of_lt, lt_of_lt_of_le}
use native.Mathlib.Decide.{dec_lt}
use native.Mathlib.Omega.{arith}
use borrow.Author.Tests.{eq-eqb, ne_eqb, lt-ltb, le-ltb}
use lib.Arith.{digits_lt}
use lib.Dec.{eqb, ltb, ltb→lt}
use lib.ListN.{length, take, drop, length-append, length-drop, take-append-drop}
use lib.Pow.{pow-add, pow_mono, shl_exact, shl-shr, shr_lt, shr_mono, high, low}
use lib.Seq.{take_at, drop_at, drop-drop, take-add, take-append-le, drop-append-le, length-take-le}
use Rattle.laws.specs.Tests.{both}
use Rattle.laws.specs.Lists.{over, AllBytes}
use Rattle.laws.proofs.Tests.{of-true, both_left, both_right, both_yes}
use Rattle.bits.specs.Bits.{high_first, high_value, all_bits, eights}
use Rattle.bits.specs.Field.{bits_of, packed, field_of, spliced, put_field}
use Rattle.bits.specs.Row.{laid, width_of, all_fit, lay_over, row_at, widths_of, four_row, joined_four, one_of}
use Rattle.bits.specs.declared.row.Four.{Four}
use Rattle.bits.proofs.Bits.{both-both, all_bits-end, all_bits-append, all_bits-take, all_bits-drop, high_bits, length-high_first, high-append, high-low}
use Rattle.bits.proofs.Bytes.{length-eights}
use Rattle.bits.proofs.Fields.{length-bits, bits_are, bits-append, bits-packed, packed-bits, field-there, field-bits}

-- ---- the bits of a row

pub laid-append : (fs gs : List (ℕ × ℕ)) → laid (fs ++ gs) ≡ laid fs ++ laid gs
unfolding laid
laid-append [] gs = refl
laid-append (f ∷ fs) gs = ap (high_first f.0 f.1 ++◌) (laid-append fs gs) ∙ sym (append_assoc (high_first f.0 f.1) (laid fs) (laid gs))

pub width-append : (fs gs : List (ℕ × ℕ)) → width_of (fs ++ gs) ≡ width_of fs + width_of gs
unfolding width_of
width-append [] gs = omega arith
width-append (f ∷ fs) gs = omega (arith, width-append fs gs)

pub length-laid : (fs : List (ℕ × ℕ)) → length (laid fs) ≡ width_of fs
unfolding laid width_of
length-laid [] = refl
length-laid (f ∷ fs) = length-append (high_first f.0 f.1) (laid fs) ∙ ap₂ ◌+◌ (length-high_first f.0 f.1) (length-laid fs)

pub laid-bits : (fs : List (ℕ × ℕ)) → all_bits (laid fs) ≡ true
unfolding laid
laid-bits [] = all_bits-end
laid-bits (f ∷ fs) = all_bits-append (high_first f.0 f.1) (laid fs) (high_bits f.0 f.1) (laid-bits fs)

-- ---- a row whose numbers have their widths

pub both-fit : (w v : ℕ) (fs : List (ℕ × ℕ)) → all_fit ((w, v) ∷ fs) ≡ true → (v < 2 ^ w) × (all_fit fs ≡ true)
unfolding all_fit
both-fit w v fs e = (ltb→lt v (2 ^ w) (of-true (both_left (ltb v (2 ^ w)) (all_fit fs) e)), both_right (ltb v (2 ^ w)) (all_fit fs) e)

pub fit_append : (fs gs : List (ℕ × ℕ)) → all_fit (fs ++ gs) ≡ both (all_fit fs) (all_fit gs)
unfolding all_fit
fit_append [] gs = refl
fit_append (f ∷ fs) gs = ap (both (ltb f.1 (2 ^ f.0))) (fit_append fs gs) ∙ both-both (ltb f.1 (2 ^ f.0)) (all_fit fs) (all_fit gs)

pub fit-both : (fs gs : List (ℕ × ℕ)) → all_fit (fs ++ gs) ≡ true → (all_fit fs ≡ true) × (all_fit gs ≡ true)
fit-both fs gs e = (both_left (all_fit fs) (all_fit gs) (sym (fit_append fs gs) ∙ e), both_right (all_fit fs) (all_fit gs) (sym (fit_append fs gs) ∙ e))

-- ---- a row over bytes

module _ (l : List ℕ) (at : ℕ) (fs : List (ℕ × ℕ)) (fits : at + width_of fs ≤ 8 * length l) where
  front : length (take at (bits_of l) ++ laid fs) ≡ at + width_of fs
  front = length-append (take at (bits_of l)) (laid fs) ∙ ap₂ ◌+◌ (length-take-le at (bits_of l) (omega (arith, length-bits l))) (length-laid fs)

  long : length (take at (bits_of l) ++ laid fs ++ drop (at + width_of fs) (bits_of l)) ≡ 8 * length l
  long = length-append (take at (bits_of l) ++ laid fs) (drop (at + width_of fs) (bits_of l)) ∙ omega (arith, front, length-drop (at + width_of fs) (bits_of l), length-bits l)

  are : all_bits (take at (bits_of l) ++ laid fs ++ drop (at + width_of fs) (bits_of l)) ≡ true
  are =
      all_bits-append (take at (bits_of l) ++ laid fs) (drop (at + width_of fs) (bits_of l))
      (all_bits-append (take at (bits_of l)) (laid fs) (all_bits-take at (bits_of l) (bits_are l)) (laid-bits fs)) (all_bits-drop (at + width_of fs) (bits_of l) (bits_are l))

  pub lay-bits : bits_of (lay_over l at fs) ≡ take at (bits_of l) ++ laid fs ++ drop (at + width_of fs) (bits_of l)
  unfolding lay_over
  lay-bits = bits-packed (length l) (take at (bits_of l) ++ laid fs ++ drop (at + width_of fs) (bits_of l)) long are

pub length-lay : (l : List ℕ) (at : ℕ) (fs : List (ℕ × ℕ)) → length (lay_over l at fs) ≡ length l
unfolding lay_over packed
length-lay l at fs = length-eights (high_value 0) (length l) _

-- a second row right after the first
pub lay-next : (l : List ℕ) (at : ℕ) (fs gs : List (ℕ × ℕ)) → at + width_of fs + width_of gs ≤ 8 * length l
    → lay_over (lay_over l at fs) (at + width_of fs) gs ≡ lay_over l at (fs ++ gs)
unfolding lay_over
lay-next l at fs gs fits =
    let n = at + width_of fs in
    let bits = bits_of l in
    let now = lay-bits l at fs (omega arith) in
    let size : n + width_of gs ≡ at + width_of (fs ++ gs) = omega (arith, width-append fs gs) in
    let before : take n (bits_of (lay_over l at fs)) ≡ take at bits ++ laid fs =
    ap (take n) now ∙ take_at (take at bits ++ laid fs) (drop n bits) n (front l at fs (omega arith)) in
    let behind : drop (n + width_of gs) (bits_of (lay_over l at fs)) ≡ drop (at + width_of (fs ++ gs)) bits =
    ap (drop (n + width_of gs)) now
    ∙ sym (drop-drop (width_of gs) n (take at bits ++ laid fs ++ drop n bits))
    ∙ ap (drop (width_of gs)) (drop_at (take at bits ++ laid fs) (drop n bits) n (front l at fs (omega arith)))
    ∙ drop-drop (width_of gs) n bits ∙ ap (λ (k : ℕ). drop k bits) size in
    ap₂ packed (length-lay l at fs)
    (ap₂ (λ (x y : List ℕ). x ++ laid gs ++ y) before behind
    ∙ ap (◌++ drop (at + width_of (fs ++ gs)) bits) (append_assoc (take at bits) (laid fs) (laid gs) ∙ ap (take at bits ++◌) (sym (laid-append fs gs))))

-- ---- whole bytes from the start

eights-append : (g : List ℕ → ℕ) (n m : ℕ) (xs ys : List ℕ) → length xs ≡ 8 * n → eights g (n + m) (xs ++ ys) ≡ eights g n xs ++ eights g m ys
unfolding eights
eights-append g zero m [] ys e = ap (λ (k : ℕ). eights g k ys) (zero-add m)
eights-append g zero m (x ∷ xs) ys e = absurd (omega arith)
eights-append g (suc n) m xs ys e =
    let k : suc n + m ≡ suc (n + m) = omega arith in
    let rest : length (drop 8 xs) ≡ 8 * n = omega (arith, length-drop 8 xs) in
    ap (λ (k : ℕ). eights g k (xs ++ ys)) k
    ∙ ap₂ (λ (h t : List ℕ). g h ∷ eights g (n + m) t) (take-append-le 8 xs ys (omega arith)) (drop-append-le 8 xs ys (omega arith))
    ∙ ap (g (take 8 xs) ∷◌) (eights-append g n m (drop 8 xs) ys rest)

packed-is : (l : List ℕ) → eights (high_value 0) (length l) (bits_of l) ≡ packed (length l) (bits_of l)
unfolding packed
packed-is l = refl

drop-bytes : (n : ℕ) (xs : List ℕ) → AllBytes xs → AllBytes (drop n xs)
unfolding AllBytes
drop-bytes zero xs h = h
drop-bytes (suc n) [] h = tt
drop-bytes (suc n) (x ∷ xs) h = drop-bytes n xs h.1

pub lay-whole : (l : List ℕ) (n : ℕ) (fs : List (ℕ × ℕ)) → AllBytes l → width_of fs ≡ 8 * n → n ≤ length l → lay_over l 0 fs ≡ over (packed n (laid fs)) l
unfolding lay_over over packed
lay-whole l n fs bytes e h =
    let rest = drop n l in
    let size : length l ≡ n + length rest = omega (arith, length-drop n l) in
    let start : 0 + width_of fs ≡ 8 * n = omega arith in
    let parts : bits_of l ≡ bits_of (take n l) ++ bits_of rest = ap bits_of (sym (take-append-drop n l)) ∙ bits-append (take n l) rest in
    let front : length (bits_of (take n l)) ≡ 8 * n = length-bits (take n l) ∙ omega (arith, length-take-le n l h) in
    let behind : drop (0 + width_of fs) (bits_of l) ≡ bits_of rest = ap₂ drop start parts ∙ drop_at (bits_of (take n l)) (bits_of rest) (8 * n) front in
    let count : length (eights (high_value 0) n (laid fs)) ≡ n = length-eights (high_value 0) n (laid fs) in
    ap₂ (eights (high_value 0)) size (ap (laid fs ++◌) behind)
    ∙ eights-append (high_value 0) n (length rest) (laid fs) (bits_of rest) (length-laid fs ∙ e)
    ∙ ap (eights (high_value 0) n (laid fs) ++◌) (packed-is rest ∙ packed-bits rest (drop-bytes n l bytes) ∙ ap (λ (k : ℕ). drop k l) (sym count))

-- ---- a number that has its width leaves nothing when it is shifted by it

sum-zero : (p q : ℕ) → eqb (p + q) 0 ≡ both (eqb p 0) (eqb q 0)
sum-zero zero q = ap (λ (k : ℕ). eqb k 0) (zero-add q)
sum-zero (suc p) q = ne_eqb (suc p + q) 0 (λ e. omega arith) ∙ sym (ap (λ (t : Bool). both t (eqb q 0)) (ne_eqb (suc p) 0 (λ e. omega arith)))

shifted-zero : (v w : ℕ) → eqb (v / 2 ^ w) 0 ≡ ltb v (2 ^ w)
shifted-zero v w = go (dec_lt v (2 ^ w))
  where
    go : Dec (v < 2 ^ w) → eqb (v / 2 ^ w) 0 ≡ ltb v (2 ^ w)
    go (yes l) =
        let z : 0 + w ≡ w = zero-add w in
        let q : v / 2 ^ w < 1 = shr_lt 0 w (rw z l) in
        eq-eqb (v / 2 ^ w) 0 (omega arith) ∙ sym (lt-ltb v (2 ^ w) l)
    go (no l) =
        let one : 1 * 2 ^ w ≤ v = omega arith in
        let q : 1 ≤ v / 2 ^ w = rw (sym (shl-shr 1 w)) (shr_mono w one) in
        ne_eqb (v / 2 ^ w) 0 (λ e. omega arith) ∙ sym (le-ltb v (2 ^ w) (omega arith))

four-both : (x y z u : Bool) → both (both x y) (both z u) ≡ both x (both y (both z (both u true)))
four-both x y z u = sym (ap (λ (t : Bool). both x (both y (both z t))) (both_yes u) ∙ both-both x y (both z u))

pub four-fit : (f : Four) (a b c d : ℕ) → eqb (f.a / 2 ^ a + f.b / 2 ^ b + (f.c / 2 ^ c + f.d / 2 ^ d)) 0 ≡ all_fit (four_row f a b c d)
unfolding all_fit
four-fit f a b c d =
    let two : (x w y v : ℕ) → eqb (x / 2 ^ w + y / 2 ^ v) 0 ≡ both (ltb x (2 ^ w)) (ltb y (2 ^ v)) =
    λ x w y v. sum-zero (x / 2 ^ w) (y / 2 ^ v) ∙ ap₂ both (shifted-zero x w) (shifted-zero y v) in
    sum-zero (f.a / 2 ^ a + f.b / 2 ^ b) (f.c / 2 ^ c + f.d / 2 ^ d) ∙ ap₂ both (two f.a a f.b b) (two f.c c f.d d)
    ∙ four-both (ltb f.a (2 ^ a)) (ltb f.b (2 ^ b)) (ltb f.c (2 ^ c)) (ltb f.d (2 ^ d))

-- ---- four numbers as one

high-two : (m n a b : ℕ) → b < 2 ^ n → high_first (m + n) (a * 2 ^ n + b) ≡ high_first m a ++ high_first n b
high-two m n a b h = high-append m n (a * 2 ^ n + b) ∙ ap₂ ◌++◌ (ap (high_first m) (high a n h)) (sym (high-low n (a * 2 ^ n + b)) ∙ ap (high_first n) (low a n h))

two-lt : (m n a b : ℕ) → a < 2 ^ m → b < 2 ^ n → a * 2 ^ n + b < 2 ^ (m + n)
two-lt m n a b h k = rw (pow-add 2 m n) (digits_lt h k)

module _ (f : Four) (a b c d : ℕ) (fit : all_fit (four_row f a b c d) ≡ true) where
  first : (f.a < 2 ^ a) × (all_fit ((b, f.b) ∷ (c, f.c) ∷ (d, f.d) ∷ []) ≡ true)
  first = both-fit a f.a ((b, f.b) ∷ (c, f.c) ∷ (d, f.d) ∷ []) fit

  second : (f.b < 2 ^ b) × (all_fit ((c, f.c) ∷ (d, f.d) ∷ []) ≡ true)
  second = both-fit b f.b ((c, f.c) ∷ (d, f.d) ∷ []) first.1

  third : (f.c < 2 ^ c) × (all_fit ((d, f.d) ∷ []) ≡ true)
  third = both-fit c f.c ((d, f.d) ∷ []) second.1

  fourth : f.d < 2 ^ d
  fourth = (both-fit d f.d [] third.1).0

  two_fits : f.a * 2 ^ b + f.b < 2 ^ (a + b)
  two_fits = two-lt a b f.a f.b first.0 second.0

  three-fits : (f.a * 2 ^ b + f.b) * 2 ^ c + f.c < 2 ^ (a + b + c)
  three-fits = two-lt (a + b) c (f.a * 2 ^ b + f.b) f.c two_fits third.0

  pub four-fits : joined_four f b c d < 2 ^ (a + b + c + d)
  four-fits = two-lt (a + b + c) d ((f.a * 2 ^ b + f.b) * 2 ^ c + f.c) f.d three-fits fourth

  module _ (few : a + b + c + d < 64) where
    -- what the code computes, shift by shift
    two_is : f.a * 2 ^ b % 2 ^ 64 + f.b ≡ f.a * 2 ^ b + f.b
    two_is = ap (◌+ f.b) (shl_exact a b 64 first.0 (omega arith))

    three-is : (f.a * 2 ^ b % 2 ^ 64 + f.b) * 2 ^ c % 2 ^ 64 + f.c ≡ (f.a * 2 ^ b + f.b) * 2 ^ c + f.c
    three-is = ap (λ (x : ℕ). x * 2 ^ c % 2 ^ 64 + f.c) two_is ∙ ap (◌+ f.c) (shl_exact (a + b) c 64 two_fits (omega arith))

    pub four_is : ((f.a * 2 ^ b % 2 ^ 64 + f.b) * 2 ^ c % 2 ^ 64 + f.c) * 2 ^ d % 2 ^ 64 + f.d ≡ joined_four f b c d
    four_is = ap (λ (x : ℕ). x * 2 ^ d % 2 ^ 64 + f.d) three-is ∙ ap (◌+ f.d) (shl_exact (a + b + c) d 64 three-fits (omega arith))

    pub two-64 : f.a * 2 ^ b % 2 ^ 64 + f.b < 2 ^ 64
    two-64 = rw two_is (lt_of_lt_of_le two_fits (pow_mono {j = 64} (omega arith)))

    pub three-64 : (f.a * 2 ^ b % 2 ^ 64 + f.b) * 2 ^ c % 2 ^ 64 + f.c < 2 ^ 64
    three-64 = rw three-is (lt_of_lt_of_le three-fits (pow_mono {j = 64} (omega arith)))

    pub four-64 : ((f.a * 2 ^ b % 2 ^ 64 + f.b) * 2 ^ c % 2 ^ 64 + f.c) * 2 ^ d % 2 ^ 64 + f.d < 2 ^ 64
    four-64 = rw four_is (lt_of_lt_of_le four-fits (pow_mono {j = 64} (omega arith)))

  pub four-bits : high_first (a + b + c + d) (joined_four f b c d) ≡ laid (four_row f a b c d)
  unfolding laid
  four-bits =
      high-two (a + b + c) d ((f.a * 2 ^ b + f.b) * 2 ^ c + f.c) f.d fourth
      ∙ ap (◌++ high_first d f.d) (high-two (a + b) c (f.a * 2 ^ b + f.b) f.c third.0 ∙ ap (◌++ high_first c f.c) (high-two a b f.a f.b second.0))
      ∙ append_assoc (high_first a f.a ++ high_first b f.b) (high_first c f.c) (high_first d f.d)
      ∙ append_assoc (high_first a f.a) (high_first b f.b) (high_first c f.c ++ high_first d f.d)
      ∙ ap (λ (t : List ℕ). high_first a f.a ++ (high_first b f.b ++ (high_first c f.c ++ t))) (sym (append-nil (high_first d f.d)))

  pub four-laid : (l : List ℕ) (at : ℕ) → put_field l at (a + b + c + d) (joined_four f b c d) ≡ lay_over l at (four_row f a b c d)
  unfolding put_field spliced lay_over width_of
  four-laid l at =
      let n : at + (a + b + c + d) ≡ at + (a + (b + (c + (d + 0)))) = omega arith in
      ap₂ (λ (x : List ℕ) (k : ℕ). packed (length l) (take at (bits_of l) ++ x ++ drop k (bits_of l))) four-bits n

-- ---- four numbers as one field

module _ (f : Four) (a b c d : ℕ) where
  pub one-joined : all_fit (four_row f a b c d) ≡ true → one_of f a b c d ≡ joined_four f b c d
  unfolding one_of
  one-joined e = simp e

  pub one-wide : all_fit (four_row f a b c d) ≡ false → one_of f a b c d ≡ 2 ^ (a + b + c + d)
  unfolding one_of
  one-wide e = simp e

  one-is-fit : (t : Bool) → all_fit (four_row f a b c d) ≡ t → all_fit ((a + b + c + d, one_of f a b c d) ∷ []) ≡ t
  unfolding all_fit
  one-is-fit true e = both_yes _ ∙ lt-ltb _ _ (rw (one-joined e) (four-fits f a b c d e))
  one-is-fit false e = both_yes _ ∙ le-ltb _ _ (rw (one-wide e) (omega arith))

  pub one-fit : all_fit ((a + b + c + d, one_of f a b c d) ∷ []) ≡ all_fit (four_row f a b c d)
  one-fit = one-is-fit (all_fit (four_row f a b c d)) refl

  pub one-laid : all_fit (four_row f a b c d) ≡ true → laid ((a + b + c + d, one_of f a b c d) ∷ []) ≡ laid (four_row f a b c d)
  unfolding laid
  one-laid e = append-nil (high_first (a + b + c + d) (one_of f a b c d)) ∙ ap (high_first (a + b + c + d)) (one-joined e) ∙ four-bits f a b c d e

-- ---- read again

-- what was laid is read
pub row_laid : (fs : List (ℕ × ℕ)) (l pre post : List ℕ) (at : ℕ) → length pre ≡ at → bits_of l ≡ pre ++ laid fs ++ post → all_fit fs ≡ true
    → row_at (widths_of fs) at l ≡ fs
unfolding row_at widths_of laid
row_laid [] l pre post at e bits fit = refl
row_laid ((w, v) ∷ fs) l pre post at e bits fit =
    let f = both-fit w v fs fit in
    let seen : bits_of l ≡ pre ++ high_first w v ++ (laid fs ++ post) =
    bits ∙ ap (◌++ post) (sym (append_assoc pre (high_first w v) (laid fs))) ∙ append_assoc (pre ++ high_first w v) (laid fs) post in
    let here : field_of l at w ≡ v = field-there l pre (laid fs ++ post) at w v e seen ∙ mod-eq_of_lt f.0 in
    let next : length (pre ++ high_first w v) ≡ at + w = length-append pre (high_first w v) ∙ ap₂ ◌+◌ e (length-high_first w v) in
    let more : bits_of l ≡ pre ++ high_first w v ++ laid fs ++ post = seen ∙ sym (append_assoc (pre ++ high_first w v) (laid fs) post) in
    ap₂ (λ (x : ℕ) (t : List (ℕ × ℕ)). (w, x) ∷ t) here (row_laid fs l (pre ++ high_first w v) post (at + w) next more f.1)

-- what was read and is laid is what stood there
pub laid-row : (ws : List ℕ) (at : ℕ) (l : List ℕ) → at + width_of (row_at ws at l) ≤ 8 * length l → laid (row_at ws at l) ≡ take (width_of (row_at ws at l)) (drop at (bits_of l))
unfolding row_at laid width_of
laid-row [] at l h = refl
laid-row (w ∷ ws) at l h =
    let rest = width_of (row_at ws (at + w) l) in
    ap₂ ◌++◌ (field-bits l at w (omega arith)) (laid-row ws (at + w) l (omega arith) ∙ ap (take rest) (sym (drop-drop w at (bits_of l))))
    ∙ sym (take-add w rest (drop at (bits_of l)))
