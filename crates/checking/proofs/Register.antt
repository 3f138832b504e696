-- The register takes four bytes at once, by shifts and exclusive or. Both this and the definition bit by bit are linear in exclusive or, so
-- it is enough that they agree at each single bit, which is computed.
-- Assumes nothing.
use mathlib.Core.Path.{◌≡◌, refl, sym, ap, ap₂, subst, ◌∙◌}
use mathlib.Core.List.{List, [], ◌∷◌, ◌++◌}
use Prim.Native.Nat.{ℕ, zero, suc, ◌+◌, ◌-◌, ◌*◌, ◌/◌, ◌%◌, ◌^◌, ◌<◌}
use native.Mathlib.Omega.{arith}
use lib.Bits.{bit_xor, bit_and, xor_shr, xor_mod, xor_block, xor_add_and, and_mask}
use lib.ListN.{take}
use lib.Seq.{take_all}
use borrow.Author.Tests.{eq-eqb, ne_eqb}
use Rattle.laws.proofs.Xor.{xor, fits, comm, zero-r, zero-l, swap, Linear, up-linear, down-linear, same-linear, sum-linear, then-linear, agree}
use Rattle.bits.specs.Bits.{low_first, high_first, high_value}
use Rattle.bits.proofs.Bits.{low_bits, length-low_first, high-back, high-bound}
use Rattle.checking.specs.Check.{stepped, through, zeros, mirrored}

-- ---- one step is linear

times : (x y : ℕ) → x < 2 → y < 2 → xor x y * 4129 ≡ xor (x * 4129) (y * 4129)
unfolding xor
times zero zero hx hy = refl
times zero (suc zero) hx hy = refl
times (suc zero) zero hx hy = refl
times (suc zero) (suc zero) hx hy = refl
times (suc (suc x)) y hx hy = absurd (omega arith)
times zero (suc (suc y)) hx hy = absurd (omega arith)
times (suc zero) (suc (suc y)) hx hy = absurd (omega arith)

-- the bit that leaves at the top and the one that comes in, by cases
stepped_by : (r t b : ℕ) → r / 32768 ≡ t → t < 2 → b < 2 → stepped r b ≡ xor (r * 2 % 65536) (xor t b * 4129)
unfolding stepped xor
stepped_by r zero zero e ht hb = simp (eq-eqb (r / 32768) 0 e) (sym (zero-r (r * 2 % 65536)))
stepped_by r zero (suc zero) e ht hb = simp (ne_eqb (r / 32768) 1 (λ z. omega arith))
stepped_by r (suc zero) zero e ht hb = simp (ne_eqb (r / 32768) 0 (λ z. omega arith))
stepped_by r (suc zero) (suc zero) e ht hb = simp (eq-eqb (r / 32768) 1 e) (sym (zero-r (r * 2 % 65536)))
stepped_by r (suc (suc t)) b e ht hb = absurd (omega arith)
stepped_by r zero (suc (suc b)) e ht hb = absurd (omega arith)
stepped_by r (suc zero) (suc (suc b)) e ht hb = absurd (omega arith)

stepped-is : (r b : ℕ) → r < 65536 → b < 2 → stepped r b ≡ xor (r * 2 % 65536) (xor (r / 32768) b * 4129)
stepped-is r b h hb = stepped_by r (r / 32768) b refl (omega arith) hb

stepped-16 : (r b : ℕ) → r < 65536 → b < 2 → stepped r b < 65536
stepped-16 r b h hb =
    let d = fits 1 (r / 32768) b (omega arith) hb in
    rw (stepped-is r b h hb) (fits 16 (r * 2 % 65536) (xor (r / 32768) b * 4129) (omega arith) (omega arith))

stepped-xor : (a c x y : ℕ) → a < 65536 → c < 65536 → x < 2 → y < 2 → stepped (xor a c) (xor x y) ≡ xor (stepped a x) (stepped c y)
stepped-xor a c x y ha hc hx hy =
    let t = a / 32768 in
    let u = c / 32768 in
    let low = (up-linear 16 1).law a c in
    let top : xor (xor a c / 32768) (xor x y) ≡ xor (xor t x) (xor u y) = ap (λ (z : ℕ). xor z (xor x y)) ((down-linear 15).law a c) ∙ swap t u x y in
    stepped-is (xor a c) (xor x y) (fits 16 a c ha hc) (fits 1 x y hx hy)
    ∙ ap₂ xor low (ap (λ (z : ℕ). z * 4129) top ∙ times (xor t x) (xor u y) (fits 1 t x (omega arith) hx) (fits 1 u y (omega arith) hy))
    ∙ swap (a * 2 % 65536) (c * 2 % 65536) (xor t x * 4129) (xor u y * 4129)
    ∙ sym (ap₂ xor (stepped-is a x ha hx) (stepped-is c y hc hy))

-- ---- and so is what any bits make of the register

through-xor : (n a c v w : ℕ) → a < 65536 → c < 65536 → through (xor a c) (low_first n (xor v w)) ≡ xor (through a (low_first n v)) (through c (low_first n w))
unfolding through low_first xor
through-xor zero a c v w ha hc = refl
through-xor (suc n) a c v w ha hc =
    let e : stepped (xor a c) (xor v w % 2) ≡ xor (stepped a (v % 2)) (stepped c (w % 2)) =
    ap (stepped (xor a c)) (xor_mod v w 1) ∙ stepped-xor a c (v % 2) (w % 2) ha hc (omega arith) (omega arith) in
    ap₂ (λ (r z : ℕ). through r (low_first n z)) e (xor_shr v w 1)
    ∙ through-xor n (stepped a (v % 2)) (stepped c (w % 2)) (v / 2) (w / 2) (stepped-16 a (v % 2) ha (omega arith)) (stepped-16 c (w % 2) hc (omega arith))

pub through-end : (r : ℕ) → through r [] ≡ r
unfolding through
through-end r = refl

pub through-append : (xs ys : List ℕ) (r : ℕ) → through r (xs ++ ys) ≡ through (through r xs) ys
unfolding through
through-append [] ys r = refl
through-append (x ∷ xs) ys r = through-append xs ys (stepped r x)

-- ---- mirrored

mirrored-16 : (r : ℕ) → mirrored r < 65536
unfolding mirrored
mirrored-16 r =
    let h : high_value 0 (take 16 (low_first 16 r)) < 2 ^ 16 = high-bound 16 (low_first 16 r) (low_bits 16 r) in
    subst (λ (l : List ℕ). high_value 0 l < 65536) (take_all 16 (low_first 16 r) (omega (arith, length-low_first 16 r))) h

pub mirrored-bits : (r : ℕ) → high_first 16 (mirrored r) ≡ low_first 16 r
unfolding mirrored
mirrored-bits r = rw (length-low_first 16 r) at (high-back (low_first 16 r) 0 (low_bits 16 r))

mirror-xor : (n a b x y : ℕ) → high_value (xor x y) (low_first n (xor a b)) ≡ xor (high_value x (low_first n a)) (high_value y (low_first n b))
unfolding high_value low_first xor
mirror-xor zero a b x y = refl
mirror-xor (suc n) a b x y =
    let e : bit_xor x y * 2 + bit_xor a b % 2 ≡ bit_xor (x * 2 + a % 2) (y * 2 + b % 2) = ap (bit_xor x y * 2 +◌) (xor_mod a b 1) ∙ sym (xor_block 1 x y (a % 2) (b % 2) (omega arith) (omega arith)) in
    ap₂ (λ (z w : ℕ). high_value z (low_first n w)) e (xor_shr a b 1) ∙ mirror-xor n (a / 2) (b / 2) (x * 2 + a % 2) (y * 2 + b % 2)

mirrored-linear : Linear mirrored
unfolding mirrored
mirrored-linear = record { law = λ a b. ap (λ (z : ℕ). high_value z (low_first 16 (xor a b))) (sym (zero-r 0)) ∙ mirror-xor 16 a b 0 0 }

not_is : (x : ℕ) → x < 65536 → 0xffff - x ≡ xor x 0xffff
unfolding xor
not_is x h = let a : bit_and x 65535 ≡ x % 65536 = and_mask x 16 in omega (arith, xor_add_and x 65535)

all-mirrored : mirrored 0xffff ≡ 0xffff
unfolding mirrored high_value low_first
all-mirrored = refl

pub mirrored-not : (r : ℕ) → r < 65536 → mirrored (0xffff - r) ≡ 0xffff - mirrored r
mirrored-not r h = ap mirrored (not_is r h) ∙ mirrored-linear.law r 0xffff ∙ ap (xor (mirrored r)) all-mirrored ∙ sym (not_is (mirrored r) (mirrored-16 r))

-- ---- four bytes

-- what a word of 32 bits makes of a register of zeros
entered : ℕ → ℕ
unfolding through low_first stepped
entered w = through 0 (low_first 32 w)

entered-linear : Linear entered
unfolding entered xor
entered-linear = record { law = λ a b. through-xor 32 0 0 a b (omega arith) (omega arith) }

-- what 32 zeros make of a register
waited : ℕ → ℕ
unfolding through low_first stepped mirrored high_value
waited r = through (mirrored r) (low_first 32 0)

waited-linear : Linear waited
unfolding waited xor
waited-linear = record { law = λ a b. ap (λ (z : ℕ). through z (low_first 32 0)) (mirrored-linear.law a b) ∙ through-xor 32 (mirrored a) (mirrored b) 0 0 (mirrored-16 a) (mirrored-16 b) }

-- the code's way
abbrev up : ℕ → ℕ → ℕ
up k x = x * 2 ^ k % 2 ^ 32

unfoldable pub part : ℕ → ℕ
unfolding xor
part w = xor (xor (xor (xor w (up 4 w)) (up 11 w)) (up 20 w)) (up 27 w)

unfoldable pub quotient : ℕ → ℕ
unfolding xor
quotient p = xor (xor p (up 8 p)) (up 22 p)

unfoldable pub product : ℕ → ℕ
unfolding xor
product q = xor (xor q (q / 2 ^ 5)) (q / 2 ^ 12)

unfoldable pub divided : ℕ → ℕ
unfolding part quotient product
divided w = product (quotient (part w)) / 2 ^ 16

part-linear : Linear part
unfolding part
part-linear = sum-linear (sum-linear (sum-linear (sum-linear same-linear (up-linear 32 4)) (up-linear 32 11)) (up-linear 32 20)) (up-linear 32 27)

quotient-linear : Linear quotient
unfolding quotient
quotient-linear = sum-linear (sum-linear same-linear (up-linear 32 8)) (up-linear 32 22)

product-linear : Linear product
unfolding product
product-linear = sum-linear (sum-linear same-linear (down-linear 5)) (down-linear 12)

divided-linear : Linear (λ w. mirrored (divided w))
unfolding divided
divided-linear = then-linear part-linear (then-linear quotient-linear (then-linear product-linear (then-linear (down-linear 16) mirrored-linear)))

part-32 : (w : ℕ) → w < 2 ^ 32 → part w < 2 ^ 32
unfolding part
part-32 w h = fits 32 _ _ (fits 32 _ _ (fits 32 _ _ (fits 32 _ _ h (omega arith)) (omega arith)) (omega arith)) (omega arith)

quotient-32 : (p : ℕ) → p < 2 ^ 32 → quotient p < 2 ^ 32
unfolding quotient
quotient-32 p h = fits 32 _ _ (fits 32 _ _ h (omega arith)) (omega arith)

product-32 : (q : ℕ) → q < 2 ^ 32 → product q < 2 ^ 32
unfolding product
product-32 q h = fits 32 _ _ (fits 32 _ _ h (omega arith)) (omega arith)

pub divided-16 : (reg four : ℕ) → reg < 2 ^ 16 → four < 2 ^ 32 → divided (xor four reg) < 2 ^ 16
unfolding divided
divided-16 reg four hr hf = omega (arith, product-32 _ (quotient-32 _ (part-32 _ (fits 32 four reg hf (omega arith)))))

-- at each bit a test that the code's way is right, and one that a register is as good as its own bits that come in first
divided-right : (w : ℕ) → w < 2 ^ 32 → mirrored (divided w) ≡ entered w
unfolding divided entered mirrored high_value low_first
divided-right = agree divided-linear entered-linear 32 tt

waited-right : (r : ℕ) → r < 2 ^ 16 → waited r ≡ entered r
unfolding entered waited
waited-right = agree waited-linear entered-linear 16 tt

pub four-in : (reg four : ℕ) → reg < 2 ^ 16 → four < 2 ^ 32 → mirrored (divided (xor four reg)) ≡ through (mirrored reg) (low_first 32 four)
unfolding entered waited
four-in reg four hr hf =
    divided-right (xor four reg) (fits 32 four reg hf (omega arith)) ∙ ap entered (comm four reg) ∙ entered-linear.law reg four ∙ ap (λ (z : ℕ). xor z (entered four)) (sym (waited-right reg hr))
    ∙ sym (ap₂ (λ (r z : ℕ). through r (low_first 32 z)) (sym (zero-r (mirrored reg))) (sym (zero-l four)) ∙ through-xor 32 (mirrored reg) 0 0 four (mirrored-16 reg) (omega arith))

-- ---- what comes before: as many zeros as there are, and then all ones

pub none_before : through (mirrored 65535) (zeros 0) ≡ 0xffff
unfolding through mirrored zeros stepped
none_before = refl

pub one-before : through (mirrored 12408) (zeros 8) ≡ 0xffff
unfolding through mirrored zeros stepped
one-before = refl

pub two-before : through (mirrored 62241) (zeros 16) ≡ 0xffff
unfolding through mirrored zeros stepped
two-before = refl

pub three-before : through (mirrored 36532) (zeros 24) ≡ 0xffff
unfolding through mirrored zeros stepped
three-before = refl

pub four-before : through (mirrored 60458) (zeros 32) ≡ 0xffff
unfolding through mirrored zeros stepped
four-before = refl
