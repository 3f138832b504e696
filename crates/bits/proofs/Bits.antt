-- Lists of bits, the bits of a number and the number of bits: one turn of each loop, lengths, and how both go back and forth.
-- Assumes nothing.
use mathlib.Core.Path.{◌≡◌, refl, sym, ap, ap₂, ◌∙◌}
use mathlib.Core.Bool.{Bool, true, false}
use mathlib.Core.List.{List, [], ◌∷◌, ◌++◌}
use Prim.Native.Nat.{ℕ, zero, suc, ◌+◌, ◌-◌, ◌*◌, ◌/◌, ◌%◌, ◌^◌, ◌≤◌, ◌<◌, max}
use native.Mathlib.Nat.{zero-add, suc-add, add_comm, lt_of_lt_of_le, pow-suc, mul_assoc}
use native.Mathlib.Numerals.{one-add}
use native.Mathlib.Omega.{arith}
use borrow.Author.Tests.{le-leb, lt-leb, leb-true, leb-false}
use lib.Arith.{digits_lt}
use lib.Dec.{leb}
use lib.ListN.{length, take, drop, length-take, take-append-drop}
use lib.Pow.{pow_mono, shr-shr, mod-pow-add, high}
use lib.Seq.{drop-drop, take-add}
use Rattle.std.specs.List.{fold}
use Rattle.laws.specs.Tests.{both}
use Rattle.laws.proofs.Tests.{both_left, both_right, both_yes}
use Rattle.bits.specs.Bits.{low_first, high_first, low_value, high_value, all_bits}

-- ---- lists of bits

pub all_bits-more : (b : ℕ) (bs : List ℕ) → b ≤ 1 → all_bits (b ∷ bs) ≡ all_bits bs
unfolding all_bits
all_bits-more b bs h = ap (λ (t : Bool). both t (all_bits bs)) (le-leb b 1 h)

pub all_bits-end : all_bits [] ≡ true
unfolding all_bits
all_bits-end = refl

pub bit-head : (b : ℕ) (bs : List ℕ) → all_bits (b ∷ bs) ≡ true → b ≤ 1
unfolding all_bits
bit-head b bs e = leb-true b 1 (both_left (leb b 1) (all_bits bs) e)

pub bit-tail : (b : ℕ) (bs : List ℕ) → all_bits (b ∷ bs) ≡ true → all_bits bs ≡ true
unfolding all_bits
bit-tail b bs e = both_right (leb b 1) (all_bits bs) e

pub all_bits-drop : (n : ℕ) (xs : List ℕ) → all_bits xs ≡ true → all_bits (drop n xs) ≡ true
all_bits-drop zero xs e = e
all_bits-drop (suc n) [] e = e
all_bits-drop (suc n) (x ∷ xs) e = all_bits-drop n xs (bit-tail x xs e)

pub all_bits-take : (n : ℕ) (xs : List ℕ) → all_bits xs ≡ true → all_bits (take n xs) ≡ true
all_bits-take zero xs e = all_bits-end
all_bits-take (suc n) [] e = e
all_bits-take (suc n) (x ∷ xs) e = all_bits-more x (take n xs) (bit-head x xs e) ∙ all_bits-take n xs (bit-tail x xs e)

pub all_bits-append : (xs ys : List ℕ) → all_bits xs ≡ true → all_bits ys ≡ true → all_bits (xs ++ ys) ≡ true
all_bits-append [] ys e f = f
all_bits-append (x ∷ xs) ys e f = all_bits-more x (xs ++ ys) (bit-head x xs e) ∙ all_bits-append xs ys (bit-tail x xs e) f

pub both-both : (a b c : Bool) → both a (both b c) ≡ both (both a b) c
both-both true b c = refl
both-both false b c = refl

-- a list by blocks, of which the last may overlap
all_bits-split : (xs ys : List ℕ) → all_bits (xs ++ ys) ≡ both (all_bits xs) (all_bits ys)
unfolding all_bits
all_bits-split [] ys = refl
all_bits-split (x ∷ xs) ys = ap (both (leb x 1)) (all_bits-split xs ys) ∙ both-both (leb x 1) (all_bits xs) (all_bits ys)

all_bits-parts : (n : ℕ) (l : List ℕ) → all_bits l ≡ both (all_bits (take n l)) (all_bits (drop n l))
all_bits-parts n l = ap all_bits (sym (take-append-drop n l)) ∙ all_bits-split (take n l) (drop n l)

pub blocks-no : (n : ℕ) (l : List ℕ) → all_bits (take n l) ≡ false → false ≡ all_bits l
blocks-no n l e = sym (all_bits-parts n l ∙ ap (λ (t : Bool). both t (all_bits (drop n l))) e)

pub blocks-yes : (n k : ℕ) (l : List ℕ) → k ≤ n → all_bits (take n l) ≡ true → all_bits (drop k l) ≡ all_bits l
blocks-yes n k l h e =
    let m : k + (n - k) ≡ n = omega arith in
    let back : drop (n - k) (drop k l) ≡ drop n l = drop-drop (n - k) k l ∙ ap (λ (j : ℕ). drop j l) m in
    let whole : take k l ++ take (n - k) (drop k l) ≡ take n l = sym (take-add k (n - k) l) ∙ ap (λ (j : ℕ). take j l) m in
    let front : all_bits (take (n - k) (drop k l)) ≡ true = both_right (all_bits (take k l)) (all_bits (take (n - k) (drop k l))) (sym (all_bits-split (take k l) (take (n - k) (drop k l))) ∙ ap all_bits whole ∙ e) in
    all_bits-parts (n - k) (drop k l) ∙ rw (front, back) (sym (all_bits-parts n l ∙ ap (λ (t : Bool). both t (all_bits (drop n l))) e))

-- no element is above 1 where the largest is not
leb-max : (a b : ℕ) → leb (max a b) 1 ≡ both (leb a 1) (leb b 1)
leb-max a b = go (leb a 1) refl (leb b 1) refl
  where
    go : (s : Bool) → leb a 1 ≡ s → (t : Bool) → leb b 1 ≡ t → leb (max a b) 1 ≡ both s t
    go true p true q = le-leb (max a b) 1 (omega (arith, leb-true a 1 p, leb-true b 1 q))
    go true p false q = lt-leb (max a b) 1 (omega (arith, leb-false b 1 q))
    go false p t q = lt-leb (max a b) 1 (omega (arith, leb-false a 1 p))

pub largest-bits : (most : ℕ) (bs : List ℕ) → leb (fold max most bs) 1 ≡ both (leb most 1) (all_bits bs)
unfolding all_bits
largest-bits most [] = sym (both_yes (leb most 1))
largest-bits most (b ∷ bs) =
    largest-bits (max most b) bs ∙ ap (λ (t : Bool). both t (all_bits bs)) (leb-max most b) ∙ sym (both-both (leb most 1) (leb b 1) (all_bits bs))

-- ---- the bits of a number

pub low_bits : (n v : ℕ) → all_bits (low_first n v) ≡ true
unfolding low_first
low_bits zero v = all_bits-end
low_bits (suc n) v = all_bits-more (v % 2) _ (omega arith) ∙ low_bits n (v / 2)

pub high_bits : (n v : ℕ) → all_bits (high_first n v) ≡ true
unfolding high_first
high_bits zero v = all_bits-end
high_bits (suc n) v = all_bits-more (v / 2 ^ n % 2) _ (omega arith) ∙ high_bits n v

pub length-high_first : (n v : ℕ) → length (high_first n v) ≡ n
unfolding high_first
length-high_first zero v = refl
length-high_first (suc n) v = ap suc (length-high_first n v)

pub length-low_first : (n v : ℕ) → length (low_first n v) ≡ n
unfolding low_first
length-low_first zero v = refl
length-low_first (suc n) v = ap suc (length-low_first n (v / 2))

-- the bits of a number are those of its upper part, and then those of its lower part
pub high-append : (m n v : ℕ) → high_first (m + n) v ≡ high_first m (v / 2 ^ n) ++ high_first n v
unfolding high_first
high-append zero n v = rw (zero-add n)
high-append (suc m) n v =
    let e : v / 2 ^ (m + n) ≡ v / 2 ^ n / 2 ^ m = ap (λ (k : ℕ). v / 2 ^ k) (add_comm m n) ∙ sym (shr-shr v n m) in
    rw (suc-add m n) (ap₂ (λ (x : ℕ) (t : List ℕ). x % 2 ∷ t) e (high-append m n v))

-- ---- the number of bits

pub value-bound : (n : ℕ) (bits : List ℕ) → all_bits bits ≡ true → low_value (take n bits) < 2 ^ n
unfolding low_value
value-bound zero bits e = omega arith
value-bound (suc n) [] e = omega (arith, value-bound n [] e)
value-bound (suc n) (b ∷ bs) e = omega (arith, value-bound n bs (bit-tail b bs e), bit-head b bs e)

-- ---- the number of bits, the highest first

pub value-append : (xs ys : List ℕ) (a : ℕ) → high_value a (xs ++ ys) ≡ high_value (high_value a xs) ys
unfolding high_value
value-append [] ys a = refl
value-append (x ∷ xs) ys a = value-append xs ys (a * 2 + x)

-- what comes before goes up by as many places as there are bits
value_after : (bits : List ℕ) (a : ℕ) → high_value a bits ≡ a * 2 ^ length bits + high_value 0 bits
unfolding high_value
value_after [] a = omega arith
value_after (b ∷ bs) a =
    value_after bs (a * 2 + b) ∙ sym (ap₂ (λ (p v : ℕ). a * p + v) (pow-suc 2 (length bs)) (value_after bs (0 * 2 + b)) ∙ step (2 ^ length bs) (high_value 0 bs))
  where
    step : (p v : ℕ) → a * (p * 2) + ((0 * 2 + b) * p + v) ≡ (a * 2 + b) * p + v
    step p v = omega arith

all-bound : (bits : List ℕ) → all_bits bits ≡ true → high_value 0 bits < 2 ^ length bits
unfolding high_value
all-bound [] e = omega arith
all-bound (b ∷ bs) e =
    let h = bit-head b bs e in
    let v : high_value 0 (b ∷ bs) ≡ b * 2 ^ length bs + high_value 0 bs = value_after bs (0 * 2 + b) ∙ ap (λ (k : ℕ). k * 2 ^ length bs + high_value 0 bs) (zero-add b) in
    omega (arith, v, pow-suc 2 (length bs), digits_lt {q = b} {m = 2} (omega arith) (all-bound bs (bit-tail b bs e)))

pub high-bound : (n : ℕ) (bits : List ℕ) → all_bits bits ≡ true → high_value 0 (take n bits) < 2 ^ n
high-bound n bits e = lt_of_lt_of_le (all-bound (take n bits) (all_bits-take n bits e)) (pow_mono (omega (arith, length-take n bits)))

pub value-high : (n v a : ℕ) → high_value a (high_first n v) ≡ a * 2 ^ n + v % 2 ^ n
unfolding high_value high_first
value-high zero v a = omega arith
value-high (suc n) v a =
    let m : v % 2 ^ suc n ≡ v / 2 ^ n % 2 * 2 ^ n + v % 2 ^ n = rw (one-add n) at (mod-pow-add v 1 n) in
    value-high n v (a * 2 + v / 2 ^ n % 2) ∙ sym (ap₂ (λ (p r : ℕ). a * p + r) (pow-suc 2 n) m ∙ step (v / 2 ^ n % 2) (2 ^ n) (v % 2 ^ n))
  where
    step : (b p r : ℕ) → a * (p * 2) + (b * p + r) ≡ (a * 2 + b) * p + r
    step b p r = omega arith

pub high-back : (bits : List ℕ) (a : ℕ) → all_bits bits ≡ true → high_first (length bits) (high_value a bits) ≡ bits
unfolding high_first high_value
high-back [] a e = refl
high-back (b ∷ bs) a e =
    let h = bit-head b bs e in
    let d : high_value (a * 2 + b) bs / 2 ^ length bs % 2 ≡ b = rw (value_after bs (a * 2 + b), high (a * 2 + b) (length bs) (all-bound bs (bit-tail b bs e))) (omega arith) in
    ap₂ ◌∷◌ d (high-back bs (a * 2 + b) (bit-tail b bs e))

-- the low n bits of a number are those of what 2 ^ n leaves of it
pub high-low : (n v : ℕ) → high_first n (v % 2 ^ n) ≡ high_first n v
high-low n v =
    let m : high_value 0 (high_first n v) ≡ v % 2 ^ n = value-high n v 0 ∙ omega arith in
    rw (m, length-high_first n v) at (high-back (high_first n v) 0 (high_bits n v))

-- ---- the bits of two numbers, one after the other

pub low-append : (h m a v : ℕ) → a < 2 ^ h → low_first h a ++ low_first m v ≡ low_first (h + m) (a + v * 2 ^ h)
unfolding low_first
low-append zero m a v small =
    let e : a + v * 2 ^ 0 ≡ v = omega arith in
    rw (e, zero-add m)
low-append (suc h) m a v small =
    let p : v * 2 ^ suc h ≡ v * 2 ^ h * 2 = ap (v *◌) (pow-suc 2 h) ∙ sym (mul_assoc v (2 ^ h) 2) in
    let r : (a + v * 2 ^ suc h) % 2 ≡ a % 2 = rw p (omega arith) in
    let q : (a + v * 2 ^ suc h) / 2 ≡ a / 2 + v * 2 ^ h = rw p (omega arith) in
    rw (suc-add h m, r, q) (ap (λ (t : List ℕ). a % 2 ∷ t) (low-append h m (a / 2) v (omega arith)))

pub low-split : (h w : ℕ) → low_first (8 + h) w ≡ low_first 8 w ++ low_first h (w / 256)
unfolding low_first
low-split h w =
    let n : 8 + h ≡ suc (suc (suc (suc (suc (suc (suc (suc h))))))) = omega arith in
    let e : w / 2 / 2 / 2 / 2 / 2 / 2 / 2 / 2 ≡ w / 256 = omega arith in
    rw (n, e)

-- the low bits of a number are those of its low byte
eight-low : (v : ℕ) → (v % 2 ≡ v % 256 % 2) × (v / 2 % 2 ≡ v % 256 / 2 % 2) × (v / 2 / 2 % 2 ≡ v % 256 / 2 / 2 % 2) × (v / 2 / 2 / 2 % 2 ≡ v % 256 / 2 / 2 / 2 % 2)
    × (v / 2 / 2 / 2 / 2 % 2 ≡ v % 256 / 2 / 2 / 2 / 2 % 2) × (v / 2 / 2 / 2 / 2 / 2 % 2 ≡ v % 256 / 2 / 2 / 2 / 2 / 2 % 2)
    × (v / 2 / 2 / 2 / 2 / 2 / 2 % 2 ≡ v % 256 / 2 / 2 / 2 / 2 / 2 / 2 % 2) × (v / 2 / 2 / 2 / 2 / 2 / 2 / 2 % 2 ≡ v % 256 / 2 / 2 / 2 / 2 / 2 / 2 / 2 % 2)
eight-low v = (omega arith, omega arith, omega arith, omega arith, omega arith, omega arith, omega arith, omega arith)

pub low_byte : (v : ℕ) → low_first 8 v ≡ low_first 8 (v % 256)
unfolding low_first
low_byte v = let e = eight-low v in cc

-- ---- there and back

pub value-back : (n v : ℕ) → v < 2 ^ n → low_value (low_first n v) ≡ v
unfolding low_value low_first
value-back zero v h = omega arith
value-back (suc n) v h = omega (arith, value-back n (v / 2) (omega arith))

-- bits come back from the byte that they make
pub bits_back : (n : ℕ) (bs : List ℕ) → length bs ≡ n → all_bits bs ≡ true → low_first n (low_value bs) ≡ bs
unfolding low_first low_value
bits_back zero [] l e = refl
bits_back zero (b ∷ bs) l e = absurd (omega arith)
bits_back (suc n) [] l e = absurd (omega arith)
bits_back (suc n) (b ∷ bs) l e =
    let h = bit-head b bs e in
    let m : (b + 2 * low_value bs) % 2 ≡ b = omega arith in
    let d : (b + 2 * low_value bs) / 2 ≡ low_value bs = omega arith in
    rw (m, d) (ap (λ (t : List ℕ). b ∷ t) (bits_back n bs (omega arith) (bit-tail b bs e)))
