-- Lists as loops go through them, parts of a list, what stores one after the other come to, and the test for equal lists.
-- Assumes nothing.
use mathlib.Core.Path.{◌≡◌, refl, sym, ap, ◌∙◌}
use mathlib.Core.Bool.{Bool, true}
use mathlib.Core.List.{List, [], ◌∷◌, ◌++◌, append_assoc}
use Prim.Native.Nat.{ℕ, zero, suc, ◌+◌, ◌≤◌, ◌<◌}
use native.Mathlib.Nat.{add-zero, add-suc, suc-add, zero-add}
use native.Mathlib.Numerals.{add-one}
use native.Mathlib.Omega.{arith}
use borrow.Author.Tests.{eq-eqb, eqb-true}
use lib.Dec.{eqb}
use lib.ListN.{length, get_or, take, drop, set, drop_of_length-le, length-drop, take-append-drop}
use lib.Seq.{drop-cons, take-append-le, drop-append-le, take-add, take_at, drop_at, set-set, set_comm, sets, sets-eq}
use Rattle.laws.specs.Tests.{both}
use Rattle.laws.specs.Lists.{over, same, AllBytes}
use Rattle.laws.proofs.Tests.{both_left, both_right}

-- ---- one more element read

-- what is left at i begins with the element there
pub next : (xs : List ℕ) (i : ℕ) → i < length xs → drop i xs ≡ get_or xs i 0 ∷ drop (i + 1) xs
next xs i h = rw add-one (drop-cons xs i 0 h)

-- nothing is left at the end
pub done : (xs : List ℕ) (i : ℕ) → length xs ≤ i → drop i xs ≡ []
done xs i h = drop_of_length-le xs h

-- ---- a part of a list

pub take-middle : (xs ys zs : List ℕ) (at n : ℕ) → length xs ≡ at → length ys ≡ n → take n (drop at (xs ++ ys ++ zs)) ≡ ys
take-middle xs ys zs at n e f = ap (take n) (ap (drop at) (append_assoc xs ys zs) ∙ drop_at xs (ys ++ zs) at e) ∙ take_at ys zs n f

pub take_within : (xs ys : List ℕ) (at n : ℕ) → at + n ≤ length xs → take n (drop at (xs ++ ys)) ≡ take n (drop at xs)
take_within xs ys at n h = ap (take n) (drop-append-le at xs ys (omega arith)) ∙ take-append-le n (drop at xs) ys (omega (arith, length-drop at xs))

pub three-parts : (xs : List ℕ) (at n : ℕ) → xs ≡ take at xs ++ take n (drop at xs) ++ drop (at + n) xs
three-parts xs at n = sym (ap (◌++ drop (at + n) xs) (sym (take-add at n xs)) ∙ take-append-drop (at + n) xs)

-- ---- bytes

pub all-bytes : (xs : List ℕ) → ((i : ℕ) → get_or xs i 0 < 256) → AllBytes xs
unfolding AllBytes
all-bytes [] h = tt
all-bytes (x ∷ xs) h = (h 0, all-bytes xs (λ i. h (suc i)))

pub take-bytes : (n : ℕ) (xs : List ℕ) → AllBytes xs → AllBytes (take n xs)
unfolding AllBytes
take-bytes zero xs h = tt
take-bytes (suc n) [] h = tt
take-bytes (suc n) (x ∷ xs) h = (h.0, take-bytes n xs h.1)

-- ---- stores

pub sets-append : {A : Type 0} (xs ys out : List A) (o : ℕ) → sets out o (xs ++ ys) ≡ sets (sets out o xs) (o + length xs) ys
sets-append [] ys out o = rw (add-zero o)
sets-append (x ∷ xs) ys out o = sets-append xs ys (set out o x) (suc o) ∙ ap (λ (k : ℕ). sets (sets (set out o x) (suc o) xs) k ys) (suc-add o (length xs) ∙ sym (add-suc o (length xs)))

-- a store before a list of stores may as well come first
set_before : (zs out : List ℕ) (o j y : ℕ) → j < o → set (sets out o zs) j y ≡ sets (set out j y) o zs
set_before [] out o j y h = refl
set_before (z ∷ zs) out o j y h =
    set_before zs (set out o z) (suc o) j y (omega arith) ∙ ap (λ (l : List ℕ). sets l (suc o) zs) (set_comm out o j z y (λ e. omega arith))

-- what was stored is gone where as much is stored over it
covered : (zs ys out : List ℕ) (o : ℕ) → length zs ≤ length ys → sets (sets out o zs) o ys ≡ sets out o ys
covered [] ys out o h = refl
covered (z ∷ zs) [] out o h = absurd (omega arith)
covered (z ∷ zs) (y ∷ ys) out o h =
    ap (λ (l : List ℕ). sets l (suc o) ys) (set_before zs (set out o z) (suc o) o y (omega arith) ∙ ap (λ (l : List ℕ). sets l (suc o) zs) (set-set out o z y))
    ∙ covered zs ys (set out o y) (suc o) (omega arith)

-- the first m of a list were wanted; what follows them covers the others
pub stored-and-more : (zs xs ys out : List ℕ) (m o : ℕ) → take m zs ≡ xs → length xs ≡ m → length zs ≤ m + length ys → sets (sets out o zs) (o + m) ys ≡ sets out o (xs ++ ys)
stored-and-more zs xs ys out m o e l h =
    let rest = drop m zs in
    let split : zs ≡ xs ++ rest = sym (take-append-drop m zs) ∙ ap (◌++ rest) e in
    let short : length rest ≤ length ys = omega (arith, length-drop m zs) in
    let n : o + m ≡ o + length xs = omega arith in
    ap (λ (t : List ℕ). sets (sets out o t) (o + m) ys) split
    ∙ rw (sets-append xs rest out o, n) (covered rest ys (sets out o xs) (o + length xs) short)
    ∙ sym (sets-append xs ys out o)

-- a list that was stored from the start
pub stored-over : {A : Type 0} (xs l : List A) → length xs ≤ length l → sets l 0 xs ≡ over xs l
unfolding over
stored-over xs l h = sets-eq xs l 0 (omega arith) ∙ ap (λ (k : ℕ). xs ++ drop k l) (zero-add (length xs))

-- ---- equal lists

pub same_more : (x y : ℕ) (xs ys : List ℕ) → x ≡ y → same (x ∷ xs) (y ∷ ys) ≡ same xs ys
unfolding same
same_more x y xs ys e = ap (λ (t : Bool). both t (same xs ys)) (eq-eqb x y e)

pub same→eq : (xs ys : List ℕ) → same xs ys ≡ true → xs ≡ ys
unfolding same
same→eq [] [] e = refl
same→eq [] (y ∷ ys) e = cc
same→eq (x ∷ xs) [] e = cc
same→eq (x ∷ xs) (y ∷ ys) e =
    let p = eqb-true x y (both_left (eqb x y) (same xs ys) e) in
    let q = same→eq xs ys (both_right (eqb x y) (same xs ys) e) in
    cc

pub same_refl : (xs : List ℕ) → same xs xs ≡ true
unfolding same
same_refl [] = refl
same_refl (x ∷ xs) = same_more x x xs xs refl ∙ same_refl xs
