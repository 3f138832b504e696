-- The proofs of specs/Promises.antt.
-- Assumes nothing.
use mathlib.Core.Path.{◌≡◌, refl, ◌∙◌}
use mathlib.Core.List.{List, [], ◌∷◌, ◌++◌}
use Prim.Native.Nat.{ℕ, zero, suc, ◌+◌, ◌-◌, ◌*◌, ◌/◌, ◌%◌, ◌^◌, ◌<◌}
use native.Mathlib.Nat.{pow-zero}
use native.Mathlib.Omega.{arith}
use lib.ListN.{get_or}
use Rattle.limits.specs.Limits.{most_digits}
use Rattle.text.specs.Text.{digit, decimal_in}
use Rattle.text.specs.Promises.{read_on, AllDigits, ReadsBack, OnlyDigits, FirstNotZero}
use Rattle.text.proofs.Digits.{digits-cases, tenfold}

read-end : (v : ℕ) (xs : List ℕ) (d : ℕ) → read_on v (xs ++ (d ∷ [])) ≡ read_on v xs * 10 + (d - 48)
unfolding read_on
read-end v [] d = refl
read-end v (x ∷ xs) d = read-end (v * 10 + (x - 48)) xs d

read-in : (f n : ℕ) → n < 10 ^ f → read_on 0 (decimal_in f n) ≡ n
unfolding decimal_in read_on
read-in zero n h = omega (arith, pow-zero 10)
read-in (suc f) n h =
    digits-cases f n (λ xs. read_on 0 xs ≡ n) (λ l. omega arith)
    (λ l. read-end 0 (decimal_in f (n / 10)) (digit (n % 10)) ∙ omega (arith, read-in f (n / 10) (tenfold f n h)))

pub reads-back : ReadsBack
reads-back n h = read-in most_digits n h

digits-end : (xs : List ℕ) (d : ℕ) → d < 10 → AllDigits xs → AllDigits (xs ++ (digit d ∷ []))
unfolding AllDigits
digits-end [] d l a = ((omega arith, omega arith), tt)
digits-end (x ∷ xs) d l a = (a.0, digits-end xs d l a.1)

digits_in : (f n : ℕ) → AllDigits (decimal_in f n)
unfolding decimal_in AllDigits
digits_in zero n = tt
digits_in (suc f) n =
    digits-cases f n AllDigits (λ l. digits-end [] n l tt) (λ l. digits-end (decimal_in f (n / 10)) (n % 10) (omega arith) (digits_in f (n / 10)))

pub only-digits : OnlyDigits
only-digits n = digits_in most_digits n

first-stays : (xs ys : List ℕ) → 48 < get_or xs 0 0 → 48 < get_or (xs ++ ys) 0 0
first-stays [] ys h = absurd (omega arith)
first-stays (x ∷ xs) ys h = h

first-in : (f n : ℕ) → 0 < n → n < 10 ^ f → 48 < get_or (decimal_in f n) 0 0
first-in zero n p h = absurd (omega (arith, pow-zero 10))
first-in (suc f) n p h =
    digits-cases f n (λ xs. 48 < get_or xs 0 0) (λ l. omega arith)
    (λ l. first-stays (decimal_in f (n / 10)) (digit (n % 10) ∷ []) (first-in f (n / 10) (omega arith) (tenfold f n h)))

pub first-not-zero : FirstNotZero
first-not-zero n p h = first-in most_digits n p h
