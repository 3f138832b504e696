-- The digits of a number: by whether there is one, how many there are, and that they are those that the library prints.
-- Assumes nothing.
use mathlib.Core.Path.{◌≡◌, sym, ap, ◌∙◌, subst⁻¹}
use mathlib.Core.List.{List, [], ◌∷◌, ◌++◌}
use Prim.Native.Nat.{ℕ, zero, suc, ◌/◌, ◌%◌, ◌^◌, ◌≤◌, ◌<◌}
use native.Mathlib.Nat.{pow-suc, pow-zero}
use native.Mathlib.Decide.{dec_lt}
use native.Mathlib.Omega.{arith}
use borrow.Author.Tests.{lt-ltb, le-ltb}
use lib.IntN.{ℤ, pos, negsuc}
use lib.ListN.{length, length-append}
use mir.Syntax.{w32}
use mir.Val.{SFits}
use Rattle.std.specs.Fmt.{decimal as library, signed_decimal}
use Rattle.std.proofs.lemmas.Fmt.{decimal_digit, decimal_step}
use Rattle.text.specs.Text.{digit, decimal_in, decimal, signed}

pub one-digit : (f n : ℕ) → n < 10 → decimal_in (suc f) n ≡ digit n ∷ []
unfolding decimal_in
one-digit f n h = simp (lt-ltb n 10 h)

pub more-digits : (f n : ℕ) → 10 ≤ n → decimal_in (suc f) n ≡ decimal_in f (n / 10) ++ (digit (n % 10) ∷ [])
unfolding decimal_in
more-digits f n h = simp (le-ltb n 10 h)

-- by whether there is one digit
module _ (f n : ℕ) (P : List ℕ → Type 0) (one : n < 10 → P (digit n ∷ [])) (more : 10 ≤ n → P (decimal_in f (n / 10) ++ (digit (n % 10) ∷ []))) where
  pub digits-cases : P (decimal_in (suc f) n)
  digits-cases = go (dec_lt n 10)
    where
      go : Dec (n < 10) → P (decimal_in (suc f) n)
      go (yes l) = subst⁻¹ P (one-digit f n l) (one l)
      go (no l) = subst⁻¹ P (more-digits f n (omega arith)) (more (omega arith))

-- no more digits than places
pub short : (f n : ℕ) → length (decimal_in f n) ≤ f
unfolding decimal_in
short zero n = omega arith
short (suc f) n =
    digits-cases f n (λ xs. length xs ≤ suc f) (λ l. omega arith)
    (λ l. omega (arith, length-append (decimal_in f (n / 10)) (digit (n % 10) ∷ []), short f (n / 10)))

-- a tenth has a place less
pub tenfold : (f n : ℕ) → n < 10 ^ suc f → n / 10 < 10 ^ f
tenfold f n h = omega (arith, pow-suc 10 f)

-- they are those of std, which the code takes from the kit
pub printed : (f n : ℕ) → n < 10 ^ suc f → n < 18446744073709551616 → library n ≡ decimal_in (suc f) n
printed zero n h k = let l : n < 10 = omega (arith, pow-suc 10 0, pow-zero 10) in decimal_digit n l ∙ sym (one-digit 0 n l)
printed (suc f) n h k =
    digits-cases (suc f) n (λ xs. library n ≡ xs) (λ l. decimal_digit n l)
    (λ l. decimal_step n l k ∙ ap (◌++ (digit (n % 10) ∷ [])) (printed f (n / 10) (tenfold (suc f) n h) (omega arith)))

pub printed_decimal : (n : ℕ) → n < 18446744073709551616 → library n ≡ decimal n
printed_decimal n k = printed 19 n (omega arith) k

pub printed_signed : (z : ℤ) → SFits w32 z → signed_decimal z ≡ signed z
printed_signed (pos n) f = printed_decimal n (omega (arith, f.sfits))
printed_signed (negsuc n) f = ap (45 ∷◌) (printed_decimal (suc n) (omega (arith, f.sfits)))
