-- Where a table of the code is, by computation, the list that a function fills, each of its entries is the function of its place. The
-- comparison of the two lists is the computed test.
-- Assumes nothing.
use mathlib.Core.Path.{◌≡◌, ap, ◌∙◌, sym, subst}
use mathlib.Core.List.{List}
use mathlib.Core.Bool.{Bool, true, false}
use mathlib.Core.Logic.{⊎_elim}
use lib.Dec.{T}
use Prim.Native.Nat.{ℕ, zero, suc, ◌+◌, ◌<◌}
use native.Mathlib.Nat.{zero-add, add-zero, add-suc, suc-add, le_of_suc-le-suc, eq-or-lt_of_le, not-suc-le-zero}
use lib.ListN.{get_or}
use Rattle.laws.specs.Tests.{both}
use Rattle.laws.specs.Tables.{tab, byte_table}

from : (f : ℕ → ℕ) (n i k : ℕ) → k < n → get_or (tab f i n) k 0 ≡ f (i + k)
from f zero i k h = absurd (not-suc-le-zero h)
from f (suc n) i zero h = ap f (sym (add-zero i))
from f (suc n) i (suc k) h = from f n (suc i) k (le_of_suc-le-suc h) ∙ ap f (suc-add i k ∙ sym (add-suc i k))

entry : (f : ℕ → ℕ) (n k : ℕ) → k < n → get_or (tab f 0 n) k 0 ≡ f k
entry f n k h = from f n 0 k h ∙ ap f (zero-add k)

pub byte-entry : (f : ℕ → ℕ) {table : List ℕ} (k : ℕ) → table ≡ byte_table f → k < 256 → get_or table k 0 ≡ f k
unfolding byte_table
byte-entry f k e h = ap (λ (t : List ℕ). get_or t k 0) e ∙ entry f 256 k h

-- a test at each number below n
abbrev pub all_below : (ℕ → Bool) → ℕ → Bool
all_below f zero = true
all_below f (suc n) = both (f n) (all_below f n)

left : (a b : Bool) → T (both a b) → T a
left true b t = tt
left false b t = t

right : (a b : Bool) → T (both a b) → T b
right true b t = t
right false b t = absurd t

pub below : (f : ℕ → Bool) (n : ℕ) → T (all_below f n) → (k : ℕ) → k < n → T (f k)
below f zero t k h = absurd (not-suc-le-zero h)
below f (suc n) t k h =
    ⊎_elim (λ e. subst (λ (m : ℕ). T (f m)) (sym e) (left (f n) (all_below f n) t))
    (λ l. below f n (right (f n) (all_below f n) t) k l)
    (eq-or-lt_of_le (le_of_suc-le-suc h))
