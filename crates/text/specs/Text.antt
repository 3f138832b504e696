-- Numbers as text: decimal digits, a minus sign before a number below 0, and a row of numbers behind a word.
-- Assumes nothing.
use Rattle.std.specs.Prelude.{ℕ, zero, suc, ◌+◌, ◌/◌, ◌%◌, ◌≡◌, List, [], ◌∷◌, ◌++◌, length, ltb, ℤ, pos, negsuc}
use Rattle.laws.specs.Tests.{pick}
use Rattle.laws.specs.Lists.{over}
use Rattle.limits.specs.Limits.{most_digits}

-- the code of the digit d
abbrev pub digit : ℕ → ℕ
digit d = 48 + d

-- n in decimal, the first digit not 0 unless n is; at most f digits
unfoldable pub decimal_in : ℕ → ℕ → List ℕ
decimal_in zero n = []
decimal_in (suc f) n = pick (ltb n 10) (digit n ∷ []) (decimal_in f (n / 10) ++ (digit (n % 10) ∷ []))

-- a number of 64 bits has at most 20 digits
abbrev pub decimal : ℕ → List ℕ
decimal n = decimal_in most_digits n

abbrev pub signed : ℤ → List ℕ
signed (pos n) = decimal n
signed (negsuc n) = 45 ∷ decimal (suc n)

-- with a space before it
abbrev pub spaced : List ℕ → List ℕ
spaced text = 32 ∷ text

-- each number with a space before it
unfoldable pub spaced_all : List ℕ → List ℕ
spaced_all [] = []
spaced_all (n ∷ ns) = spaced (decimal n) ++ spaced_all ns

-- a word and the numbers behind it
unfoldable pub row : List ℕ → List ℕ → List ℕ
row word numbers = word ++ spaced_all numbers

-- the text stands at the start of out', which is else as out is, and ends at `at`
abbrev pub Stands : List ℕ → List ℕ → List ℕ → ℕ → Type 0
Stands text out out' at = (at ≡ length text) × (out' ≡ over text out)
