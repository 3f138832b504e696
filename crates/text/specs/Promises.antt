-- What is promised of a number's text, beyond what each function's contract says. Proved in proofs/Promised.antt.
-- Assumes nothing.
use Rattle.std.specs.Prelude.{ℕ, ◌+◌, ◌-◌, ◌*◌, ◌^◌, ◌≤◌, ◌<◌, ◌≡◌, List, [], ◌∷◌, get_or}
use Rattle.limits.specs.Limits.{most_digits}
use Rattle.text.specs.Text.{decimal}

-- the number that digits say, read from the first on: v is what those before them say
unfoldable pub read_on : ℕ → List ℕ → ℕ
read_on v [] = v
read_on v (d ∷ ds) = read_on (v * 10 + (d - 48)) ds

-- every byte is one of the digits 0 to 9
unfoldable pub AllDigits : List ℕ → Type 0
AllDigits [] = Unit {0}
AllDigits (d ∷ ds) = ((48 ≤ d) × (d ≤ 57)) × AllDigits ds

-- the text read back digit by digit is the number; 10 ^ 20 is above every number of 64 bits
abbrev pub ReadsBack : Type 0
ReadsBack = (n : ℕ) → n < 10 ^ most_digits → read_on 0 (decimal n) ≡ n

-- it has nothing but digits
abbrev pub OnlyDigits : Type 0
OnlyDigits = (n : ℕ) → AllDigits (decimal n)

-- there is a first one, and it is not 0 unless the number is
abbrev pub FirstNotZero : Type 0
FirstNotZero = (n : ℕ) → 0 < n → n < 10 ^ most_digits → 48 < get_or (decimal n) 0 0
