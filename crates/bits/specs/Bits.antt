-- Bits of numbers as lists of 0 and 1, and bytes as they are sent.
-- Assumes nothing.
use Rattle.std.specs.Prelude.{ℕ, zero, suc, ◌+◌, ◌*◌, ◌/◌, ◌%◌, ◌^◌, Bool, true, List, [], ◌∷◌, ◌++◌, leb, take, drop}
use Rattle.laws.specs.Tests.{both}

-- the low n bits of v, the lowest first
unfoldable pub low_first : ℕ → ℕ → List ℕ
low_first zero v = []
low_first (suc n) v = v % 2 ∷ low_first n (v / 2)

-- the low n bits of v, the highest first
unfoldable pub high_first : ℕ → ℕ → List ℕ
high_first zero v = []
high_first (suc n) v = v / 2 ^ n % 2 ∷ high_first n v

-- the number whose bits these are, the lowest first
unfoldable pub low_value : List ℕ → ℕ
low_value [] = 0
low_value (b ∷ bs) = b + 2 * low_value bs

-- the number whose bits these are, the highest first, after those of a
unfoldable pub high_value : ℕ → List ℕ → ℕ
high_value a [] = a
high_value a (b ∷ bs) = high_value (a * 2 + b) bs

-- a byte with its eight bits reversed
unfoldable pub turned : ℕ → ℕ
unfolding high_value low_first
turned b = high_value 0 (low_first 8 b)

-- every element is 0 or 1
unfoldable pub all_bits : List ℕ → Bool
all_bits [] = true
all_bits (b ∷ bs) = both (leb b 1) (all_bits bs)

-- f of each element, one list after the other
unfoldable pub joined : (ℕ → List ℕ) → List ℕ → List ℕ
joined f [] = []
joined f (b ∷ bs) = f b ++ joined f bs

-- g of the first eight elements, of the next eight, and so on, n times
unfoldable pub eights : (List ℕ → ℕ) → ℕ → List ℕ → List ℕ
eights g zero bits = []
eights g (suc n) bits = g (take 8 bits) ∷ eights g n (drop 8 bits)

-- the bits of bytes as sent: byte by byte, the low bit first
unfoldable pub sent_bits : List ℕ → List ℕ
sent_bits bs = joined (low_first 8) bs

-- the n bytes that were sent so
unfoldable pub bytes_of : ℕ → List ℕ → List ℕ
bytes_of n bits = eights low_value n bits

-- the eight bytes of a number, the lowest first
unfoldable pub eight_of : ℕ → List ℕ
eight_of z =
    z % 256 ∷ z / 2 ^ 8 % 256 ∷ z / 2 ^ 16 % 256 ∷ z / 2 ^ 24 % 256 ∷ z / 2 ^ 32 % 256 ∷ z / 2 ^ 40 % 256 ∷ z / 2 ^ 48 % 256 ∷ z / 2 ^ 56 % 256 ∷ []
