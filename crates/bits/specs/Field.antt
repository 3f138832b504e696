-- Fields: numbers at a bit position of a list of bytes, each from the high bit on.
-- Assumes nothing.
use Rattle.std.specs.Prelude.{ℕ, ◌+◌, ◌-◌, ◌*◌, ◌/◌, ◌%◌, ◌^◌, min, List, [], ◌∷◌, ◌++◌, length, get_or, take, drop}
use Rattle.bits.specs.Bits.{high_first, high_value, joined, eights}

-- the bits of bytes, each from the high bit on
unfoldable pub bits_of : List ℕ → List ℕ
bits_of l = joined (high_first 8) l

-- the n bytes that bits make
unfoldable pub packed : ℕ → List ℕ → List ℕ
packed n bits = eights (high_value 0) n bits

-- the number that w bits from place at on make
unfoldable pub field_of : List ℕ → ℕ → ℕ → ℕ
field_of l at w = high_value 0 (take w (drop at (bits_of l)))

-- the bits with the low w bits of v from place at on
unfoldable pub spliced : List ℕ → ℕ → ℕ → ℕ → List ℕ
spliced bits at w v = take at bits ++ high_first w v ++ drop (at + w) bits

-- the bytes with the low w bits of v from bit at on
unfoldable pub put_field : List ℕ → ℕ → ℕ → ℕ → List ℕ
put_field l at w v = packed (length l) (spliced (bits_of l) at w v)

-- the number of eight bytes from place s on, the first one the highest
unfoldable pub word_of : List ℕ → ℕ → ℕ
word_of l s =
    get_or l s 0 * 2 ^ 56 + get_or l (s + 1) 0 * 2 ^ 48 + get_or l (s + 2) 0 * 2 ^ 40 + get_or l (s + 3) 0 * 2 ^ 32
    + get_or l (s + 4) 0 * 2 ^ 24 + get_or l (s + 5) 0 * 2 ^ 16 + get_or l (s + 6) 0 * 2 ^ 8 + get_or l (s + 7) 0

-- the eight bytes of a number, the highest first
unfoldable pub bytes_of_word : ℕ → List ℕ
bytes_of_word z =
    z / 2 ^ 56 % 256 ∷ z / 2 ^ 48 % 256 ∷ z / 2 ^ 40 % 256 ∷ z / 2 ^ 32 % 256 ∷ z / 2 ^ 24 % 256 ∷ z / 2 ^ 16 % 256 ∷ z / 2 ^ 8 % 256 ∷ z % 256 ∷ []

-- where the eight bytes start that hold a field
abbrev pub window_of : ℕ → ℕ → ℕ
window_of len at = min (at / 8) (len - 8)
