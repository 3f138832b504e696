-- How the code finds the candidates without ranks. Each available slot has a key, greater the better its rank. A round finds the greatest key
-- below the last one, and the candidates of rank below k are those not below the cut after k rounds. The code makes four rounds at once: it
-- keeps the four greatest keys that it has met.
-- Assumes nothing.
use Rattle.std.specs.Prelude.{ℕ, zero, suc, ◌+◌, ◌-◌, ◌*◌, min, max, ◌≡◌, Bool, leb, ltb, eqb}
use Rattle.laws.specs.Tests.{pick, both, either}
use Rattle.candidates.specs.declared.rounds.Best.{Best}
use Rattle.candidates.specs.Window.{is_free, is_available}

-- ---- rounds

-- the key of the slot i with the worth w; 0 if it is not available
unfoldable pub key_of : ℕ → ℕ → ℕ
key_of w i = pick (is_available w) (w * 512 + (511 - i)) 0

abbrev pub keys : (ℕ → ℕ) → ℕ → ℕ
keys ws i = key_of (ws i) i

-- k where it is below c, else 0
unfoldable pub cap : ℕ → ℕ → ℕ
cap c k = pick (ltb k c) k 0

-- the greatest of the keys f 0 to f (n - 1) that are below c
unfoldable pub below : (ℕ → ℕ) → ℕ → ℕ → ℕ
below f c zero = 0
below f c (suc n) = max (below f c n) (cap c (f n))

-- above every key
abbrev pub above_all : ℕ
above_all = 18446744073709551616

-- the cut after k rounds over n keys
unfoldable pub cut_of : (ℕ → ℕ) → ℕ → ℕ → ℕ
cut_of f n zero = above_all
cut_of f n (suc k) = below f (cut_of f n k) n

-- free, or available and not below the cut
unfoldable pub within : ℕ → ℕ → ℕ → Bool
within c w i = either (is_free w) (both (is_available w) (leb c (key_of w i)))

abbrev pub in_cut : (ℕ → ℕ) → ℕ → ℕ → Bool
in_cut ws c i = within c (ws i) i

-- ---- four rounds at once

-- the best after one slot more, of the worth w
unfoldable pub better_of : Best → ℕ → ℕ → Best
better_of b w i =
    record {
      first = max b.first (key_of w i);
      second = max b.second (min b.first (key_of w i));
      third = max b.third (min b.second (key_of w i));
      fourth = max b.fourth (min b.third (key_of w i));
    }

-- the four greatest keys of the first n slots are the cuts after one to four rounds
pub record BestIn (ws : ℕ → ℕ) (n : ℕ) (b : Best) : Type 0 where
  pub one : b.first ≡ cut_of (keys ws) n 1
  pub two : b.second ≡ cut_of (keys ws) n 2
  pub three : b.third ≡ cut_of (keys ws) n 3
  pub four : b.fourth ≡ cut_of (keys ws) n 4

-- the cut after as many rounds as slots are needed beside f free ones
unfoldable pub cut_after : ℕ → Best → ℕ
cut_after f b =
    pick (ltb 3 f) above_all
    (pick (eqb f 3) b.first
    (pick (eqb f 2) b.second
    (pick (eqb f 1) b.third
    b.fourth)))
