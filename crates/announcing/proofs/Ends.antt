-- Rows that lie in the book, and rows without a time.
-- Assumes nothing.
use mathlib.Core.Path.{◌≡◌, refl}
use mathlib.Core.Bool.{Bool, true, false}
use mathlib.Core.List.{List, [], ◌∷◌}
use Prim.Native.Nat.{ℕ, zero, suc, ◌<◌}
use native.Mathlib.Nat.{not-suc-le-zero, le_of_suc-le-suc}
use native.Mathlib.Omega.{arith}
use lib.Dec.{leb}
use lib.ListN.{length, get_or}
use Rattle.std.specs.Prelude.{◌&&◌}
use Rattle.std.proofs.lemmas.Bool.Decides.{nat_tests}
use Rattle.limits.specs.Limits.{slot_times}
use Rattle.announcing.specs.declared.rows.Row.{Row}
use Rattle.announcing.specs.Rows.{is_empty, end_of, in_book}

-- a row without a time has none of something
pub none-of : (r : Row) → is_empty r ≡ true → 0 < r.slots → 0 < r.times → 0 < r.frames → ⊥
none-of r e p q f = grind (arith, nat_tests)

-- of a list that lies in the book, the first row does, and the others do
pub first-inside : (r : Row) (rs : List Row) → in_book (r ∷ rs) ≡ true → (leb (end_of r) slot_times ≡ true) × (in_book rs ≡ true)
first-inside r rs h = go (leb (end_of r) slot_times) (in_book rs) h
  where
    go : (a b : Bool) → (a && b) ≡ true → (a ≡ true) × (b ≡ true)
    go true b e = (refl, e)
    go false b e = cc

-- and so each row
pub each-inside : (u : Row) (rs : List Row) → in_book rs ≡ true → (i : ℕ) → i < length rs → leb (end_of (get_or rs i u)) slot_times ≡ true
each-inside u [] h i l = absurd (not-suc-le-zero l)
each-inside u (r ∷ rs) h zero l = (first-inside r rs h).0
each-inside u (r ∷ rs) h (suc i) l = each-inside u rs (first-inside r rs h).1 i (le_of_suc-le-suc l)
