-- A station's record is the lowest.
-- Assumes nothing.
use mathlib.Core.Path.{◌≡◌, refl, subst}
use mathlib.Core.Logic.{◌⊎◌, inl, inr}
use Prim.Native.Nat.{ℕ, ◌<◌}
use native.Mathlib.Decide.{dec_lt}
use native.Mathlib.Omega.{arith}
use lib.ListN.{length, get_or}
use Rattle.limits.specs.Limits.{records}
use Rattle.hearing.specs.Station.{index_of, record_of}
use Rattle.hearing.specs.Promises.{First, RecordIsLowest}
use Rattle.hearing.proofs.Stations.{record-known, record-idle, before-none, first-is}

pub record-lowest : RecordIsLowest
record-lowest s t x e f p = go (dec_lt (index_of x s) (length s))
  where
    go : Dec (index_of x s < length s)
        → First x s (record_of s t x) ⊎ (((j : ℕ) → j < records → get_or s j 0 ≡ x → ⊥) × First 0 t (record_of s t x))
    go (yes q) = inl (subst (First x s) (record-known s t x (index_of x s) refl q) (first-is x s q))
    go (no n) =
        inr (
          (λ j r z. before-none x s j (omega arith) z),
          subst (First 0 t) idle (first-is 0 t (omega (arith, idle))),
        )
      where
        idle : index_of 0 t ≡ record_of s t x
        idle = record-idle s t x (index_of x s) refl (index_of 0 t) (omega arith) refl
