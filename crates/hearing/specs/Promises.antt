-- What is promised of hearing. Proved in proofs/Promised.antt.
-- Assumes nothing.
use Rattle.std.specs.Prelude.{ℕ, ◌<◌, ◌≡◌, ◌⊎◌, List, length, get_or}
use Rattle.limits.specs.Limits.{records}
use Rattle.hearing.specs.Station.{record_of}

-- k is the lowest number in the list at which x stands
pub record First (x : ℕ) (l : List ℕ) (k : ℕ) : Type 0 where
  pub inside : k < length l
  pub there : get_or l k 0 ≡ x
  pub lowest : (j : ℕ) → j < k → get_or l j 0 ≡ x → ⊥

-- the station's record, where it has one, is the lowest with its source; where none has it, the lowest with tally 0
abbrev pub RecordIsLowest : Type 0
RecordIsLowest =
    (sources tallies : List ℕ) (source : ℕ) → length sources ≡ records → length tallies ≡ records
    → record_of sources tallies source < records
    → First source sources (record_of sources tallies source)
    ⊎ (((j : ℕ) → j < records → get_or sources j 0 ≡ source → ⊥) × First 0 tallies (record_of sources tallies source))
