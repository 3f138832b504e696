-- Holders with a record, and where it stands.
-- Assumes nothing.
use mathlib.Core.Path.{◌≡◌, refl}
use mathlib.Core.Bool.{Bool, true, false}
use Prim.Native.Nat.{ℕ, ◌-◌, ◌≤◌, ◌<◌}
use native.Mathlib.Omega.{arith}
use borrow.Author.Tests.{ltb-true, lt-ltb, le-ltb}
use lib.Dec.{ltb}
use Rattle.laws.proofs.Tests.{both-no, both_left, both_right}
use Rattle.limits.specs.Limits.{records}
use Rattle.book.specs.Book.{ours, is_record, record_at}

module _ (h : ℕ) where
  pub is-record : 0 < h → h < ours → is_record h ≡ true
  unfolding is_record
  is-record p q = rw (lt-ltb 0 h p, lt-ltb h ours q)

  pub nobody-has-none : h ≡ 0 → is_record h ≡ false
  unfolding is_record
  nobody-has-none e = rw (le-ltb 0 h (omega arith))

  pub others-have-none : ours ≤ h → is_record h ≡ false
  unfolding is_record
  others-have-none l = rw (le-ltb h ours l) (both-no (ltb 0 h))

pub record_is : (h : ℕ) → is_record h ≡ true → (0 < h) × (h < ours)
unfolding is_record
record_is h e = (ltb-true 0 h (both_left (ltb 0 h) (ltb h ours) e), ltb-true h ours (both_right (ltb 0 h) (ltb h ours) e))

pub its-record : (h : ℕ) → is_record h ≡ true → record_at h ≡ h - 1
unfolding record_at
its-record h e = rw e

pub no_record : (h : ℕ) → is_record h ≡ false → record_at h ≡ 0
unfolding record_at
no_record h e = rw e

-- a record's place is one of the register's, and so is the first
pub inside : (h : ℕ) → record_at h < records
inside h = go (is_record h) refl
  where
    go : (t : Bool) → is_record h ≡ t → record_at h < records
    go true e = let r = record_is h e in omega (arith, its-record h e, r.0, r.1)
    go false e = omega (arith, no_record h e)
