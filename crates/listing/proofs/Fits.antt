-- Numbers that have their widths, as signed words.
-- Assumes nothing.
use mathlib.Core.Path.{◌≡◌}
use mathlib.Core.Bool.{true}
use mathlib.Core.List.{List, [], ◌∷◌}
use Prim.Native.Nat.{ℕ, zero, suc, ◌^◌, ◌<◌}
use native.Mathlib.Nat.{lt_of_lt_of_le}
use lib.Dec.{T, leb, leb→le, lit<}
use lib.IntN.{pos}
use lib.ListN.{get_or}
use lib.Pow.{pow_mono}
use mir.Facts.{to_z_pos}
use mir.Syntax.{w32}
use mir.Val.{to_z}
use Rattle.bits.specs.Row.{all_fit}
use Rattle.bits.proofs.Rows.{both-fit}
use Rattle.message.specs.Message.{report_row, base_row}
use Rattle.message.specs.declared.Report.{Report}
use Rattle.message.specs.declared.Base.{Base}
use Rattle.listing.specs.Listing.{SmallReport, SmallBase}

-- ---- by its place in a row

abbrev width_at : List (ℕ × ℕ) → ℕ → ℕ
width_at fs i = (get_or fs i (0, 0)).0

abbrev number_at : List (ℕ × ℕ) → ℕ → ℕ
number_at fs i = (get_or fs i (0, 0)).1

pub below : (fs : List (ℕ × ℕ)) → all_fit fs ≡ true → (i : ℕ) → number_at fs i < 2 ^ width_at fs i
below [] e i = lit< tt
below (f ∷ fs) e zero = (both-fit f.0 f.1 fs e).0
below (f ∷ fs) e (suc i) = below fs (both-fit f.0 f.1 fs e).1 i

pub small : (fs : List (ℕ × ℕ)) → all_fit fs ≡ true → (i : ℕ) → T (leb (width_at fs i) 31) → number_at fs i < 2147483648
small fs e i h = lt_of_lt_of_le (below fs e i) (pow_mono {j = 31} (leb→le (width_at fs i) 31 h))

pub report-small : (id : ℕ) (r : Report) → all_fit (report_row id r) ≡ true → SmallReport id r
report-small id r e =
    let s = small (report_row id r) e in
    ((s 0 tt, s 1 tt), (s 2 tt, s 3 tt), (s 5 tt, s 6 tt), (s 9 tt, s 10 tt), (s 11 tt, s 12 tt), (s 13 tt, s 14 tt))

pub base-small : (b : Base) → all_fit (base_row b) ≡ true → SmallBase b
base-small b e =
    let s = small (base_row b) e in
    ((s 0 tt, s 1 tt), (s 2 tt, s 3 tt), (s 4 tt, s 5 tt), (s 6 tt, s 7 tt), (s 8 tt, s 9 tt), (s 12 tt, s 13 tt), (s 14 tt, s 15 tt))

-- ---- as a signed word

pub exact : (v : ℕ) → v < 2147483648 → to_z w32 v ≡ pos v
exact v h = to_z_pos w32 h
