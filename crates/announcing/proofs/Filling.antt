-- A report's rows filled up with unused ones announce what they announce alone; and a report has no more rows than the code keeps.
-- Assumes nothing.
use mathlib.Core.Path.{◌≡◌, refl, ap, ap₂, ◌∙◌}
use mathlib.Core.Bool.{Bool, false, not}
use mathlib.Core.List.{List, [], ◌∷◌}
use Prim.Native.Nat.{ℕ, zero, suc, ◌≤◌}
use native.Mathlib.Omega.{arith}
use lib.Dec.{eqb, leb}
use lib.ListN.{length, get_or, length-append}
use Rattle.std.specs.Prelude.{◌&&◌}
use Rattle.laws.specs.Tests.{both, either, pick}
use Rattle.laws.specs.Ranges.{some, how_many}
use Rattle.laws.proofs.Tests.{pick-has}
use Rattle.limits.specs.Limits.{slot_times}
use Rattle.message.specs.declared.state.SubMessage.{SubMessage}
use Rattle.message.specs.declared.state.SubMessage.TheVariants.{Offset, Time, Slot, Stations}
use Rattle.message.specs.declared.state.State.{State}
use Rattle.message.specs.State.{slots_of, distance_of}
use Rattle.message.specs.declared.state.State.TheVariants.{SelfOrganised as Organised, Incremental as Increasing}
use Rattle.book.specs.Book.{Book, place, mark_at, free_at}
use Rattle.announcing.specs.declared.rows.Row.{Row}
use Rattle.announcing.specs.declared.rows.Kind.TheVariants.{Mark}
use Rattle.announcing.specs.Rows.{marks_by, has_time, marks_time, frees_time, at_times, booked, held_of, end_of, in_book}
use Rattle.announcing.specs.Announce.{block, every_frame, offset, keeps, announces, most_rows, unused, filled_to, filled}

-- ---- unused rows change nothing

unused-none : (d : ℕ) → has_time unused d ≡ false
unfolding has_time some
unused-none d = refl

marks-to : (n : ℕ) (rs : List Row) → length rs ≤ n → (d : ℕ) → marks_time (filled_to n rs) d ≡ marks_time rs d
marks-to zero [] l d = refl
marks-to zero (r ∷ rs) l d = absurd (omega arith)
marks-to (suc n) [] l d = marks-to n [] (omega arith) d
marks-to (suc n) (r ∷ rs) l d = ap (either (both (marks_by r.kind) (has_time r d))) (marks-to n rs (omega arith) d)

frees-to : (n : ℕ) (rs : List Row) → length rs ≤ n → (d : ℕ) → frees_time (filled_to n rs) d ≡ frees_time rs d
frees-to zero [] l d = refl
frees-to zero (r ∷ rs) l d = absurd (omega arith)
frees-to (suc n) [] l d = ap (λ (t : Bool). either t (frees_time (filled_to n []) d)) (unused-none d) ∙ frees-to n [] (omega arith) d
frees-to (suc n) (r ∷ rs) l d = ap (either (both (not (marks_by r.kind)) (has_time r d))) (frees-to n rs (omega arith) d)

in-to : (n : ℕ) (rs : List Row) → length rs ≤ n → in_book (filled_to n rs) ≡ in_book rs
unfolding end_of
in-to zero [] l = refl
in-to zero (r ∷ rs) l = absurd (omega arith)
in-to (suc n) [] l = in-to n [] (omega arith)
in-to (suc n) (r ∷ rs) l = ap (λ (t : Bool). leb (end_of r) slot_times && t) (in-to n rs (omega arith))

module _ (rs : List Row) (few : length rs ≤ most_rows) where
  pub marks-filled : (d : ℕ) → marks_time (filled rs) d ≡ marks_time rs d
  unfolding filled
  marks-filled d = marks-to most_rows rs few d

  pub frees-filled : (d : ℕ) → frees_time (filled rs) d ≡ frees_time rs d
  unfolding filled
  frees-filled d = frees-to most_rows rs few d

  pub in-book-filled : in_book (filled rs) ≡ in_book rs
  unfolding filled
  in-book-filled = in-to most_rows rs few

  marking : marks_time (filled rs) ≡ marks_time rs
  marking = λ i d. marks-filled d i

  freeing : frees_time (filled rs) ≡ frees_time rs
  freeing = λ i d. frees-filled d i

  pub booked-filled : (present h : ℕ) (b : Book) → booked present h (filled rs) b ≡ booked present h rs b
  unfolding booked
  booked-filled present h b =
      ap₂ (λ (p q : ℕ → Bool). at_times p (λ c d. mark_at c (place present d) h) (at_times q (λ c d. free_at c (place present d) h) b)) marking freeing

  pub held-filled : (present h : ℕ) (slots : List ℕ) → held_of present h slots (filled rs) ≡ held_of present h slots rs
  unfolding held_of
  held-filled present h slots = ap (λ (p : ℕ → Bool). how_many (λ d. both (p d) (eqb (get_or slots (place present d) 0) h)) slot_times) marking

-- ---- a report's rows

-- one of two lists that both have at most n rows
pick-few : (n : ℕ) (t : Bool) (xs ys : List Row) → length xs ≤ n → length ys ≤ n → length (pick t xs ys) ≤ n
pick-few n = pick-has (λ (l : List Row). length l ≤ n)

offset-few : (s : SubMessage) → length (offset s) ≤ 1
offset-few (Offset d) = pick-few 1 (eqb d 0) [] (block d 1 ∷ []) (omega arith) (omega arith)
offset-few (Time c) = omega arith
offset-few (Slot c) = omega arith
offset-few (Stations c) = omega arith

pub few-announced : (s : State) → length (announces s) ≤ most_rows
unfolding announces
few-announced (Organised s) = omega (arith, offset-few s.sub)
few-announced (Increasing s) =
    omega (arith, length-append (keeps s) (block (distance_of s) (slots_of s) ∷ []), pick-few 1 (eqb s.keep 1) (every_frame 1 1 Mark ∷ []) [] (omega arith) (omega arith))
