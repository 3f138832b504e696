-- What is done at the times that pass a test leaves the book's lists as long as they were; and rows without a time do nothing.
-- Assumes nothing.
use mathlib.Core.Path.{◌≡◌, refl, ◌∙◌}
use mathlib.Core.Bool.{Bool}
use mathlib.Core.List.{[]}
use Prim.Native.Nat.{ℕ, zero, suc, ◌≤◌}
use native.Mathlib.Omega.{arith}
use lib.ListN.{length}
use Rattle.laws.specs.Loops.{upto}
use Rattle.laws.proofs.Tests.{pick-has}
use Rattle.laws.proofs.Upto.{upto-keeps}
use Rattle.limits.specs.Limits.{slot_times}
use Rattle.book.specs.Book.{Book}
use Rattle.book.proofs.Lengths.{SameSizes}
use Rattle.announcing.specs.declared.rows.Row.{Row}
use Rattle.announcing.specs.Rows.{at_times, booked}
use Rattle.announcing.specs.Announce.{most_rows, filled}
use Rattle.announcing.proofs.Filling.{booked-filled}

pub times-sizes : (p : ℕ → Bool) (f : Book → ℕ → Book) → ((c : Book) (d : ℕ) → SameSizes (f c d) c) → (b : Book) → SameSizes (at_times p f b) b
unfolding at_times
times-sizes p f same b =
    upto-keeps _ b (λ (c : Book). SameSizes c b) slot_times
    (λ c d l e. pick-has (λ (v : Book). SameSizes v b) (p d) (f c d) c (let s = same c d in (s.0 ∙ e.0, s.1 ∙ e.1)) e) (refl, refl)

-- turns that do nothing
still : {A : Type 0} (f : A → ℕ → A) → ((a : A) (d : ℕ) → f a d ≡ a) → (a : A) (n : ℕ) → upto f a n ≡ a
unfolding upto
still f same a zero = refl
still f same a (suc n) = same (upto f a n) n ∙ still f same a n

-- no row
none : (present h : ℕ) (b : Book) → booked present h [] b ≡ b
unfolding booked at_times
none present h b = still _ (λ c d. refl) _ slot_times ∙ still _ (λ c d. refl) b slot_times

pub booked-none : (present h : ℕ) (b : Book) → booked present h (filled []) b ≡ b
booked-none present h b =
    let few : length {A = Row} [] ≤ most_rows = omega arith in
    booked-filled [] few present h b ∙ none present h b
