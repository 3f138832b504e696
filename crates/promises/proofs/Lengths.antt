-- Own marks, a frame apart, leave the two lists of a book as long as they were.
-- Assumes nothing.
use mathlib.Core.Path.{refl, ◌∙◌}
use Prim.Native.Nat.{ℕ, ◌+◌, ◌*◌}
use Rattle.laws.proofs.Upto.{upto-keeps}
use Rattle.limits.specs.Limits.{frame_slots}
use Rattle.book.specs.Book.{Book, ours, place}
use Rattle.book.proofs.Lengths.{SameSizes, put-sizes}
use Rattle.promises.proofs.Moves.{owned_in}

pub frames-sizes : (present d : ℕ) (b : Book) (n : ℕ) → SameSizes (owned_in present d b n) b
frames-sizes present d b n =
    upto-keeps _ b (λ (x : Book). SameSizes x b) n
    (λ x i l e. let p = put-sizes x (place present (d + frame_slots * i)) ours in (p.0 ∙ e.0, p.1 ∙ e.1)) (refl, refl)
