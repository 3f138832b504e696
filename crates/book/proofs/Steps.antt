-- A mark and a freeing, by what stands at the place.
-- Assumes nothing.
use mathlib.Core.Path.{◌≡◌}
use Prim.Native.Nat.{ℕ}
use mathlib.Core.Bool.{true, false}
use borrow.Author.Tests.{eq-eqb, ne_eqb}
use Rattle.book.specs.Book.{Book, ours, holder, kept, put_at, mark_at, free_at}

pub kept-own : (x : ℕ) → x ≡ ours → kept x ≡ true
unfolding kept
kept-own x e = eq-eqb x ours e

pub kept-other : (x : ℕ) → (x ≡ ours → ⊥) → kept x ≡ false
unfolding kept
kept-other x n = ne_eqb x ours n

module _ (b : Book) (at h : ℕ) where
  pub mark-kept : kept (holder b at) ≡ true → b ≡ mark_at b at h
  unfolding mark_at
  mark-kept e = rw e

  pub mark-other : kept (holder b at) ≡ false → put_at b at h ≡ mark_at b at h
  unfolding mark_at
  mark-other e = rw e

  pub free-held : holder b at ≡ h → put_at b at 0 ≡ free_at b at h
  unfolding free_at
  free-held e = rw (eq-eqb _ _ e)

  pub free_other : (holder b at ≡ h → ⊥) → b ≡ free_at b at h
  unfolding free_at
  free_other n = rw (ne_eqb _ _ n)
