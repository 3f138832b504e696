-- A released holder has no place left, and no tally.
-- Assumes nothing.
use mathlib.Core.Path.{◌≡◌, sym, ap, ◌∙◌}
use Prim.Native.Nat.{ℕ, zero, suc, ◌≤◌, ◌<◌}
use native.Mathlib.Decide.{ℕ_discrete}
use native.Mathlib.Omega.{arith}
use lib.Arith.{lt_of_le-ne}
use lib.ListN.{length, get_or, set}
use lib.Seq.{get_or-set_same, get_or-set_other}
use Rattle.laws.specs.Loops.{upto}
use Rattle.laws.proofs.Counting.{count_none}
use Rattle.limits.specs.Limits.{slot_times}
use Rattle.book.specs.Book.{Book, holder, put_at, free_at, released}
use Rattle.book.specs.Sound.{Sound}
use Rattle.book.specs.Promises.{ReleaseLeavesNone}
use Rattle.book.proofs.Soundness.{sound-release}
use Rattle.book.proofs.Steps.{free-held, free_other}

module _ (b : Book) (at h p : ℕ) (l : at < length b.slots) (z : 0 < h) where
  put-gone : (p ≡ at → ⊥) → (holder b p ≡ h → ⊥) → holder (put_at b at 0) p ≡ h → ⊥
  unfolding put_at
  put-gone n k e = k (sym (get_or-set_other b.slots at p 0 0 n) ∙ e)

  put-none : p ≡ at → holder (put_at b at 0) p ≡ h → ⊥
  unfolding put_at
  put-none q e = omega (arith, sym (get_or-set_same b.slots at 0 0 l) ∙ ap (λ (j : ℕ). get_or (set b.slots at 0) j 0) (sym q) ∙ e)

  -- h does not hold a place that was freed of it, nor one that it did not hold before
  free-gone : ((p ≡ at → ⊥) → holder b p ≡ h → ⊥) → holder (free_at b at h) p ≡ h → ⊥
  free-gone k = go (ℕ_discrete (holder b at) h) (ℕ_discrete p at)
    where
      go : Dec (holder b at ≡ h) → Dec (p ≡ at) → holder (free_at b at h) p ≡ h → ⊥
      go (yes f) (yes q) e = put-none q (ap (λ (c : Book). holder c p) (free-held b at h f) ∙ e)
      go (yes f) (no q) e = put-gone q (k q) (ap (λ (c : Book). holder c p) (free-held b at h f) ∙ e)
      go (no f) (yes q) e = f (ap (holder b) (sym q) ∙ ap (λ (c : Book). holder c p) (free_other b at h f) ∙ e)
      go (no f) (no q) e = k q (ap (λ (c : Book). holder c p) (free_other b at h f) ∙ e)

released-gone : (b : Book) (h k : ℕ) → Sound b → 0 < h → k ≤ slot_times → (p : ℕ) → p < k → holder (released h b k) p ≡ h → ⊥
unfolding upto
released-gone b h zero w z l p q e = omega arith
released-gone b h (suc k) w z l p q e =
    free-gone (released h b k) k h p (omega (arith, (sound-release b h k (omega arith) w).size)) z
    (λ n. released-gone b h k w z (omega arith) p (lt_of_le-ne (omega arith) n)) e

pub release-leaves-none : ReleaseLeavesNone
release-leaves-none b h z l w =
    let r = sound-release b h slot_times (omega arith) w in
    r.right h l
    ∙ count_none h (released h b slot_times).slots (λ i k. released-gone b h slot_times w z (omega arith) i (omega (arith, r.size)))
