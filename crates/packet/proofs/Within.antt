-- What a range's `contains` answers is the test `between`.
-- Assumes nothing.
use Rattle.std.specs.Prelude.{ℕ, ◌≡◌, ◌&&◌, Bool, true, false, cond, Some, leb, refl}
use Rattle.std.specs.Ordering.{nat_cmp, is_le, partial_le, partial_lt}
use Rattle.std.proofs.Common.{arith, sym, ap, ◌∙◌}
use Rattle.laws.specs.Tests.{both, between}

at-most : (x y : ℕ) → is_le (nat_cmp x y) ≡ leb x y
at-most x y = grind arith

as-both : (a b : Bool) → (a && b) ≡ both a b
as-both true b = refl
as-both false b = refl

-- of a range from s to e that is not spent
pub within : (n : ℕ) {s e a b : ℕ} {spent r t : Bool} → r ≡ (partial_le (λ x y. Some (nat_cmp x y)) s n && cond spent (partial_lt (λ x y. Some (nat_cmp x y)) n e) (partial_le (λ x y. Some (nat_cmp x y)) n e))
    → s ≡ a → e ≡ b → spent ≡ false → r ≡ t → between a b n ≡ t
within n {s} {e} {a} {b} h hs he x k =
    let same : both (is_le (nat_cmp a n)) (is_le (nat_cmp n b)) ≡ between a b n = ap (λ (t : Bool). both t (is_le (nat_cmp n b))) (at-most a n) ∙ ap (both (leb a n)) (at-most n b) in
    sym (rw (hs, he, x) at h ∙ as-both (is_le (nat_cmp a n)) (is_le (nat_cmp n b)) ∙ same) ∙ k
