-- What a draw comes to, by the number of the candidates; and of the 65,536 draws each candidate has floor(65536 / n), the rest are sent back.
-- Assumes nothing.
use mathlib.Core.Path.{◌≡◌, refl, sym, ap, subst, ◌∙◌}
use mathlib.Core.Bool.{Bool}
use mathlib.Core.List.{List}
use Prim.Native.Nat.{ℕ, ◌+◌, ◌-◌, ◌*◌, ◌/◌, ◌%◌, ◌≤◌, ◌<◌}
use native.Mathlib.Nat.{mul-div-le, mod-lt}
use native.Mathlib.Decide.{ℕ_discrete, dec_lt}
use native.Mathlib.Omega.{arith}
use lib.ListN.{length, get_or}
use lib.Dec.{eqb}
use borrow.Author.Tests.{eq-eqb, ne_eqb, lt-ltb, le-ltb}
use Rattle.laws.specs.Counting.{one}
use Rattle.laws.specs.Ranges.{how_many}
use Rattle.std.specs.declared.result.Result.{Result}
use Rattle.std.specs.declared.result.Result.TheVariants.{Ok, Err}
use Rattle.numbers.specs.declared.Refusal.{Refusal}
use Rattle.numbers.specs.declared.Refusal.TheVariants.{NoCandidate, DrawBack}
use Rattle.candidates.specs.declared.Picked.{Picked}
use Rattle.candidates.specs.Window.{at, picked, is_back, is_at}
use Rattle.laws.proofs.Sums.{sums, sums-ext, sums-zero, sums-ones, sums-split, in_blocks, same, same-yes, same-no, many-sums, one-true, one-false}

-- ---- one draw

module _ (a : ℕ) (cs : List ℕ) (d : ℕ) where
  pub picked_none : length cs ≡ 0 → picked a cs d ≡ Err NoCandidate
  unfolding picked
  picked_none e = rw (eq-eqb (length cs) 0 e)

  pub picked-at : 0 < length cs → d < length cs * (65536 / length cs) → picked a cs d ≡ Ok (at (a + get_or cs (d % length cs) 0) (length cs))
  unfolding picked
  picked-at p l = simp (ne_eqb (length cs) 0 (λ e. omega arith), lt-ltb d (length cs * (65536 / length cs)) l)

  pub picked-back : 0 < length cs → length cs * (65536 / length cs) ≤ d → picked a cs d ≡ Err DrawBack
  unfolding picked
  picked-back p l = simp (ne_eqb (length cs) 0 (λ e. omega arith), le-ltb d (length cs * (65536 / length cs)) l)

  -- the three ways
  pub data Draw : Type 0 where
    none : length cs ≡ 0 → picked a cs d ≡ Err NoCandidate → Draw
    one-of : 0 < length cs → picked a cs d ≡ Ok (at (a + get_or cs (d % length cs) 0) (length cs)) → Draw
    back : picked a cs d ≡ Err DrawBack → Draw

  pub draw : Draw
  draw = go (ℕ_discrete (length cs) 0) (dec_lt d (length cs * (65536 / length cs)))
    where
      go : Dec (length cs ≡ 0) → Dec (d < length cs * (65536 / length cs)) → Draw
      go (yes e) l = none e (picked_none e)
      go (no e) (yes l) = one-of (omega arith) (picked-at (omega arith) l)
      go (no e) (no l) = back (picked-back (omega arith) (omega arith))

-- so what holds of a slot that is picked, of no candidate and of a draw sent back holds of what is picked
pub picked-cases : (P : Result Picked Refusal → Type 0) → ((p : Picked) → P (Ok p)) → P (Err NoCandidate) → P (Err DrawBack) → (a : ℕ) (cs : List ℕ) (d : ℕ)
    → P (picked a cs d)
picked-cases P o n b a cs d = go (draw a cs d)
  where
    go : Draw a cs d → P (picked a cs d)
    go (none z q) = subst P (sym q) n
    go (one-of p q) = subst P (sym q) (o _)
    go (back q) = subst P (sym q) b

-- ---- all draws

module _ (a : ℕ) (cs : List ℕ) (some : 0 < length cs) where
  -- how many draws pass a test: of the n * (65536 / n) taken, and of the others
  split : (t : Result Picked Refusal → Bool) → how_many (λ d. t (picked a cs d)) 65536
      ≡ sums (λ d. one (t (Ok (at (a + get_or cs (d % length cs) 0) (length cs))))) (length cs * (65536 / length cs))
      + sums (λ d. one (t (Err DrawBack))) (65536 - length cs * (65536 / length cs))
  split t = general 65536 refl
    where
      m : ℕ
      m = length cs * (65536 / length cs)

      f : ℕ → ℕ
      f d = one (t (picked a cs d))

      taken : ℕ → ℕ
      taken d = one (t (Ok (at (a + get_or cs (d % length cs) 0) (length cs))))

      general : (N : ℕ) → N ≡ 65536 → how_many (λ d. t (picked a cs d)) N ≡ sums taken m + sums (λ d. one (t (Err DrawBack))) (N - m)
      general N e =
          let l : m ≤ N = omega (arith, mul-div-le 65536 (length cs)) in
          let s : N ≡ m + (N - m) = omega arith in
          many-sums (λ d. t (picked a cs d)) N
          ∙ ap (sums f) s
          ∙ sums-split f m (N - m)
          ∙ omega (
            arith,
            sums-ext f taken m (λ d q. ap (λ r. one (t r)) (picked-at a cs d some q)),
            sums-ext (λ i. f (m + i)) (λ i. one (t (Err DrawBack))) (N - m) (λ i q. ap (λ r. one (t r)) (picked-back a cs (m + i) some (omega arith))),
          )

  -- the number of draws that are sent back
  pub draws-back : how_many (λ d. is_back (picked a cs d)) 65536 ≡ 65536 - length cs * (65536 / length cs)
  draws-back =
      split is_back
      ∙ omega (
        arith,
        sums-zero (λ d. one (is_back (Ok (at (a + get_or cs (d % length cs) 0) (length cs))))) (length cs * (65536 / length cs)) (λ d l. one-false refl),
        sums-ones (λ d. one (is_back (Err DrawBack))) (65536 - length cs * (65536 / length cs)) (λ d. one-true refl),
      )

-- the number of draws of each candidate, where none stands twice
module _ (a : ℕ) (cs : List ℕ) (apart : (i j : ℕ) → i < length cs → j < length cs → get_or cs i 0 ≡ get_or cs j 0 → i ≡ j) where
  pub draws-each : (k : ℕ) → k < length cs → how_many (λ d. is_at (a + get_or cs k 0) (picked a cs d)) 65536 ≡ 65536 / length cs
  draws-each k inside =
      split a cs (omega arith) (is_at (a + get_or cs k 0))
      ∙ omega (
        arith,
        sums-ext (λ d. one (eqb (a + get_or cs (d % length cs) 0) (a + get_or cs k 0))) (λ d. same (d % length cs) k) (length cs * (65536 / length cs))
            (λ d l. each d (ℕ_discrete (d % length cs) k)),
        in_blocks (length cs) k (65536 / length cs) inside,
        sums-zero (λ d. one (is_at (a + get_or cs k 0) (Err DrawBack))) (65536 - length cs * (65536 / length cs)) (λ d l. one-false refl),
      )
    where
      each : (d : ℕ) → Dec (d % length cs ≡ k) → one (eqb (a + get_or cs (d % length cs) 0) (a + get_or cs k 0)) ≡ same (d % length cs) k
      each d (yes e) = one-true (eq-eqb _ _ (ap (λ x. a + get_or cs x 0) e)) ∙ sym (same-yes _ _ e)
      each d (no ne) =
          let other : a + get_or cs (d % length cs) 0 ≡ a + get_or cs k 0 → ⊥ = λ e. ne (apart (d % length cs) k (mod-lt d (omega arith)) inside (omega arith)) in
          one-false (ne_eqb _ _ other) ∙ sym (same-no _ _ ne)
