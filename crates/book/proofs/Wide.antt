-- A change of one holder's tally, in the list of all tallies and in the parts that the code keeps. `v` is the new number, as a callee
-- gives it.
-- Assumes nothing.
use mathlib.Core.Path.{◌≡◌, sym, ap, ◌∙◌}
use mathlib.Core.List.{List, [], ◌∷◌, ◌++◌}
use Prim.Native.Nat.{ℕ, suc, ◌-◌, ◌<◌}
use native.Mathlib.Omega.{arith}
use lib.ListN.{length, get_or, set, length-append, get_or-append}
use lib.Seq.{set-append_left, set_at, get_or_at, set_out}
use Rattle.limits.specs.Limits.{records}
use Rattle.book.specs.Book.{ours, alter}

module _ (f : ℕ → ℕ) (free own : ℕ) (t : List ℕ) (h v : ℕ) where
  pub alter_free : h ≡ 0 → v ≡ f free → v ∷ (t ++ own ∷ []) ≡ alter f (free ∷ (t ++ own ∷ [])) h
  unfolding alter
  alter_free e p = rw (e, p)

  record-at : (k : ℕ) → k < length t → v ≡ f (get_or t k 0) → free ∷ (set t k v ++ own ∷ []) ≡ alter f (free ∷ (t ++ own ∷ [])) (suc k)
  unfolding alter
  record-at k l p = rw (p, get_or-append) (ap (λ (r : List ℕ). free ∷ r) (sym (set-append_left t (own ∷ []) k (f (get_or t k 0)) l)))

  pub alter-record : 0 < h → h - 1 < length t → v ≡ f (get_or t (h - 1) 0) → free ∷ (set t (h - 1) v ++ own ∷ []) ≡ alter f (free ∷ (t ++ own ∷ [])) h
  alter-record q l p =
      let e : suc (h - 1) ≡ h = omega arith in
      record-at (h - 1) l p ∙ ap (alter f (free ∷ (t ++ own ∷ []))) e

  own_at : (k : ℕ) → length t ≡ k → v ≡ f own → free ∷ (t ++ v ∷ []) ≡ alter f (free ∷ (t ++ own ∷ [])) (suc k)
  unfolding alter
  own_at k l p = rw (p, get_or_at) (ap (λ (r : List ℕ). free ∷ r) (sym (set_at t own [] (f own) k l)))

  pub alter-own : length t ≡ records → h ≡ ours → v ≡ f own → free ∷ (t ++ v ∷ []) ≡ alter f (free ∷ (t ++ own ∷ [])) h
  alter-own l e p = own_at records l p ∙ ap (alter f (free ∷ (t ++ own ∷ []))) (sym e)

pub alter-none : (f : ℕ → ℕ) (free own : ℕ) (t : List ℕ) (h : ℕ) → length t ≡ records → ours < h → free ∷ (t ++ own ∷ []) ≡ alter f (free ∷ (t ++ own ∷ [])) h
unfolding alter
alter-none f free own t h l p =
    sym (set_out (free ∷ (t ++ own ∷ [])) h (f (get_or (free ∷ (t ++ own ∷ [])) h 0)) (omega (arith, length-append t (own ∷ []))))
