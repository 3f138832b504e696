-- Chains over the places of a window, those that pass a test and whether some do; and the list of the candidates: what a turn of the loop that fills it does, and
-- what a draw then picks.
-- Assumes nothing.
use mathlib.Core.Path.{◌≡◌, refl, sym, ap, subst, ◌∙◌}
use mathlib.Core.Bool.{Bool, true, false, cond}
use mathlib.Core.List.{List, [], ◌∷◌, ◌++◌, append-nil}
use Prim.Native.Nat.{ℕ, zero, suc, ◌+◌, ◌*◌, ◌/◌, ◌%◌, ◌≤◌, ◌<◌}
use native.Mathlib.Nat.{mod-lt, zero-add}
use native.Mathlib.Numerals.{add-one}
use native.Mathlib.Omega.{arith}
use lib.ListN.{length, get_or, set, take, length-set}
use lib.Seq.{take-suc, get_or-set_same, get_or-take, length-take-le}
use Rattle.std.specs.Bool.{MatchBool}
use Rattle.std.specs.Int.{from_bool}
use Rattle.std.specs.declared.result.Result.TheVariants.{Ok, Err}
use Rattle.std.specs.List.{filter, range_with_len, AllWithin, HoldsAt}
use Rattle.std.proofs.lemmas.List.FromFn.{length-range_with_len, get_or-range_with_len}
use Rattle.laws.specs.Tests.{pick}
use Rattle.laws.specs.Counting.{one}
use Rattle.laws.specs.Ranges.{some, those}
use Rattle.limits.specs.Limits.{widest}
use Rattle.numbers.specs.declared.Refusal.TheVariants.{NoCandidate, DrawBack}
use Rattle.candidates.specs.Window.{at, picked}
use Rattle.laws.proofs.Ranges.{some-hit}
use Rattle.laws.proofs.Sums.{one-true, one-false, one-le}
use Rattle.laws.proofs.Those.{those-none, those-last}
use Rattle.candidates.proofs.Draws.{picked_none, picked-at, picked-back}

-- a store at n leaves the first n alone
take-set : (l : List ℕ) (n x : ℕ) → take n (set l n x) ≡ take n l
take-set [] n x = refl
take-set (y ∷ l) zero x = refl
take-set (y ∷ l) (suc n) x = ap (λ (t : List ℕ). y ∷ t) (take-set l n x)

-- .. and comes after them
take-stored : (l : List ℕ) (n x : ℕ) → n < length l → take (suc n) (set l n x) ≡ take n l ++ (x ∷ [])
take-stored l n x h =
    take-suc (set l n x) n 0 (rw length-set h)
    ∙ ap (λ (y : ℕ). take n (set l n x) ++ (y ∷ [])) (get_or-set_same l n x 0 h)
    ∙ ap (λ (t : List ℕ). t ++ (x ∷ [])) (take-set l n x)

-- what is known to be a test's count
pub bit_le : (b : Bool) (n : ℕ) → n ≡ one b → n ≤ 1
bit_le b n e = omega (arith, e, one-le b)

-- a filter of the n numbers from i on gives those that pass
pub filter-those : (p : ℕ → Bool) (i n : ℕ) → filter p (range_with_len i n) ≡ those p i n
unfolding those
filter-those p i zero = refl
filter-those p i (suc n) = go (ap (λ (k : ℕ). filter p (range_with_len k n)) (add-one i) ∙ filter-those p (suc i) n) (p i)
  where
    go : filter p (range_with_len (i + 1) n) ≡ those p (suc i) n → (b : Bool)
        → cond b (i ∷ filter p (range_with_len (i + 1) n)) (filter p (range_with_len (i + 1) n)) ≡ pick b (i ∷ those p (suc i) n) (those p (suc i) n)
    go e true = ap (λ (l : List ℕ). i ∷ l) e
    go e false = e

some_none : (p : ℕ → Bool) (n : ℕ) → ((k : ℕ) → k < n → p k ≡ false) → some p n ≡ false
unfolding some
some_none p zero e = refl
some_none p (suc n) e = rw (some_none p n (λ k l. e k (omega arith)), e n (omega arith))

-- what a chain tells of the numbers below n, Yes and No being what it says of one that passes p and of one that does not
module _ (p : ℕ → Bool) (n : ℕ) (Yes No : ℕ → Type 0) (yes : (k : ℕ) → Yes k → p k ≡ true) (no : (k : ℕ) → No k → p k ≡ false) where
  -- the number at a place of the range is the place
  at-place : (P : ℕ → Type 0) (k : ℕ) → k < n → P (get_or (range_with_len 0 n) k 0) → P k
  at-place P k l h = subst P (get_or-range_with_len 0 n k 0 l ∙ zero-add k) h

  within : (k : ℕ) → k < length (range_with_len 0 n) → k < n
  within k l = omega (arith, length-range_with_len 0 n)

  -- whether some do, as `any` tells it
  pub some-told : (r : Bool)
      → MatchBool r ((k : ℕ) × (k < length (range_with_len 0 n)) × HoldsAt Yes (range_with_len 0 n) k)
      (AllWithin No (range_with_len 0 n) 0 (length (range_with_len 0 n)))
      → r ≡ some p n
  some-told true h =
      let inside = within h.0 h.1 in
      some-hit p h.0 n inside (yes h.0 (at-place Yes h.0 inside (h.2 0)))
  some-told false h =
      sym (some_none p n (λ k l. no k (at-place No k l (h k 0 (omega arith) (omega (arith, length-range_with_len 0 n))))))

-- a test as a number is 1 where it holds, else 0
pub bit-one : (b : Bool) → from_bool b ≡ one b
unfolding one
bit-one true = refl
bit-one false = refl

-- ---- the loop: the first n places of the list have those of the first i numbers that pass

pub record Listed (p : ℕ → Bool) (out : List ℕ) (n i : ℕ) : Type 0 where
  pub long : length out ≡ widest
  pub few : n ≤ i
  pub is : take n out ≡ those p 0 i

pub listed-none : (p : ℕ → Bool) (out : List ℕ) → length out ≡ widest → Listed p out 0 0
listed-none p out e = record { long = e; few = omega arith; is = sym (those-none p 0) }

-- the next number is stored after them, and counted where it passes
pub listed_more : {p : ℕ → Bool} {out : List ℕ} {n i : ℕ} → Listed p out n i → i < widest → (t : ℕ) → t ≡ one (p i)
    → Listed p (set out n i) (n + t) (i + 1)
listed_more {p = p} {out = out} {n = n} {i = i} h l t e =
    record { long = rw length-set h.long; few = omega (arith, h.few, one-le (p i)); is = go (p i) refl }
  where
    longer : n < length out
    longer = omega (arith, h.few, h.long)

    last : those p 0 (i + 1) ≡ those p 0 i ++ pick (p i) (i ∷ []) []
    last = ap (those p 0) (add-one i) ∙ those-last p 0 i ∙ ap (λ (k : ℕ). those p 0 i ++ pick (p k) (k ∷ []) []) (zero-add i)

    go : (b : Bool) → p i ≡ b → take (n + t) (set out n i) ≡ those p 0 (i + 1)
    go true q =
        let s : n + t ≡ suc n = omega (arith, one-true q) in
        ap (λ (k : ℕ). take k (set out n i)) s
        ∙ take-stored out n i longer
        ∙ ap (λ (l : List ℕ). l ++ (i ∷ [])) h.is
        ∙ sym (last ∙ ap (λ (b : Bool). those p 0 i ++ pick b (i ∷ []) []) q)
    go false q =
        let s : n + t ≡ n = omega (arith, one-false q) in
        ap (λ (k : ℕ). take k (set out n i)) s
        ∙ take-set out n i
        ∙ h.is
        ∙ sym (last ∙ ap (λ (b : Bool). those p 0 i ++ pick b (i ∷ []) []) q ∙ append-nil (those p 0 i))

-- ---- a draw, by the list cs, whose first n are those of w numbers that pass

module _ (p : ℕ → Bool) (w : ℕ) (cs : List ℕ) (n : ℕ) (inside : n ≤ length cs) (listed : take n cs ≡ those p 0 w) (a d : ℕ) where
  number : n ≡ length (those p 0 w)
  number = sym (length-take-le n cs inside) ∙ ap length listed

  pub chosen_none : n ≡ 0 → Err NoCandidate ≡ picked a (those p 0 w) d
  chosen_none e = sym (picked_none a (those p 0 w) d (sym number ∙ e))

  module _ (some : n ≡ 0 → ⊥) where
    pub chosen-back : n * (65536 / n) ≤ d → Err DrawBack ≡ picked a (those p 0 w) d
    chosen-back l = sym (picked-back a (those p 0 w) d (omega (arith, number)) (rw number at l))

    -- the element read is one of them
    read : get_or cs (d % n) 0 ≡ get_or (those p 0 w) (d % n) 0
    read = sym (get_or-take n cs (d % n) 0 (mod-lt d {m = n} (omega arith))) ∙ ap (λ (t : List ℕ). get_or t (d % n) 0) listed

    pub chosen_at : d < n * (65536 / n) → Ok (at (a + get_or cs (d % n) 0) n) ≡ picked a (those p 0 w) d
    chosen_at l =
        ap (λ (x : ℕ). Ok (at (a + x) n)) read
        ∙ ap (λ (k : ℕ). Ok (at (a + get_or (those p 0 w) (d % k) 0) k)) number
        ∙ sym (picked-at a (those p 0 w) d (omega (arith, number)) (rw number at l))
