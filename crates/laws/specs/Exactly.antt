-- "Given exactly when", said once for every call: its tests stand in the document's order, each with the answer that is given where it is the
-- first that does not hold. What a request changes is then one entry of such a list.
-- Assumes nothing.
use Rattle.std.specs.Prelude.{ℕ, zero, suc, ◌<◌, ◌≡◌, Bool, true, false, ◌↔◌, List, [], ◌∷◌, map, get_or}

-- every test holds
abbrev pub AllHold : {X : Type 0} → List (Bool × X) → Type 0
AllHold [] = Unit {0}
AllHold (t ∷ []) = t.0 ≡ true
AllHold (t ∷ u ∷ ts) = (t.0 ≡ true) × AllHold (u ∷ ts)

-- test i does not hold, and those before it do
abbrev pub StopsAt : {X : Type 0} → ℕ → List (Bool × X) → Type 0
StopsAt i [] = ⊥
StopsAt zero (t ∷ ts) = t.0 ≡ false
StopsAt (suc i) (t ∷ ts) = (t.0 ≡ true) × StopsAt i ts

-- a test that has the number n is the first that does not hold
pub record Stops {X : Type 0} (numbers : List ℕ) (ts : List (Bool × X)) (n : ℕ) : Type 0 where
  pub test : ℕ
  pub number : get_or numbers test 0 ≡ n
  pub stops : StopsAt test ts

-- the tests have these numbers, in this order; of a call that gives the number r: a number is given exactly when a test that has it stops, and 0, for none,
-- exactly when all hold
pub record Exactly {X : Type 0} (numbers : List ℕ) (numbered : X → ℕ) (ts : List (Bool × X)) (r : ℕ) : Type 0 where
  pub order : map (λ (t : Bool × X). numbered t.1) ts ≡ numbers
  pub given : (n : ℕ) → 0 < n → (r ≡ n) ↔ Stops numbers ts n
  pub none : (r ≡ 0) ↔ AllHold ts

-- what every public call owes that gives the number r: each number exactly when, and where it gives one, nothing has changed: `Same` says so of all that is lent
pub record Refuses {X : Type 0} (numbers : List ℕ) (numbered : X → ℕ) (ts : List (Bool × X)) (r : ℕ) (Same : Type 0) : Type 0 where
  pub exactly : Exactly numbers numbered ts r
  pub kept : 0 < r → Same
