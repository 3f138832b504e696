-- The record of a station as the code finds it: the first of its own, else the first that is idle, and so the one of the definition.
-- Assumes nothing.
use mathlib.Core.Path.{◌≡◌, refl, sym, ap, ◌∙◌}
use mathlib.Core.Bool.{Bool, true, false, not, cond}
use mathlib.Core.List.{List, [], ◌∷◌}
use Prim.Native.Nat.{ℕ, suc, ◌+◌, ◌≤◌}
use native.Mathlib.Omega.{arith}
use lib.Dec.{eqb, ltb}
use lib.ListN.{length, length-map}
use borrow.Author.Tests.{ltb-false}
use Rattle.std.specs.List.{position, position_or_len}
use Rattle.std.specs.Option.{option_or, unwrap_or}
use Rattle.std.specs.Prelude.{Some, None}
use Rattle.laws.specs.Tests.{pick}
use Rattle.limits.specs.Limits.{records}
use Rattle.ship.specs.declared.Station.{Station}
use Rattle.register.specs.State.{sources_in, tallies_in}
use Rattle.hearing.specs.Station.{index_of, record_of}
use Rattle.hearing.specs.Hear.{record_for}

one-step : (b : Bool) {m n : ℕ} → m ≡ n → cond (not b) (1 + m) 0 ≡ pick b 0 (suc n)
one-step true e = refl
one-step false e = omega arith

finds-its : (x : ℕ) (reg : List Station) → position_or_len (λ (s : Station). eqb s.source x) reg ≡ index_of x (sources_in reg)
finds-its x [] = refl
finds-its x (r ∷ reg) = one-step (eqb r.source x) (finds-its x reg)

finds-idle : (reg : List Station) → position_or_len (λ (s : Station). eqb s.tally 0) reg ≡ index_of 0 (tallies_in reg)
finds-idle [] = refl
finds-idle (r ∷ reg) = one-step (eqb r.tally 0) (finds-idle reg)

-- no place is past the end
index-most : (x : ℕ) (l : List ℕ) → index_of x l ≤ length l
index-most x [] = omega arith
index-most x (y ∷ l) = go (eqb y x) (index-most x l)
  where
    go : (b : Bool) → index_of x l ≤ length l → pick b 0 (suc (index_of x l)) ≤ length (y ∷ l)
    go true h = omega arith
    go false h = omega arith

-- the first of two that there is, of n places
either-place : (i j n : ℕ) → j ≤ n → unwrap_or (option_or (cond (ltb i n) (Some i) None) (cond (ltb j n) (Some j) None)) n ≡ pick (ltb i n) i j
either-place i j n h = go (ltb i n) (ltb j n) refl
  where
    go : (t u : Bool) → ltb j n ≡ u → unwrap_or (option_or (cond t (Some i) None) (cond u (Some j) None)) n ≡ pick t i j
    go true u e = refl
    go false true e = refl
    go false false e = let over : n ≤ j = ltb-false j n e in omega arith

pub record_found : (reg : List Station) (x : ℕ) → length reg ≡ records
    → unwrap_or (option_or (position (λ (s : Station). eqb s.source x) reg) (position (λ (s : Station). eqb s.tally 0) reg)) records ≡ record_for reg x
unfolding record_of
record_found reg x many =
    let its = finds-its x reg in
    let idle = finds-idle reg in
    let all : length (sources_in reg) ≡ length reg = length-map reg (λ (r : Station). r.source) in
    let few : length (tallies_in reg) ≡ length reg = length-map reg (λ (r : Station). r.tally) in
    ap (unwrap_or (option_or (position (λ (s : Station). eqb s.source x) reg) (position (λ (s : Station). eqb s.tally 0) reg))) (sym many)
    ∙ either-place (position_or_len (λ (s : Station). eqb s.source x) reg) (position_or_len (λ (s : Station). eqb s.tally 0) reg) (length reg)
    (omega (arith, idle, few, index-most 0 (tallies_in reg)))
    ∙ (λ k. pick (ltb (its k) (sym all k)) (its k) (idle k))
