-- A slot by the book alone: the holders of its times, and whether it is free; nobody's level, and the worth of a slot by its tests.
-- Assumes nothing.
use mathlib.Core.Path.{◌≡◌, refl, sym, ap, ◌∙◌}
use mathlib.Core.Bool.{Bool, true, false}
use mathlib.Core.List.{List}
use Prim.Native.Nat.{ℕ, zero, suc, ◌+◌, ◌-◌, ◌*◌, ◌%◌, ◌≤◌, ◌<◌}
use native.Mathlib.Decide.{ℕ_discrete}
use native.Mathlib.Numerals.{add-one}
use native.Mathlib.Omega.{arith}
use lib.ListN.{get_or}
use borrow.Author.Tests.{eq-eqb, ne_eqb}
use Rattle.laws.specs.Tests.{both}
use Rattle.laws.specs.Counting.{one}
use Rattle.laws.specs.Ranges.{every, how_many}
use Rattle.laws.proofs.Tests.{both-no}
use Rattle.limits.specs.Limits.{frame_slots, slot_times}
use Rattle.ship.specs.declared.Station.{Station}
use Rattle.book.specs.Book.{place}
use Rattle.distance.specs.Distance.{held_off_level, top}
use Rattle.candidates.specs.declared.slot.Slot.{Slot}
use Rattle.candidates.specs.Slot.{holder_at, frame, is_none, earlier}
use Rattle.candidates.specs.Scanning.{worth_by, free_at, level_by}

-- ---- the place a frame on

pub a-frame-on : (present at i p : ℕ) → p ≡ place present (at + frame_slots * i) → (p + frame_slots) % slot_times ≡ place present (at + frame_slots * (i + 1))
a-frame-on present at i p e = omega arith

-- the holder there
pub held-there : (slots : List ℕ) (present at i p : ℕ) → p ≡ place present (at + frame_slots * i) → get_or slots p 0 ≡ frame slots present at i
unfolding holder_at
held-there slots present at i p e = ap (λ (q : ℕ). get_or slots q 0) e

-- ---- every number below n passes, or one does not

pub every-none : (p : ℕ → Bool) → every p 0 ≡ true
unfolding every
every-none p = refl

every-suc : (p : ℕ → Bool) (j : ℕ) → every p (suc j) ≡ both (every p j) (p j)
unfolding every
every-suc p j = refl

pub every_more : (p : ℕ → Bool) (j : ℕ) → every p j ≡ true → p j ≡ true → every p (j + 1) ≡ true
every_more p j e q = ap (every p) (add-one j) ∙ every-suc p j ∙ ap (λ (t : Bool). both t (p j)) e ∙ q

pub every-not : (p : ℕ → Bool) (n j : ℕ) → j < n → p j ≡ false → every p n ≡ false
every-not p zero j l q = absurd (omega arith)
every-not p (suc n) j l q = every-suc p n ∙ go (ℕ_discrete j n) (λ m. every-not p n j m q)
  where
    go : Dec (j ≡ n) → (j < n → every p n ≡ false) → both (every p n) (p n) ≡ false
    go (yes e) h = ap (λ (k : ℕ). both (every p n) (p k)) (sym e) ∙ ap (both (every p n)) q ∙ both-no (every p n)
    go (no e) h = ap (λ (t : Bool). both t (p n)) (h (omega arith))

-- ---- a free slot

pub none-held : (h : ℕ) → h ≡ 0 → is_none h ≡ true
unfolding is_none
none-held h e = eq-eqb h 0 e

pub some-held : (h : ℕ) → (h ≡ 0 → ⊥) → is_none h ≡ false
unfolding is_none
some-held h e = ne_eqb h 0 e

module _ (slots : List ℕ) (present at m : ℕ) where
  pub free-earlier : earlier slots present at ≡ true → false ≡ free_at slots present at m
  unfolding free_at
  free-earlier e = simp e

  module _ (e : earlier slots present at ≡ false) where
    free-is : free_at slots present at m ≡ every (λ i. is_none (frame slots present at i)) (m + 1)
    unfolding free_at
    free-is = simp e

    -- the time i is held
    pub free-held : (i p : ℕ) → p ≡ place present (at + frame_slots * i) → i ≤ m → (get_or slots p 0 ≡ 0 → ⊥) → false ≡ free_at slots present at m
    free-held i p q l n =
        sym (free-is ∙ every-not (λ i. is_none (frame slots present at i)) (m + 1) i (omega arith)
        (some-held (frame slots present at i) (λ z. n (held-there slots present at i p q ∙ z))))

    -- none is
    pub free_all : (i : ℕ) → m < i → i ≤ m + 1 → every (λ i. is_none (frame slots present at i)) i ≡ true → true ≡ free_at slots present at m
    free_all i a b q = let s : i ≡ m + 1 = omega arith in sym (free-is ∙ ap (every (λ i. is_none (frame slots present at i))) (sym s) ∙ q)

-- one turn more
pub free-turn : (slots : List ℕ) (present at i p : ℕ) → p ≡ place present (at + frame_slots * i) → every (λ i. is_none (frame slots present at i)) i ≡ true
    → get_or slots p 0 ≡ 0 → every (λ i. is_none (frame slots present at i)) (i + 1) ≡ true
free-turn slots present at i p q e z =
    every_more (λ i. is_none (frame slots present at i)) i e (none-held (frame slots present at i) (sym (held-there slots present at i p q) ∙ z))

-- ---- counting to four

module _ (p : ℕ → Bool) where
  many-suc : (n : ℕ) → how_many p (suc n) ≡ how_many p n + one (p n)
  unfolding how_many
  many-suc n = refl

  many-grows : (i d : ℕ) → how_many p i ≤ how_many p (i + d)
  many-grows i zero = let e : i + 0 ≡ i = omega arith in omega (arith, ap (how_many p) e)
  many-grows i (suc d) = let e : i + suc d ≡ suc (i + d) = omega arith in omega (arith, ap (how_many p) e, many-suc (i + d), many-grows i d)

  pub many-upto : (i n : ℕ) → i ≤ n → how_many p i ≤ how_many p n
  many-upto i n l = let e : i + (n - i) ≡ n = omega arith in omega (arith, ap (how_many p) (sym e), many-grows i (n - i))

-- ---- the level of a holder

pub level-none : (h : ℕ) (s : Station) (x : Slot) → h ≡ 0 → top ≡ level_by s h x
unfolding level_by is_none
level-none h s x e = simp (eq-eqb h 0 e)

-- ---- a worth

module _ (t : Bool) (low : ℕ) where
  pub worth-earlier : t ≡ true → 0 ≡ worth_by t low
  unfolding worth_by
  worth-earlier e = simp e

  module _ (f : t ≡ false) where
    pub worth-free : low ≡ top → top ≡ worth_by t low
    unfolding worth_by
    worth-free e = simp (f, eq-eqb low top e)

    pub worth-held : (low ≡ top → ⊥) → low - held_off_level ≡ worth_by t low
    unfolding worth_by
    worth-held e = simp (f, ne_eqb low top e)
