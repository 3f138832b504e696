-- The times that are the station's, counted one after the other: what is done to one changes no other time ahead.
-- Assumes nothing.
use mathlib.Core.Path.{◌≡◌, refl, sym, ap, ◌∙◌}
use mathlib.Core.Bool.{Bool, true}
use mathlib.Core.List.{List}
use Prim.Native.Nat.{ℕ, zero, suc, ◌+◌, ◌<◌}
use native.Mathlib.Omega.{arith}
use lib.Dec.{eqb}
use lib.ListN.{get_or}
use Rattle.laws.specs.Tests.{both}
use Rattle.laws.specs.Counting.{one}
use Rattle.laws.specs.Ranges.{how_many}
use Rattle.laws.proofs.Ranges.{many-none, many_more}
use Rattle.limits.specs.Limits.{slot_times}
use Rattle.book.specs.Book.{Book, place, holder}
use Rattle.announcing.specs.Next.{Next}
use Rattle.announcing.proofs.Effect.{apart}
use Rattle.announcing.proofs.Skipping.{many-skipped}

many-ext : (p q : ℕ → Bool) (n : ℕ) → ((i : ℕ) → i < n → p i ≡ q i) → how_many p n ≡ how_many q n
unfolding how_many
many-ext p q zero e = refl
many-ext p q (suc n) e = omega (arith, ap one (e n (omega arith)), many-ext p q n (λ i l. e i (omega arith)))

module _ (p : ℕ → Bool) (present h : ℕ) where
  -- the time e ahead passes, and h holds it
  abbrev pub held : List ℕ → ℕ → Bool
  held slots e = both (p e) (eqb (get_or slots (place present e) 0) h)

  pub held_all : (slots : List ℕ) (d n : ℕ) → d ≡ slot_times → n ≡ how_many (held slots) d → n ≡ how_many (held slots) slot_times
  held_all slots d n e is = is ∙ ap (how_many (held slots)) e

  pub held_start : (slots : List ℕ) (d : ℕ) → Next p 0 d → 0 ≡ how_many (held slots) d
  held_start slots d n = many-none (held slots) ∙ many-skipped p (λ e. eqb (get_or slots (place present e) 0) h) 0 d n

  -- something is done to the time d, which leaves every other as it is, and it is counted if h holds it then
  pub held_more : (f : Book → ℕ → Book) → ((b : Book) (at q : ℕ) → (q ≡ at → ⊥) → holder (f b at) q ≡ holder b q)
      → (b : Book) (slots : List ℕ) (d e n m : ℕ) → d < slot_times → p d ≡ true → slots ≡ (f b (place present d)).slots
      → n ≡ how_many (held b.slots) d → m ≡ n + one (eqb (get_or slots (place present d) 0) h) → Next p (d + 1) e → m ≡ how_many (held slots) e
  held_more f others b slots d e n m l passes is before more next =
      let same : (i : ℕ) → i < d → held b.slots i ≡ held slots i =
      λ i k. ap (λ (x : ℕ). both (p i) (eqb x h)) (sym (ap (λ (s : List ℕ). get_or s (place present i) 0) is ∙ others b (place present d) (place present i) (λ q. omega (arith, apart present i d (omega arith) l q)))) in
      let counted : n ≡ how_many (held slots) d = before ∙ many-ext (held b.slots) (held slots) d same in
      let last : one (eqb (get_or slots (place present d) 0) h) ≡ one (held slots d) = sym (simp passes) in
      m-is m n last more ∙ many_more (held slots) d n _ counted refl ∙ many-skipped p (λ i. eqb (get_or slots (place present i) 0) h) (d + 1) e next
    where
      m-is : (m n : ℕ) {x y : ℕ} → x ≡ y → m ≡ n + x → m ≡ n + y
      m-is m n s t = omega arith
