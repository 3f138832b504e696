-- The next time that passes a test, by the next of its parts; and turns that change nothing may be left out.
-- Assumes nothing.
use mathlib.Core.Path.{◌≡◌, refl, sym, ap, ◌∙◌, subst}
use Rattle.std.specs.Prelude.{Option, Some, None}
use mathlib.Core.Bool.{Bool, true, false}
use Prim.Native.Nat.{ℕ, zero, suc, ◌+◌, ◌-◌, ◌≤◌, ◌<◌, min}
use native.Mathlib.Nat.{add-zero, add-suc}
use native.Mathlib.Decide.{dec_le}
use native.Mathlib.Omega.{arith}
use Rattle.laws.specs.Tests.{both, either, pick}
use Rattle.laws.specs.Counting.{one}
use Rattle.laws.specs.Loops.{upto}
use Rattle.laws.specs.Ranges.{how_many}
use Rattle.laws.proofs.Tests.{either_true}
use Rattle.laws.proofs.Upto.{upto-none, upto-more}
use Rattle.limits.specs.Limits.{slot_times}
use Rattle.announcing.specs.Next.{Next, NextTime, sooner}

-- ---- the next time

-- where none passes
pub next-none : {p : ℕ → Bool} {d : ℕ} → d ≤ slot_times → ((e : ℕ) → p e ≡ false) → Next p d slot_times
next-none l n = record { ahead = l; inside = omega arith; skips = λ e h k. n e; passes = λ h. absurd (omega arith) }

-- where w passes what p or q passes, the sooner of both
module _ (p q w : ℕ → Bool) (is : (e : ℕ) → w e ≡ either (p e) (q e)) (d : ℕ) where
  neither : (e : ℕ) → p e ≡ false → q e ≡ false → w e ≡ false
  neither e f g = is e ∙ simp (f, g)

  first : (e : ℕ) → p e ≡ true → w e ≡ true
  first e f = is e ∙ simp f

  second : (e : ℕ) → q e ≡ true → w e ≡ true
  second e g = is e ∙ ap (either (p e)) g ∙ either_true (p e)

  next-sooner : {a b : ℕ} → Next p d a → Next q d b → (r : ℕ) → r ≡ min a b → Next w d r
  next-sooner {a} {b} m n r e =
      record {
        ahead = omega arith;
        inside = omega arith;
        skips = λ x h k. neither x (m.skips x h (omega arith)) (n.skips x h (omega arith));
        passes = λ l. go l (dec_le a b);
      }
    where
      go : r < slot_times → Dec (a ≤ b) → w r ≡ true
      go l (yes h) = let z : a ≡ r = omega arith in first r (ap p (sym z) ∙ m.passes (omega arith))
      go l (no h) = let z : b ≡ r = omega arith in second r (ap q (sym z) ∙ n.passes (omega arith))

  -- the same of answers
  pub sooner-time : (a b : Option ℕ) → NextTime p d a → NextTime q d b → NextTime w d (sooner a b)
  sooner-time None None m n = next-sooner m n slot_times refl
  sooner-time None (Some y) m n = (next-sooner m n.0 y (omega arith), n.1)
  sooner-time (Some x) None m n = (next-sooner m.0 n x (omega arith), m.1)
  sooner-time (Some x) (Some y) m n = (next-sooner m.0 n.0 (min x y) refl, omega arith)

-- the next time of a test is that of any test that passes the same
pub time-ext : {p q : ℕ → Bool} (d : ℕ) (r : Option ℕ) → ((e : ℕ) → p e ≡ q e) → NextTime p d r → NextTime q d r
time-ext {p} {q} d r h n = let same : p ≡ q = λ i e. h e i in subst (λ (w : ℕ → Bool). NextTime w d r) same n

-- ---- turns that change nothing

-- a turn where the test passes
abbrev pub turns : {A : Type 0} → (ℕ → Bool) → (A → ℕ → A) → A → ℕ → A
turns p f = λ c d. pick (p d) (f c d) c

module _ {A : Type 0} (p : ℕ → Bool) (f : A → ℕ → A) (a : A) where
  idle : (i n : ℕ) → ((e : ℕ) → i ≤ e → e < i + n → p e ≡ false) → upto (turns p f) a (i + n) ≡ upto (turns p f) a i
  unfolding upto
  idle i zero h = ap (upto (turns p f) a) (add-zero i)
  idle i (suc n) h =
      let last : p (i + n) ≡ false = h (i + n) (omega arith) (omega arith) in
      ap (upto (turns p f) a) (add-suc i n) ∙ rw last (idle i n (λ e k l. h e k (omega arith)))

  -- from one time that passes to the next
  skipped : (i j : ℕ) → Next p i j → upto (turns p f) a i ≡ upto (turns p f) a j
  skipped i j n =
      let z : i + (j - i) ≡ j = omega arith in
      sym (idle i (j - i) (λ e k l. n.skips e k (omega arith))) ∙ ap (upto (turns p f) a) z

-- where a loop stands that goes from one time that passes to the next: s is its state before the turn at d
pub record Gone {A : Type 0} (p : ℕ → Bool) (f : A → ℕ → A) (a s : A) (d : ℕ) : Type 0 where
  pub inside : d ≤ slot_times
  pub passes : d < slot_times → p d ≡ true
  pub is : s ≡ upto (turns p f) a d

module _ {A : Type 0} {p : ℕ → Bool} {f : A → ℕ → A} {a : A} where
  pub gone-start : {d : ℕ} → Next p 0 d → Gone p f a a d
  gone-start {d} n = record { inside = n.inside; passes = n.passes; is = upto-none (turns p f) a ∙ skipped p f a 0 d n }

  -- t is the state after the turn at d
  pub gone-more : {s t : A} {d e : ℕ} → Gone p f a s d → d < slot_times → t ≡ f s d → Next p (d + 1) e → Gone p f a t e
  gone-more {s} {t} {d} {e} g l m n =
      let turned = upto-more (turns p f) a d s t g.is (m ∙ sym (simp (g.passes l))) in
      record { inside = n.inside; passes = n.passes; is = turned ∙ skipped p f a (d + 1) e n }

  pub gone-all : {s : A} {d : ℕ} → Gone p f a s d → slot_times ≤ d → s ≡ upto (turns p f) a slot_times
  gone-all {s} {d} g l =
      let end : d ≡ slot_times = omega arith in
      g.is ∙ ap (upto (turns p f) a) end

-- ---- numbers that are not counted

many-idle : (q : ℕ → Bool) (i n : ℕ) → ((e : ℕ) → i ≤ e → e < i + n → q e ≡ false) → how_many q (i + n) ≡ how_many q i
unfolding how_many one
many-idle q i zero h = ap (how_many q) (add-zero i)
many-idle q i (suc n) h =
    let last : q (i + n) ≡ false = h (i + n) (omega arith) (omega arith) in
    ap (how_many q) (add-suc i n) ∙ rw last (omega (arith, many-idle q i n (λ e k l. h e k (omega arith))))

pub many-skipped : (p q : ℕ → Bool) (i j : ℕ) → Next p i j → how_many (λ e. both (p e) (q e)) i ≡ how_many (λ e. both (p e) (q e)) j
many-skipped p q i j n =
    let z : i + (j - i) ≡ j = omega arith in
    sym (many-idle (λ e. both (p e) (q e)) i (j - i) (λ e k l. ap (λ (t : Bool). both t (q e)) (n.skips e k (omega arith))))
    ∙ ap (how_many (λ e. both (p e) (q e))) z
