-- The next time of a row and of a list of rows, as the code finds it.
-- Assumes nothing.
use mathlib.Core.Path.{◌≡◌, refl, sym, ap, ◌∙◌}
use mathlib.Core.Bool.{Bool, true, false, not}
use mathlib.Core.List.{List, [], ◌∷◌, ◌++◌}
use Rattle.std.specs.Prelude.{Option, Some, None}
use Prim.Native.Nat.{ℕ, ◌+◌, ◌-◌, ◌*◌, ◌≤◌, ◌<◌}
use native.Mathlib.Nat.{mul-le-mul_left}
use native.Mathlib.Decide.{ℕ_discrete, dec_le}
use native.Mathlib.Numerals.{add-one}
use native.Mathlib.Omega.{arith}
use borrow.Author.Tests.{le-leb, lt-leb, lt-ltb, le-ltb}
use lib.Dec.{leb}
use lib.ListN.{length, get_or, take}
use lib.Seq.{take-suc, take_all}
use Rattle.laws.specs.Tests.{both, either}
use Rattle.laws.specs.Ranges.{some}
use Rattle.laws.proofs.Tests.{both-no, not-true, never, either-false}
use Rattle.laws.proofs.Ranges.{some-hit, some-passes}
use Rattle.limits.specs.Limits.{frame_slots, slot_times}
use Rattle.announcing.specs.declared.rows.Row.{Row}
use Rattle.announcing.specs.declared.rows.Kind.{Kind}
use Rattle.announcing.specs.declared.rows.Kind.TheVariants.{Mark, Free}
use Rattle.announcing.specs.contracts.rows.Kind.{the_type}
use denote.Enum.Bare.{sameb}
use Rattle.announcing.specs.Rows.{marks_by, in_run, has_time, is_empty}
use Rattle.announcing.specs.Next.{NextTime, sooner, Last, runs_time, of_kind, kind_time}
use Rattle.announcing.proofs.Ends.{none-of}
use Rattle.announcing.proofs.Skipping.{next-none, sooner-time, time-ext}

-- ---- the runs of a row in one frame

-- where the last run ends in the book, each run before it begins there
pub begins-inside : (r : Row) (a i : ℕ) → i + 1 < r.times → 0 < r.slots → a + r.step * (r.times - 1) + r.slots ≤ slot_times → a + r.step * (i + 1) < slot_times
begins-inside r a i l p h =
    let before : i + 1 ≤ r.times - 1 = omega arith in
    omega (arith, mul-le-mul_left r.step before)

-- and ends there
pub run-inside : (r : Row) (a i : ℕ) → i < r.times → a + r.step * (r.times - 1) + r.slots ≤ slot_times → a + r.step * i + r.slots ≤ slot_times
run-inside r a i l h =
    let before : i ≤ r.times - 1 = omega arith in
    omega (arith, mul-le-mul_left r.step before)

module _ (x n e : ℕ) where
  run_in : x ≤ e → e < x + n → in_run x n e ≡ true
  unfolding in_run
  run_in h k = rw (le-leb x e h, lt-ltb e (x + n) k)

  run-early : e < x → in_run x n e ≡ false
  unfolding in_run
  run-early h = rw (lt-leb x e h)

  run-late : x + n ≤ e → in_run x n e ≡ false
  unfolding in_run
  run-late h = rw (le-ltb e (x + n) h, both-no (leb x e))

none_pass : (p : ℕ → Bool) (n : ℕ) → ((i : ℕ) → i < n → p i ≡ false) → some p n ≡ false
none_pass p n h =
    not-true (some p n) (λ t. let s = some-passes p n t in never (sym (h s.0 s.1.0) ∙ s.1.1))

module _ (r : Row) (a d : ℕ) (slots : 0 < r.slots) where
  run-has : (e i : ℕ) → i < r.times → a + r.step * i ≤ e → e < a + r.step * i + r.slots → runs_time r a e ≡ true
  unfolding runs_time
  run-has e i l h k = sym (some-hit (λ j. in_run (a + r.step * j) r.slots e) i r.times l (run_in (a + r.step * i) r.slots e h k))

  run-not : (e : ℕ) → ((j : ℕ) → j < r.times → in_run (a + r.step * j) r.slots e ≡ false) → runs_time r a e ≡ false
  unfolding runs_time
  run-not e h = none_pass (λ j. in_run (a + r.step * j) r.slots e) r.times h

  -- before the first run
  pub next-first : 0 < r.times → d ≤ a → a < slot_times → NextTime (runs_time r a) d (Some a)
  next-first times h l =
      let none : r.step * 0 ≡ 0 = omega arith in (
        record {
          ahead = h;
          inside = omega arith;
          skips = λ e k m. run-not e (λ j b. run-early (a + r.step * j) r.slots e (omega arith));
          passes = λ m. run-has a 0 times (omega arith) (omega arith);
        },
        l,
      )

  module _ (i : ℕ) (begun : Last (d - a) r.step r.times i) (h : a < d) where
    -- inside a run
    pub next_here : d - a - r.step * i < r.slots → d < slot_times → NextTime (runs_time r a) d (Some d)
    next_here l m = (
      record {
        ahead = omega arith;
        inside = omega arith;
        skips = λ e k b. absurd (omega arith);
        passes = λ b. run-has d i begun.among (omega (arith, begun.begun)) (omega (arith, begun.begun));
      },
      m,
    )

    -- the runs that have begun are over
    over : r.slots ≤ d - a - r.step * i → (e j : ℕ) → d ≤ e → j ≤ i → in_run (a + r.step * j) r.slots e ≡ false
    over l e j k b = run-late (a + r.step * j) r.slots e (omega (arith, mul-le-mul_left r.step b, begun.begun))

    -- between two runs
    pub next-begins : r.slots ≤ d - a - r.step * i → i + 1 < r.times → a + r.step * (i + 1) < slot_times
        → NextTime (runs_time r a) d (Some (a + r.step * (i + 1)))
    next-begins l m b = (
      record {
        ahead = omega (arith, begun.last m);
        inside = omega arith;
        skips = λ e k n. run-not e (λ j s. go e k n j (dec_le j i));
        passes = λ n. run-has (a + r.step * (i + 1)) (i + 1) m (omega arith) (omega arith);
      },
      b,
    )
      where
        go : (e : ℕ) → d ≤ e → e < a + r.step * (i + 1) → (j : ℕ) → Dec (j ≤ i) → in_run (a + r.step * j) r.slots e ≡ false
        go e k n j (yes s) = over l e j k s
        go e k n j (no s) =
            let later : i + 1 ≤ j = omega arith in
            run-early (a + r.step * j) r.slots e (omega (arith, mul-le-mul_left r.step later))

    -- behind the last run
    pub next-over : r.slots ≤ d - a - r.step * i → r.times ≤ i + 1 → d ≤ slot_times → NextTime (runs_time r a) d None
    next-over l m b =
        record {
          ahead = b;
          inside = omega arith;
          skips = λ e k n. run-not e (λ j s. over l e j k (omega arith));
          passes = λ n. absurd (omega arith);
        }

-- ---- a row

-- its times in the first f frames
unfoldable pub frames_time : Row → ℕ → ℕ → Bool
frames_time r f d = some (λ g. some (λ i. in_run (r.from + r.step * i + frame_slots * g) r.slots d) r.times) f

module _ (r : Row) (d : ℕ) where
  pub frames-none : d ≤ slot_times → NextTime (frames_time r 0) d None
  unfolding frames_time some
  frames-none l = next-none l (λ e. refl)

  one-frame : (f e : ℕ) → runs_time r (r.from + frame_slots * f) e ≡ some (λ i. in_run (r.from + r.step * i + frame_slots * f) r.slots e) r.times
  unfolding runs_time
  one-frame f e =
      let same : (i : ℕ) → r.from + frame_slots * f + r.step * i ≡ r.from + r.step * i + frame_slots * f = λ i. omega arith in
      ap (λ (x : ℕ → ℕ). some (λ i. in_run (x i) r.slots e) r.times) (λ k i. same i k)

  pub frames-more : (f : ℕ) (t u : Option ℕ) → NextTime (frames_time r f) d t → NextTime (runs_time r (r.from + frame_slots * f)) d u
      → NextTime (frames_time r (f + 1)) d (sooner t u)
  unfolding frames_time some
  frames-more f t u m n = sooner-time _ _ _ more d t u m n
    where
      more : (x : ℕ) → frames_time r (f + 1) x ≡ either (frames_time r f x) (runs_time r (r.from + frame_slots * f) x)
      more x = ap (λ (k : ℕ). frames_time r k x) (add-one f) ∙ ap (either (frames_time r f x)) (sym (one-frame f x))

  pub frames-all : (f : ℕ) (t : Option ℕ) → f ≡ r.frames → NextTime (frames_time r f) d t → NextTime (has_time r) d t
  unfolding frames_time has_time
  frames-all f t e n = rw e at n

  -- one without a time
  pub row-none : is_empty r ≡ true → d ≤ slot_times → NextTime (has_time r) d None
  unfolding has_time
  row-none e l = next-none l nothing
    where
      no-slots : r.slots ≡ 0 → (x y : ℕ) → in_run x r.slots y ≡ false
      no-slots z x y = go (dec_le x y)
        where
          go : Dec (x ≤ y) → in_run x r.slots y ≡ false
          go (yes h) = run-late x r.slots y (omega arith)
          go (no h) = run-early x r.slots y (omega arith)

      -- a row that has frames and runs has no slots
      no_run : (f i x y : ℕ) → f < r.frames → i < r.times → in_run x r.slots y ≡ false
      no_run f i x y k m = go (ℕ_discrete r.slots 0)
        where
          go : Dec (r.slots ≡ 0) → in_run x r.slots y ≡ false
          go (yes z) = no-slots z x y
          go (no n) = absurd (none-of r e (omega arith) (omega arith) (omega arith))

      nothing : (y : ℕ) → has_time r y ≡ false
      nothing y =
          let runs : ℕ → ℕ → Bool = λ f i. in_run (r.from + r.step * i + frame_slots * f) r.slots y in
          none_pass (λ f. some (runs f) r.times) r.frames (λ f k. none_pass (runs f) r.times (λ i m. no_run f i _ y k m))

-- ---- all rows

-- the code's test of two kinds
pub kind-true : (x y : Kind) → sameb the_type x y ≡ true → x ≡ y
kind-true Mark Mark e = refl
kind-true Mark Free e = never e
kind-true Free Mark e = never e
kind-true Free Free e = refl

pub kind-false : (x y : Kind) → sameb the_type x y ≡ false → x ≡ y → ⊥
kind-false Mark Mark e h = never (sym e)
kind-false Mark Free e h = cc
kind-false Free Mark e h = cc
kind-false Free Free e h = never (sym e)

-- a row of the kind has its times, and one of the other kind has none
module _ (k : Kind) (r : Row) (e : ℕ) where
  pub kind-same : r.kind ≡ k → of_kind k r e ≡ has_time r e
  unfolding of_kind
  kind-same h = go k (sym h)
    where
      go : (q : Kind) → q ≡ r.kind → of_kind q r e ≡ has_time r e
      go Mark h = ap (λ (x : Kind). both (marks_by x) (has_time r e)) (sym h)
      go Free h = ap (λ (x : Kind). both (not (marks_by x)) (has_time r e)) (sym h)

  pub kind-other : (r.kind ≡ k → ⊥) → of_kind k r e ≡ false
  unfolding of_kind
  kind-other n = go k r.kind n
    where
      go : (q x : Kind) → (x ≡ q → ⊥) → of_kind q (record { from = r.from; slots = r.slots; step = r.step; times = r.times; frames = r.frames; kind = x }) e ≡ false
      go Mark Mark h = absurd (h refl)
      go Mark Free h = refl
      go Free Mark h = refl
      go Free Free h = absurd (h refl)

module _ (kind : Kind) (rows : List Row) (u : Row) (d : ℕ) where
  kind-front : (x : Row) (xs : List Row) (e : ℕ) → kind_time kind (x ∷ xs) e ≡ either (of_kind kind x e) (kind_time kind xs e)
  unfolding of_kind
  kind-front x xs e = go kind
    where
      go : (m : Kind) → kind_time m (x ∷ xs) e ≡ either (of_kind m x e) (kind_time m xs e)
      go Mark = refl
      go Free = refl

  kind-nothing : (e : ℕ) → kind_time kind [] e ≡ false
  kind-nothing e = go kind
    where
      go : (m : Kind) → kind_time m [] e ≡ false
      go Mark = refl
      go Free = refl

  kind-end : (xs : List Row) (y : Row) (e : ℕ) → kind_time kind (xs ++ y ∷ []) e ≡ either (kind_time kind xs e) (of_kind kind y e)
  kind-end [] y e = kind-front y [] e ∙ ap (either (of_kind kind y e)) (kind-nothing e) ∙ either-false (of_kind kind y e) ∙ sym (ap (λ (t : Bool). either t (of_kind kind y e)) (kind-nothing e))
  kind-end (x ∷ xs) y e =
      kind-front x (xs ++ y ∷ []) e ∙ ap (either (of_kind kind x e)) (kind-end xs y e)
      ∙ regroup (of_kind kind x e) (kind_time kind xs e) (of_kind kind y e)
      ∙ sym (ap (λ (t : Bool). either t (of_kind kind y e)) (kind-front x xs e))
    where
      regroup : (a b c : Bool) → either a (either b c) ≡ either (either a b) c
      regroup true b c = refl
      regroup false b c = refl

  pub rows_none : d ≤ slot_times → NextTime (kind_time kind (take 0 rows)) d None
  rows_none l = next-none l kind-nothing

  module _ (i : ℕ) (l : i < length rows) where
    more : (x : ℕ) → kind_time kind (take (i + 1) rows) x ≡ either (kind_time kind (take i rows) x) (of_kind kind (get_or rows i u) x)
    more x = ap (λ (t : List Row). kind_time kind t x) (ap (λ (k : ℕ). take k rows) (add-one i) ∙ take-suc rows i u l) ∙ kind-end (take i rows) (get_or rows i u) x

    pub rows_more : (get_or rows i u).kind ≡ kind → (a b : Option ℕ) → NextTime (kind_time kind (take i rows)) d a → NextTime (has_time (get_or rows i u)) d b
        → NextTime (kind_time kind (take (i + 1) rows)) d (sooner a b)
    rows_more h a b m n =
        sooner-time _ _ _ (λ x. more x ∙ ap (either (kind_time kind (take i rows) x)) (kind-same kind (get_or rows i u) x h)) d a b m n

    pub rows_over : ((get_or rows i u).kind ≡ kind → ⊥) → (a : Option ℕ) → NextTime (kind_time kind (take i rows)) d a
        → NextTime (kind_time kind (take (i + 1) rows)) d a
    rows_over h a =
        time-ext d a (λ x. sym (more x ∙ ap (either (kind_time kind (take i rows) x)) (kind-other kind (get_or rows i u) x h) ∙ either-false (kind_time kind (take i rows) x)))

  pub rows_all : (i : ℕ) (t : Option ℕ) → length rows ≤ i → NextTime (kind_time kind (take i rows)) d t → NextTime (kind_time kind rows) d t
  rows_all i t l n = rw (take_all i rows l) at n
