-- What each operation on the book does to the holder of one slot time: within 20,250 of the present time, a time is told by its place.
-- Assumes nothing.
use Prim.Native.Nat.{ℕ, zero, suc, ◌+◌, ◌*◌, ◌%◌, ◌≤◌, ◌<◌}
use mathlib.Core.Path.{◌≡◌, refl, sym, ap, ◌∙◌}
use mathlib.Core.Bool.{Bool, true, false}
use native.Mathlib.Decide.{ℕ_discrete, dec_lt}
use native.Mathlib.Omega.{arith}
use borrow.Author.Tests.{eq-eqb, ne_eqb, lt-ltb, le-ltb}
use lib.Dec.{eqb, ltb}
use lib.ListN.{length}
use Rattle.laws.specs.Tests.{pick, either}
use Rattle.laws.specs.Loops.{upto}
use Rattle.laws.specs.Ranges.{some}
use Rattle.laws.proofs.Upto.{upto-keeps}
use Rattle.laws.proofs.Ranges.{some-none, some-miss}
use Rattle.limits.specs.Limits.{frame_slots, slot_times}
use Rattle.book.specs.Book.{Book, ours, holders, place, holder, put_at, free_at, released}
use Rattle.book.specs.Pass.{Moment, passed, passes}
use Rattle.book.specs.Sound.{Sound}
use Rattle.book.proofs.Soundness.{sound-put, sound-pass}
use Rattle.announcing.proofs.Effect.{freed_of, put-here, put_other, frees, turns-holder}
use Rattle.promises.proofs.Moves.{owned_in}

-- ---- slot times and places

-- a time d ahead of u has the place d ahead of u's
pub at_place : (t u d present : ℕ) → present ≡ u % slot_times → t ≡ u + d → t % slot_times ≡ place present d
at_place t u d present e q = omega arith

-- two times from u on, both in the book, have two places
one_time : (u a b : ℕ) → u ≤ a → a < u + slot_times → u ≤ b → b < u + slot_times → a % slot_times ≡ b % slot_times → a ≡ b
one_time u a b la ha lb hb e = omega arith

other_place : (t u d present : ℕ) → present ≡ u % slot_times → d < slot_times → u ≤ t → t < u + slot_times → (t ≡ u + d → ⊥)
    → t % slot_times ≡ place present d → ⊥
other_place t u d present e l from to n q =
    n (one_time u t (u + d) from to (omega arith) (omega arith) (q ∙ sym (at_place (u + d) u d present e refl)))

-- a time has a place, and the place a holder
module _ (b : Book) (s : Sound b) (t : ℕ) where
  pub at-a-place : t % slot_times < length b.slots
  at-a-place = omega (arith, s.size)

  pub held-by-one : holder b (t % slot_times) < holders
  held-by-one = s.held (t % slot_times) at-a-place

-- h gets the time d ahead, and t keeps its holder unless it is that
module _ (b : Book) (u t present : ℕ) (here : present ≡ u % slot_times) (size : length b.slots ≡ slot_times) (from : u ≤ t) (to : t < u + slot_times)
    (h d : ℕ) (near : d < slot_times) where
  put-after : holder (put_at b (place present d) h) (t % slot_times) ≡ pick (eqb t (u + d)) h (holder b (t % slot_times))
  put-after = go (ℕ_discrete t (u + d))
    where
      go : Dec (t ≡ u + d) → holder (put_at b (place present d) h) (t % slot_times) ≡ pick (eqb t (u + d)) h (holder b (t % slot_times))
      go (yes e) = rw (eq-eqb _ _ e) (put-here b (place present d) h (t % slot_times) (at_place t u d present here e) (omega arith))
      go (no n) = rw (ne_eqb _ _ n) (put_other b (place present d) h (t % slot_times) (other_place t u d present here near from to n))

-- ---- slots that pass

module _ (m : Moment) (u : ℕ) (here : m.present ≡ u % slot_times) where
  one-present : (passed m).present ≡ suc u % slot_times
  unfolding passed
  one-present = omega arith

  -- a time that stays in the book
  one-other : (t : ℕ) → u < t → t < u + slot_times → holder (passed m).book (t % slot_times) ≡ holder m.book (t % slot_times)
  unfolding passed
  one-other t from to =
      put_other m.book (m.present % slot_times) 0 (t % slot_times)
      (λ e. omega (arith, one_time u t u (omega arith) to (omega arith) (omega arith) (e ∙ omega arith)))

  -- the one that comes into it
  one-here : (t : ℕ) → t ≡ u + slot_times → length m.book.slots ≡ slot_times → holder (passed m).book (t % slot_times) ≡ 0
  unfolding passed
  one-here t e size = put-here m.book (m.present % slot_times) 0 (t % slot_times) (omega arith) (omega arith)

module _ (m : Moment) (u : ℕ) (here : m.present ≡ u % slot_times) where
  pub passes-present : (n : ℕ) → (passes m n).present ≡ (n + u) % slot_times
  unfolding upto
  passes-present zero = omega arith
  passes-present (suc n) = omega (arith, one-present (passes m n) (n + u) (passes-present n))

  -- what was in the book is as it was, and what came into it is free
  pub passes-after : Sound m.book → (n t : ℕ) → n + u ≤ t → t < n + u + slot_times
      → holder (passes m n).book (t % slot_times) ≡ pick (ltb t (u + slot_times)) (holder m.book (t % slot_times)) 0
  unfolding upto
  passes-after s zero t from to = rw (lt-ltb t (u + slot_times) (omega arith))
  passes-after s (suc n) t from to = go (dec_lt t (n + u + slot_times)) (passes-after s n t (omega arith))
    where
      go : Dec (t < n + u + slot_times)
          → (t < n + u + slot_times → holder (passes m n).book (t % slot_times) ≡ pick (ltb t (u + slot_times)) (holder m.book (t % slot_times)) 0)
          → holder (passed (passes m n)).book (t % slot_times) ≡ pick (ltb t (u + slot_times)) (holder m.book (t % slot_times)) 0
      go (yes l) before = one-other (passes m n) (n + u) (passes-present n) t (omega arith) l ∙ before l
      go (no g) before =
          one-here (passes m n) (n + u) (passes-present n) t (omega arith) (sound-pass m n s).size
          ∙ rw (le-ltb t (u + slot_times) (omega arith))

-- ---- a release of all marks

pub released-after : (h : ℕ) (b : Book) (p : ℕ) → p < slot_times → Sound b → holder (released h b slot_times) p ≡ freed_of h (holder b p)
released-after h b p l s =
    turns-holder (λ k. k) (λ k. true) (λ c at. free_at c at h) (freed_of h) (frees h) slot_times (λ d k i j e. e) b p l (omega (arith, s.size))

-- ---- own marks, a frame apart

pick-either : (c e : Bool) (x y : ℕ) → pick e x (pick c x y) ≡ pick (either c e) x y
pick-either true true x y = refl
pick-either true false x y = refl
pick-either false true x y = refl
pick-either false false x y = refl

-- they keep the tallies right
pub sound-frames : (present d : ℕ) (b : Book) (n : ℕ) → Sound b → Sound (owned_in present d b n)
sound-frames present d b n s =
    upto-keeps _ b Sound n (λ x i l. sound-put x (place present (d + frame_slots * i)) ours (omega arith) (omega arith)) s

module _ (b : Book) (u t present d : ℕ) (here : present ≡ u % slot_times) (s : Sound b) (from : u ≤ t) (to : t < u + slot_times) where
  -- n of them, the last one in the book
  pub own-after : (n : ℕ) → d + frame_slots * n < slot_times + frame_slots
      → holder (owned_in present d b n) (t % slot_times)
      ≡ pick (some (λ i. eqb t (u + (d + frame_slots * i))) n) ours (holder b (t % slot_times))
  unfolding upto some
  own-after zero l = refl
  own-after (suc n) l =
      let x = holder b (t % slot_times) in
      let now = eqb t (u + (d + frame_slots * n)) in
      let before = some (λ i. eqb t (u + (d + frame_slots * i))) n in
      put-after (owned_in present d b n) u t present here (sound-frames present d b n s).size from to ours (d + frame_slots * n) (omega arith)
      ∙ ap (λ (y : ℕ). pick now ours y) (own-after n (omega arith))
      ∙ pick-either before now ours x

-- none of them is beyond the book
pub own-beyond : (u t d n : ℕ) → d + frame_slots * n < slot_times + frame_slots → u + slot_times ≤ t → some (λ i. eqb t (u + (d + frame_slots * i))) n ≡ false
own-beyond u t d zero l p = some-none (λ i. eqb t (u + (d + frame_slots * i)))
own-beyond u t d (suc n) l p =
    let test : ℕ → Bool = λ i. eqb t (u + (d + frame_slots * i)) in
    let next : suc n ≡ n + 1 = omega arith in
    ap (some test) next ∙ some-miss test n (own-beyond u t d n (omega arith) p) (ne_eqb t (u + (d + frame_slots * n)) (λ e. omega arith))
