-- Demand 3 holds of a new book and stays through whatever happens to a place, so through loops of it; and the tallies of all holders are
-- 20,250 together.
-- Assumes nothing.
use mathlib.Core.Path.{◌≡◌, refl, sym, ap, ◌∙◌}
use mathlib.Core.List.{List, [], ◌∷◌, ◌++◌}
use Prim.Native.Nat.{ℕ, zero, suc, ◌+◌, ◌*◌, ◌%◌, ◌<◌}
use native.Mathlib.Nat.{suc-ne-zero}
use native.Mathlib.Decide.{ℕ_discrete}
use native.Mathlib.Omega.{arith}
use lib.Dec.{eqb}
use lib.ListN.{length, get_or, set, replicate, length-set, length-append, length-replicate, get_or-replicate}
use lib.Seq.{get_or-set_same, get_or-set_other}
use Rattle.laws.specs.Counting.{count, sum}
use Rattle.laws.proofs.Tests.{pick-has}
use Rattle.laws.proofs.Upto.{upto-keeps}
use Rattle.laws.proofs.Counting.{hit_same, hit_other, count_set, count-le, count_at, count-replicate, sum-sums, sums-count, sum-end}
use Rattle.laws.proofs.Sums.{sums}
use Rattle.limits.specs.Limits.{slot_times, records}
use Rattle.book.specs.Book.{Book, holders, holder, kept, raised, lowered, alter, lower, raise, book_of, put_at, mark_at, free_at}
use Rattle.book.specs.Pass.{Moment, passed}
use Rattle.book.specs.Sound.{Sound}
use Rattle.book.specs.Promises.{new_book, NewIsSound, PutKeeps, MarkKeeps, FreeKeeps, ReleaseKeeps, PassKeeps, AllMakeTheWhole}

-- ---- a changed tally

pub length-alter : (f : ℕ → ℕ) (t : List ℕ) (h : ℕ) → length (alter f t h) ≡ length t
unfolding alter
length-alter f t h = length-set t h (f (get_or t h 0))

alter-same : (f : ℕ → ℕ) (t : List ℕ) (h k : ℕ) → k ≡ h → h < length t → get_or (alter f t h) k 0 ≡ f (get_or t k 0)
unfolding alter
alter-same f t h k e p = rw e (get_or-set_same t h (f (get_or t h 0)) 0 p)

alter-other : (f : ℕ → ℕ) (t : List ℕ) (h k : ℕ) → (k ≡ h → ⊥) → get_or (alter f t h) k 0 ≡ get_or t k 0
unfolding alter
alter-other f t h k n = get_or-set_other t h k (f (get_or t h 0)) 0 n

-- ---- a place goes to another holder

module _ (t l : List ℕ) (at h : ℕ) (size : length l ≡ slot_times) (kinds : length t ≡ holders) (below : at < length l) (old : get_or l at 0 < holders) (new : h < holders)
    (k : ℕ) (right : get_or t k 0 ≡ count k l) where
  put_right : get_or (raise (lower t (get_or l at 0)) h) k 0 ≡ count k (set l at h)
  put_right = go (ℕ_discrete k (get_or l at 0)) (ℕ_discrete k h)
    where
      go : Dec (k ≡ get_or l at 0) → Dec (k ≡ h) → get_or (raise (lower t (get_or l at 0)) h) k 0 ≡ count k (set l at h)
      go (yes p) (yes q) =
          omega (arith, alter-same raised (lower t (get_or l at 0)) h k q (rw length-alter (omega arith)), alter-same lowered t (get_or l at 0) k p (omega arith), count_set k l at h below, hit_same k (get_or l at 0) (sym p), hit_same k h (sym q), count_at k l at below, count-le k l)
      go (yes p) (no q) =
          omega (arith, alter-other raised (lower t (get_or l at 0)) h k q, alter-same lowered t (get_or l at 0) k p (omega arith), count_set k l at h below, hit_same k (get_or l at 0) (sym p), hit_other k h (λ e. q (sym e)), count_at k l at below, count-le k l)
      go (no p) (yes q) =
          omega (arith, alter-same raised (lower t (get_or l at 0)) h k q (rw length-alter (omega arith)), alter-other lowered t (get_or l at 0) k p, count_set k l at h below, hit_other k (get_or l at 0) (λ e. p (sym e)), hit_same k h (sym q), count-le k (set l at h), length-set l at h)
      go (no p) (no q) =
          omega (arith, alter-other raised (lower t (get_or l at 0)) h k q, alter-other lowered t (get_or l at 0) k p, count_set k l at h below, hit_other k (get_or l at 0) (λ e. p (sym e)), hit_other k h (λ e. q (sym e)))

set-held : (l : List ℕ) (at h : ℕ) → h < holders → ((i : ℕ) → i < length l → get_or l i 0 < holders) → (i : ℕ) → i < length (set l at h) → get_or (set l at h) i 0 < holders
set-held l at h new held i p = go (ℕ_discrete i at)
  where
    q : i < length l
    q = rw (length-set l at h) at p

    go : Dec (i ≡ at) → get_or (set l at h) i 0 < holders
    go (yes e) = rw e (rw (get_or-set_same l at h 0 (rw e at q)) new)
    go (no n) = rw (get_or-set_other l at i h 0 n) (held i q)

pub sound-put : PutKeeps
unfolding put_at
sound-put b at h p new s =
    let below : at < length b.slots = omega arith in
    record {
      size = length-set b.slots at h ∙ s.size;
      kinds = length-alter raised _ h ∙ length-alter lowered b.tallies (holder b at) ∙ s.kinds;
      held = set-held b.slots at h new s.held;
      right = λ k q. put_right b.tallies b.slots at h s.size s.kinds below (s.held at below) new k (s.right k q);
    }

pub sound-mark : MarkKeeps
unfolding mark_at
sound-mark b at h p new s = pick-has Sound (kept (holder b at)) b (put_at b at h) s (sound-put b at h p new s)

pub sound-free : FreeKeeps
unfolding free_at
sound-free b at h p s = pick-has Sound (eqb (holder b at) h) (put_at b at 0) b (sound-put b at 0 p (omega arith) s) s

pub sound-release : ReleaseKeeps
sound-release b h k p s = upto-keeps _ b Sound k (λ c i l. sound-free c i h (omega arith)) s

sound-passed : (m : Moment) → Sound m.book → Sound (passed m).book
unfolding passed
sound-passed m s = sound-put m.book (m.present % slot_times) 0 (omega arith) (omega arith) s

pub sound-pass : PassKeeps
sound-pass m n s = upto-keeps _ m (λ (x : Moment). Sound x.book) n (λ x i l. sound-passed x) s

-- ---- a new book

-- zeros, and one more at the end
zeros : (m i : ℕ) → ◌≡◌ {A = ℕ} (get_or (replicate m 0 ++ 0 ∷ []) i 0) 0
zeros zero zero = refl
zeros zero (suc i) = refl
zeros (suc m) zero = refl
zeros (suc m) (suc i) = zeros m i

module _ (n m : ℕ) where
  new-size : length (new_book n m).slots ≡ n
  unfolding new_book
  new-size = length-replicate n 0

  new-kinds : length (new_book n m).tallies ≡ m + 2
  unfolding new_book
  new-kinds = omega (arith, length-append {A = ℕ} (replicate m 0) (0 ∷ []), length-replicate {A = ℕ} m 0)

  new-held : (i : ℕ) → i < n → holder (new_book n m) i ≡ 0
  unfolding new_book
  new-held i p = get_or-replicate n i 0 0 p

  new-right : (h : ℕ) → h < m + 2 → get_or (new_book n m).tallies h 0 ≡ count h (new_book n m).slots
  unfolding new_book
  new-right zero p = omega (arith, count-replicate 0 n 0, ap (λ (x : ℕ). n * x) (hit_same 0 0 refl))
  new-right (suc h) p =
      omega (arith, zeros m h, count-replicate (suc h) n 0, ap (λ (x : ℕ). n * x) (hit_other (suc h) 0 (λ e. suc-ne-zero h (sym e))))

pub sound-new : NewIsSound
sound-new =
    record {
      size = new-size slot_times records;
      kinds = new-kinds slot_times records;
      held = λ i p. omega (arith, new-held slot_times records i (rw (new-size slot_times records) at p));
      right = new-right slot_times records;
    }

-- ---- all holders together

sound-sum : (b : Book) → Sound b → sum b.tallies ≡ slot_times
sound-sum b s =
    sum-sums b.tallies (λ h. count h b.slots) (λ h p. s.right h (rw s.kinds at p))
    ∙ ap (sums (λ h. count h b.slots)) s.kinds
    ∙ sums-count holders b.slots s.held ∙ s.size

pub all-make : AllMakeTheWhole
all-make s t c w = omega (arith, sound-sum (book_of s t c) w, sum-end t c.own)
