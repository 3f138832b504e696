-- What a report does to the book: its sizes and demand 3 stay, the holder of each slot time by the rows, and no time beyond the book is marked.
-- Assumes nothing.
use mathlib.Core.Path.{◌≡◌, refl, sym, ap, ◌∙◌}
use mathlib.Core.Bool.{Bool, true, false}
use mathlib.Core.List.{List, [], ◌∷◌}
use Prim.Native.Nat.{ℕ, zero, suc, ◌+◌, ◌-◌, ◌*◌, ◌≤◌, ◌<◌}
use native.Mathlib.Nat.{mul-le-mul_left}
use native.Mathlib.Decide.{ℕ_discrete}
use native.Mathlib.Omega.{arith}
use borrow.Author.Tests.{ne_eqb, leb-true, ltb-true}
use lib.Dec.{eqb, leb, ltb}
use lib.ListN.{length}
use lib.Seq.{get_or-set_same, get_or-set_other}
use Rattle.laws.specs.Tests.{pick}
use Rattle.laws.specs.Loops.{upto}
use Rattle.laws.proofs.Tests.{both_left, both_right, both-no, not-true, pick-of, pick-has}
use Rattle.laws.proofs.Ranges.{some-passes}
use Rattle.laws.proofs.Upto.{upto-keeps}
use Rattle.limits.specs.Limits.{frame_slots, slot_times}
use Rattle.book.specs.Book.{Book, holders, place, holder, kept, put_at, mark_at, free_at}
use Rattle.book.specs.Sound.{Sound}
use Rattle.book.proofs.Lengths.{SameSizes, mark-sizes, free-sizes}
use Rattle.book.proofs.Soundness.{sound-mark, sound-free}
use Rattle.announcing.specs.declared.rows.Row.{Row}
use Rattle.announcing.specs.Rows.{marks_by, in_run, has_time, marks_time, frees_time, at_times, booked, end_of, in_book}
use Rattle.announcing.proofs.Ends.{first-inside}

-- ---- one place

-- whoever has a place once it is marked for h, or freed of h, where x had it
unfoldable pub marked_for : ℕ → ℕ → ℕ
marked_for h x = pick (kept x) x h

unfoldable pub freed_of : ℕ → ℕ → ℕ
freed_of h x = pick (eqb x h) 0 x

module _ (b : Book) (at h p : ℕ) where
  pub put-here : p ≡ at → at < length b.slots → holder (put_at b at h) p ≡ h
  unfolding put_at
  put-here e l = rw e (get_or-set_same b.slots at h 0 l)

  pub put_other : (p ≡ at → ⊥) → holder (put_at b at h) p ≡ holder b p
  unfolding put_at
  put_other n = get_or-set_other b.slots at p h 0 n

-- f does something to a place: its holder x becomes e x, every other place keeps its own, and no list changes its length
pub record Does (f : Book → ℕ → Book) (e : ℕ → ℕ) : Type 0 where
  pub here : (b : Book) (at p : ℕ) → p ≡ at → at < length b.slots → holder (f b at) p ≡ e (holder b p)
  pub other : (b : Book) (at p : ℕ) → (p ≡ at → ⊥) → holder (f b at) p ≡ holder b p
  pub sizes : (b : Book) (at : ℕ) → SameSizes (f b at) b

pub marks : (h : ℕ) → Does (λ b at. mark_at b at h) (marked_for h)
unfolding mark_at marked_for
marks h =
    record {
      here = λ b at p e l. pick-of (λ (v : Book). holder v p) (kept (holder b at)) b (put_at b at h) ∙ rw (put-here b at h p e l, e);
      other = λ b at p n.
          pick-has (λ (v : Book). holder v p ≡ holder b p) (kept (holder b at)) b (put_at b at h) refl (put_other b at h p n);
      sizes = λ b at. mark-sizes b at h;
    }

pub frees : (h : ℕ) → Does (λ b at. free_at b at h) (freed_of h)
unfolding free_at freed_of
frees h =
    record {
      here = λ b at p e l. pick-of (λ (v : Book). holder v p) (eqb (holder b at) h) (put_at b at 0) b ∙ rw (put-here b at 0 p e l, e);
      other = λ b at p n.
          pick-has (λ (v : Book). holder v p ≡ holder b p) (eqb (holder b at) h) (put_at b at 0) b (put_other b at 0 p n) refl;
      sizes = λ b at. free-sizes b at h;
    }

-- ---- turns, each at a place of its own

-- at the turn k, if it passes the test, f is done to the place at k
module _ (at : ℕ → ℕ) (t : ℕ → Bool) (f : Book → ℕ → Book) where
  abbrev turn : Book → ℕ → Book
  turn c k = pick (t k) (f c (at k)) c

  -- what f keeps stays
  turns-keep : (P : Book → Type 0) → ((c : Book) (k : ℕ) → P c → P (f c (at k))) → (b : Book) (n : ℕ) → P b → P (upto turn b n)
  turns-keep P keep b n = upto-keeps turn b P n (λ c k l q. pick-has P (t k) (f c (at k)) c (keep c k q) q)

  -- n turns, no two of them at one place
  module _ (e : ℕ → ℕ) (does : Does f e) (n : ℕ) (apart : (d k : ℕ) → d < n → k < n → at d ≡ at k → d ≡ k) (b : Book) (d : ℕ) (near : d < n)
      (below : at d < length b.slots) where
    abbrev after : ℕ → Book
    after = upto turn b

    after-below : (k : ℕ) → at d < length (after k).slots
    after-below k =
        turns-keep (λ (c : Book). at d < length c.slots) (λ c i q. omega (arith, (does.sizes c (at i)).0)) b k below

    -- the turn of another place leaves the place at d
    passed-by : (k : ℕ) → k < n → (d ≡ k → ⊥) → holder (turn (after k) k) (at d) ≡ holder (after k) (at d)
    passed-by k l m =
        pick-has (λ (c : Book). holder c (at d) ≡ holder (after k) (at d)) (t k) (f (after k) (at k)) (after k)
        (does.other (after k) (at k) (at d) (λ q. m (apart d k near l q))) refl

    before : (k : ℕ) → k ≤ d → holder (after k) (at d) ≡ holder b (at d)
    unfolding upto
    before zero l = refl
    before (suc k) l = passed-by k (omega arith) (λ q. omega arith) ∙ before k (omega arith)

    -- its own turn
    abbrev then : ℕ
    then = pick (t d) (e (holder b (at d))) (holder b (at d))

    own : holder (turn (after d) d) (at d) ≡ then
    own =
        pick-of (λ (c : Book). holder c (at d)) (t d) (f (after d) (at d)) (after d)
        ∙ ap (λ (x : ℕ). pick (t d) x (holder (after d) (at d))) (does.here (after d) (at d) (at d) refl (after-below d))
        ∙ ap (λ (x : ℕ). pick (t d) (e x) x) (before d (omega arith))

    since : (k : ℕ) → d < k → k ≤ n → holder (after k) (at d) ≡ then
    unfolding upto
    since zero l m = absurd (omega arith)
    since (suc k) l m = go (ℕ_discrete d k) (λ q. since k q (omega arith))
      where
        go : Dec (d ≡ k) → (d < k → holder (after k) (at d) ≡ then) → holder (turn (after k) k) (at d) ≡ then
        go (yes q) h = ap (λ (i : ℕ). holder (turn (after i) i) (at d)) (sym q) ∙ own
        go (no r) h = passed-by k (omega arith) r ∙ h (omega arith)

    -- so each place is as its own turn left it
    pub turns-holder : holder (upto turn b n) (at d) ≡ then
    turns-holder = since n near (omega arith)

-- two times ahead, both in the book, have two places
pub apart : (present d k : ℕ) → d < slot_times → k < slot_times → place present d ≡ place present k → d ≡ k
apart present d k p q e = omega arith

-- ---- a report

-- whoever has the time d ahead once the rows were booked for h, where x had it
unfoldable pub freed_then : ℕ → List Row → ℕ → ℕ → ℕ
freed_then h rows d x = pick (frees_time rows d) (freed_of h x) x

unfoldable pub marked_then : ℕ → List Row → ℕ → ℕ → ℕ
marked_then h rows d x = pick (marks_time rows d) (marked_for h x) x

module _ (present h : ℕ) (rows : List Row) where
  -- the book once the report's times are freed
  abbrev freed : Book → Book
  freed b = at_times (frees_time rows) (λ c d. free_at c (place present d) h) b

  -- what a mark and a freeing keep, the report keeps
  booked-keeps : (P : Book → Type 0) → ((c : Book) (d : ℕ) → P c → P (free_at c (place present d) h)) → ((c : Book) (d : ℕ) → P c → P (mark_at c (place present d) h))
      → (b : Book) → P b → P (booked present h rows b)
  unfolding booked at_times
  booked-keeps P free mark b p =
      turns-keep (place present) (marks_time rows) (λ c at. mark_at c at h) P mark (freed b) slot_times
      (turns-keep (place present) (frees_time rows) (λ c at. free_at c at h) P free b slot_times p)

  pub booked-sizes : (b : Book) → SameSizes (booked present h rows b) b
  booked-sizes b =
      booked-keeps (λ (c : Book). SameSizes c b)
      (λ c d e. let s = free-sizes c (place present d) h in (s.0 ∙ e.0, s.1 ∙ e.1))
      (λ c d e. let s = mark-sizes c (place present d) h in (s.0 ∙ e.0, s.1 ∙ e.1)) b (refl, refl)

  -- demand 3, h being a holder's number
  pub sound-booked : h < holders → (b : Book) → Sound b → Sound (booked present h rows b)
  sound-booked l =
      booked-keeps Sound (λ c d. sound-free c (place present d) h (omega arith)) (λ c d. sound-mark c (place present d) h (omega arith) l)

  freed-size : (b : Book) → length b.slots ≡ slot_times → length (freed b).slots ≡ slot_times
  unfolding at_times
  freed-size b =
      turns-keep (place present) (frees_time rows) (λ c at. free_at c at h) (λ (c : Book). length c.slots ≡ slot_times)
      (λ c d e. (free-sizes c (place present d) h).0 ∙ e) b slot_times

  -- the holder of the time d ahead
  pub booked-holder : (b : Book) → length b.slots ≡ slot_times → (d : ℕ) → d < slot_times
      → holder (booked present h rows b) (place present d) ≡ marked_then h rows d (freed_then h rows d (holder b (place present d)))
  unfolding booked at_times marked_then freed_then
  booked-holder b size d near =
      turns-holder (place present) (marks_time rows) _ (marked_for h) (marks h) slot_times (apart present) (freed b) d near (omega (arith, freed-size b size))
      ∙ ap (λ (x : ℕ). pick (marks_time rows d) (marked_for h x) x)
      (turns-holder (place present) (frees_time rows) _ (freed_of h) (frees h) slot_times (apart present) b d near (omega arith))

-- ---- times beyond the book

module _ (r : Row) (d : ℕ) where
  -- a run of a row ends before the row does
  run_ends : (f i : ℕ) → f < r.frames → i < r.times → in_run (r.from + r.step * i + frame_slots * f) r.slots d ≡ true → d < end_of r
  unfolding in_run end_of
  run_ends f i p q e =
      let a = r.from + r.step * i + frame_slots * f in
      let low : a ≤ d = leb-true a d (both_left (leb a d) (ltb d (a + r.slots)) e) in
      let high : d < a + r.slots = ltb-true d (a + r.slots) (both_right (leb a d) (ltb d (a + r.slots)) e) in
      let last : i ≤ r.times - 1 = omega arith in
      rw (ne_eqb r.slots 0 (λ z. omega arith), ne_eqb r.times 0 (λ z. omega arith), ne_eqb r.frames 0 (λ z. omega arith))
      (omega (arith, mul-le-mul_left r.step last))

  -- a row has no time from its end on
  has-ends : end_of r ≤ d → has_time r d ≡ false
  unfolding has_time
  has-ends l = not-true _ (λ e.
      let out = some-passes _ r.frames e in
      let in_one = some-passes _ r.times out.1.1 in
      omega (arith, run_ends out.0 in_one.0 out.1.0 in_one.1.0 in_one.1.1))

-- rows that lie in the book mark no time beyond it
pub none-beyond : (rows : List Row) → in_book rows ≡ true → (d : ℕ) → slot_times ≤ d → marks_time rows d ≡ false
none-beyond [] e d l = refl
none-beyond (r ∷ rows) e d l =
    let ends = leb-true (end_of r) slot_times (first-inside r rows e).0 in
    let rest = none-beyond rows (first-inside r rows e).1 d l in
    rw (has-ends r d (omega arith), both-no (marks_by r.kind)) rest
