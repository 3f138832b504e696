-- A tally changed where the counts and the records' tallies stand apart comes to the tally changed in the list of all.
-- Assumes nothing.
use mathlib.Core.Path.{◌≡◌, refl, sym, ap, ◌∙◌}
use mathlib.Core.Bool.{false}
use mathlib.Core.List.{List}
use Prim.Native.Nat.{ℕ, ◌-◌, ◌≤◌, ◌<◌}
use native.Mathlib.Decide.{ℕ_discrete, dec_lt}
use native.Mathlib.Omega.{arith}
use borrow.Author.Tests.{eq-eqb, ne_eqb}
use lib.ListN.{length, get_or, set, length-set}
use Rattle.laws.proofs.Tests.{pick-has}
use Rattle.limits.specs.Limits.{records}
use Rattle.book.specs.declared.Counts.{Counts}
use Rattle.book.specs.declared.Handing.{Handing}
use Rattle.book.specs.Book.{Book, ours, is_record, raised, lowered, wide, alter, book_of, put_at, mark_at, free_at, counts_by, tallies_by, followed, Puts, Gives}
use Rattle.book.proofs.Holders.{is-record, nobody-has-none, others-have-none}
use Rattle.book.proofs.Steps.{kept-own, kept-other, mark-kept, mark-other, free-held, free_other}
use Rattle.book.proofs.Wide.{alter_free, alter-record, alter-own, alter-none}

-- ---- one tally

module _ (f : ℕ → ℕ) (c : Counts) (t : List ℕ) (h : ℕ) (many : length t ≡ records) where
  of-nobody : h ≡ 0 → wide (counts_by f c h) (tallies_by f t h) ≡ alter f (wide c t) h
  unfolding counts_by tallies_by
  of-nobody e = rw (eq-eqb h 0 e, nobody-has-none h e) (alter_free f c.free c.own t h (f c.free) e refl)

  of-record : 0 < h → h < ours → wide (counts_by f c h) (tallies_by f t h) ≡ alter f (wide c t) h
  unfolding counts_by tallies_by
  of-record p q =
      rw (ne_eqb h 0 (λ z. omega arith), ne_eqb h ours (λ z. omega arith), is-record h p q)
      (alter-record f c.free c.own t h (f (get_or t (h - 1) 0)) p (omega arith) refl)

  of-ours : h ≡ ours → wide (counts_by f c h) (tallies_by f t h) ≡ alter f (wide c t) h
  unfolding counts_by tallies_by
  of-ours e =
      rw (ne_eqb h 0 (λ z. omega arith), eq-eqb h ours e, others-have-none h (omega arith))
      (alter-own f c.free c.own t h (f c.own) many e refl)

  of_none : ours < h → wide (counts_by f c h) (tallies_by f t h) ≡ alter f (wide c t) h
  unfolding counts_by tallies_by
  of_none l =
      rw (ne_eqb h 0 (λ z. omega arith), ne_eqb h ours (λ z. omega arith), others-have-none h (omega arith))
      (alter-none f c.free c.own t h many l)

  pub wide_by : wide (counts_by f c h) (tallies_by f t h) ≡ alter f (wide c t) h
  wide_by = go (ℕ_discrete h 0) (ℕ_discrete h ours) (dec_lt h ours)
    where
      go : Dec (h ≡ 0) → Dec (h ≡ ours) → Dec (h < ours) → wide (counts_by f c h) (tallies_by f t h) ≡ alter f (wide c t) h
      go (yes e) o l = of-nobody e
      go (no n) (yes e) l = of-ours e
      go (no n) (no m) (yes l) = of-record (omega arith) l
      go (no n) (no m) (no l) = of_none (omega arith)

pub tallies-by-length : (f : ℕ → ℕ) (t : List ℕ) (h : ℕ) → length (tallies_by f t h) ≡ length t
unfolding tallies_by
tallies-by-length f t h = pick-has (λ (u : List ℕ). length u ≡ length t) (is_record h) _ t (length-set t (h - 1) _) refl

-- ---- one place

-- it goes to h
module _ (s : List ℕ) (c : Counts) (at h : ℕ) where
  pub puts : (r : Counts) → r ≡ counts_by raised (counts_by lowered c (get_or s at 0)) h
      → Puts (λ b. put_at b at h) s c (record { counts = r; old = get_or s at 0; new = h }) (set s at h)
  unfolding put_at
  puts r e t many =
      let old = get_or s at 0 in
      let less = tallies_by lowered t old in
      let fell = wide_by lowered c t old many in
      let rose = wide_by raised (counts_by lowered c old) less h (tallies-by-length lowered t old ∙ many) in
      λ i. record { slots = set s at h; tallies = (ap (λ (d : Counts). wide d (tallies_by raised less h)) e ∙ rose ∙ ap (λ (w : List ℕ). alter raised w h) fell) i }

-- no record loses it and none gets it
no-record-follows : (t : List ℕ) (p : Handing) → is_record p.old ≡ false → is_record p.new ≡ false → followed t p ≡ t
unfolding tallies_by
no-record-follows t p e f = rw (e, f)

-- nothing is done, by f neither
nothing : (f : Book → Book) (s : List ℕ) (c : Counts) (p : Handing) (h : ℕ) → p ≡ record { counts = c; old = 0; new = 0 }
    → ((b : Book) → b.slots ≡ s → b ≡ f b) → Puts f s c p s × (p.new ≤ h)
nothing f s c p h e same =
    rw e (
      λ t many. ap (λ (u : List ℕ). book_of s u c) (no-record-follows t (record { counts = c; old = 0; new = 0 }) (nobody-has-none 0 refl) (nobody-has-none 0 refl)) ∙ same (book_of s t c) refl,
      omega arith,
    )

-- a mark of h, and a freeing of h, by who holds the place: p is what was done to it
module _ (s : List ℕ) (c : Counts) (p : Handing) (at h : ℕ) where
  pub mark-left : p ≡ record { counts = c; old = 0; new = 0 } → get_or s at 0 ≡ ours → Puts (λ b. mark_at b at h) s c p s × (p.new ≤ h)
  mark-left e own = nothing (λ b. mark_at b at h) s c p h e (λ b i. mark-kept b at h (kept-own _ (ap (λ (l : List ℕ). get_or l at 0) i ∙ own)))

  pub mark-put : {s' : List ℕ} → Puts (λ b. put_at b at h) s c p s' → (get_or s at 0 ≡ ours → ⊥) → Puts (λ b. mark_at b at h) s c p s'
  mark-put d other t many = d t many ∙ mark-other _ _ _ (kept-other _ other)

  pub free-left : p ≡ record { counts = c; old = 0; new = 0 } → (get_or s at 0 ≡ h → ⊥) → Puts (λ b. free_at b at h) s c p s × (p.new ≤ h)
  free-left e other = nothing (λ b. free_at b at h) s c p h e (λ b i. free_other b at h (λ z. other (ap (λ (l : List ℕ). get_or l at 0) (sym i) ∙ z)))

  pub free-put : {s' : List ℕ} → Puts (λ b. put_at b at 0) s c p s' → get_or s at 0 ≡ h → Puts (λ b. free_at b at h) s c p s'
  free-put d held t many = d t many ∙ free-held _ _ _ held

-- ours becomes nobody's
pub gives_up : (s : List ℕ) (c r : Counts) (at : ℕ) → get_or s at 0 ≡ ours → r ≡ counts_by raised (counts_by lowered c ours) 0
    → Gives (λ b. put_at b at 0) s c r (set s at 0)
gives_up s c r at e is t many =
    let p : Handing = record { counts = r; old = get_or s at 0; new = 0 } in
    let stays = no-record-follows t p (others-have-none (get_or s at 0) (omega arith)) (nobody-has-none 0 refl) in
    ap (λ (u : List ℕ). book_of (set s at 0) u r) (sym stays)
    ∙ puts s c at 0 r (is ∙ ap (λ (x : ℕ). counts_by raised (counts_by lowered c x) 0) (sym e)) t many
