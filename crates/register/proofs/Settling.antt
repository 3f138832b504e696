-- The records that follow what was done to a slot time come to the state with the book written back.
--     follows          the book after the records have followed, and that nothing but tallies has changed
--     settle_is        a state whose records differ in tallies alone is the old one with its book written back
--     book_in-settle    the book that is written back is the book of the state
-- Assumes nothing.
use mathlib.Core.Path.{◌≡◌, refl, sym, ap, ap₂, ◌∙◌}
use mathlib.Core.Bool.{true, false}
use mathlib.Core.List.{List, [], ◌∷◌, map}
use Prim.Native.Nat.{ℕ, zero, suc}
use native.Mathlib.Omega.{arith}
use borrow.Author.Tests.{eq-eqb, ne_eqb}
use lib.ListN.{length, get_or, set, length-map, length-set, get_or-map}
use lib.Seq.{map-set_same, set-get_or}
use Rattle.laws.proofs.Tests.{by-test}
use Rattle.limits.specs.Limits.{records, hold_off}
use Rattle.ship.specs.declared.Station.{Station}
use Rattle.ship.specs.Ship.{blank}
use Rattle.book.specs.declared.Counts.{Counts}
use Rattle.book.specs.Book.{Book, ours, holders, is_record, record_at, raised, lowered, book_of, tallies_of, counts_of, tallies_by, Puts}
use Rattle.book.proofs.Lengths.{all-records}
use Rattle.book.proofs.Once.{tallies-back, counts-back, parts-make}
use Rattle.register.specs.declared.Turn.{Turn}
use Rattle.register.specs.State.{State, state_of, tallies_in, book_in, with_tally, with_hold, with_counts, tallied, settle, held_off}
use Rattle.register.specs.Register.{less_by, more_by, lost_in, won_in}
use Rattle.book.proofs.Holders.{its-record}

-- ---- lists

pub map-set : {A B : Type 0} (f : A → B) (l : List A) (i : ℕ) (y : A) → map f (set l i y) ≡ set (map f l) i (f y)
map-set f [] i y = refl
map-set f (x ∷ l) zero y = refl
map-set {A} {B} f (x ∷ l) (suc i) y = ap (λ (r : List B). f x ∷ r) (map-set f l i y)

-- ---- one record

-- the record at its place changed so that its tally is g of it
set-tallies : (g : ℕ → ℕ) (reg : List Station) (k : ℕ) (r : Station) → r.tally ≡ g (get_or reg k blank).tally
    → tallies_in (set reg k r) ≡ set (tallies_in reg) k (g (get_or (tallies_in reg) k 0))
set-tallies g reg k r e =
    map-set (λ (x : Station). x.tally) reg k r ∙ ap (set (tallies_in reg) k) (e ∙ ap g (sym (get_or-map (λ (x : Station). x.tally) reg k blank)))

-- all but the tallies
abbrev pub bare : List Station → List Station
bare reg = map (λ (r : Station). with_tally r 0) reg

module _ (reg : List Station) (t : Turn) where
  abbrev old : ℕ
  old = t.handing.old

  abbrev new : ℕ
  new = t.handing.new

  -- the record of the holder h
  abbrev at : ℕ → Station
  at h = get_or reg (record_at h) blank

  -- the holder h has got the record r: g of its tally where it has a record, and nothing else
  follow-tallies : (g : ℕ → ℕ) (h : ℕ) (r : Station) → (is_record h ≡ true → r.tally ≡ g (at h).tally) → (is_record h ≡ false → at h ≡ r)
      → tallies_in (set reg (record_at h) r) ≡ tallies_by g (tallies_in reg) h
  unfolding tallies_by
  follow-tallies g h r is none =
      by-test (is_record h)
      (λ e. rw e (set-tallies g reg (record_at h) r (is e) ∙ ap (λ (k : ℕ). set (tallies_in reg) k (g (get_or (tallies_in reg) k 0))) (its-record h e)))
      (λ e. rw e (ap tallies_in (ap (set reg (record_at h)) (sym (none e)) ∙ set-get_or reg (record_at h) blank)))

  lost-tallies : tallies_in (lost_in reg t) ≡ tallies_by lowered (tallies_in reg) old
  unfolding less_by
  lost-tallies = follow-tallies lowered old (less_by (at old) t) (λ e. rw e) (λ e. rw e)

  won-tallies : tallies_in (won_in reg t) ≡ tallies_by raised (tallies_in reg) new
  unfolding more_by
  won-tallies = follow-tallies raised new (more_by (at new) t) (λ e. rw e) (λ e. rw e)

  -- but for its tally the winner is as it was, and the loser too where the slot time did not become ours
  won-bare : bare (won_in reg t) ≡ bare reg
  unfolding more_by
  won-bare =
      map-set_same (λ (r : Station). with_tally r 0) reg (record_at new) (more_by (at new) t) blank (by-test (is_record new) (λ e. rw e) (λ e. rw e))

  lost-bare : (new ≡ ours → ⊥) → bare (lost_in reg t) ≡ bare reg
  unfolding less_by
  lost-bare n =
      map-set_same (λ (r : Station). with_tally r 0) reg (record_at old) (less_by (at old) t) blank
      (by-test (is_record old) (λ e. rw (e, ne_eqb new ours n)) (λ e. rw e))

  -- where it became ours the loser is held off
  lost-held : new ≡ ours → bare (lost_in reg t) ≡ bare (held_off old reg)
  unfolding held_off less_by
  lost-held o =
      by-test (is_record old)
      (λ e. rw (e, eq-eqb new ours o) (map-set (λ (r : Station). with_tally r 0) reg (record_at old) (with_hold (with_tally (at old) (lowered (at old).tally)) hold_off)
      ∙ sym (map-set (λ (r : Station). with_tally r 0) reg (record_at old) (with_hold (at old) hold_off))
      ∙ ap (λ (k : ℕ). bare (set reg k (with_hold (get_or reg k blank) hold_off))) (its-record old e)))
      (λ e. rw e (ap bare (set-get_or reg (record_at old) blank)))

-- both, one after the other
abbrev pub both-followed : List Station → Turn → List Station
both-followed reg t = won_in (lost_in reg t) t

module _ (reg : List Station) (t : Turn) (many : length reg ≡ records) where
  pub followed-many : length (both-followed reg t) ≡ records
  followed-many = length-set (lost_in reg t) _ _ ∙ length-set reg _ _ ∙ many

  pub followed-bare : (t.handing.new ≡ ours → ⊥) → bare (both-followed reg t) ≡ bare reg
  followed-bare n = won-bare (lost_in reg t) t ∙ lost-bare reg t n

  pub followed-held : t.handing.new ≡ ours → bare (both-followed reg t) ≡ bare (held_off t.handing.old reg)
  followed-held o = won-bare (lost_in reg t) t ∙ lost-held reg t o

  -- the book once the records have followed
  pub follows : (f : Book → Book) (s s' : List ℕ) (c : Counts) → Puts f s c t.handing s'
      → book_of s' (tallies_in (both-followed reg t)) t.handing.counts ≡ f (book_of s (tallies_in reg) c)
  follows f s s' c p =
      ap (λ (ts : List ℕ). book_of s' ts t.handing.counts)
      (won-tallies (lost_in reg t) t ∙ ap (λ (ts : List ℕ). tallies_by raised ts t.handing.new) (lost-tallies reg t))
      ∙ p (tallies_in reg) (length-map reg (λ (r : Station). r.tally) ∙ many)

-- ---- a book that is written back

pub tallied-bare : (reg reg' : List Station) → bare reg' ≡ bare reg → tallied reg (tallies_in reg') ≡ reg'
unfolding tallied
tallied-bare [] [] e = refl
tallied-bare [] (x ∷ reg') e = absurd (omega (arith, ap length e))
tallied-bare (r ∷ reg) [] e = absurd (omega (arith, ap length e))
tallied-bare (r ∷ reg) (x ∷ reg') e =
    let here : with_tally x 0 ≡ with_tally r 0 = cc in
    let rest : bare reg' ≡ bare reg = cc in
    ap₂ (λ (y : Station) (l : List Station). y ∷ l) (ap (λ (y : Station). with_tally y x.tally) (sym here)) (tallied-bare reg reg' rest)

-- the book b with these slots, counts and tallies, written back
pub settle-parts : (s : State) (b : Book) (reg' : List Station) (book' : List ℕ) (c' : Counts) → length reg' ≡ records
    → book_of book' (tallies_in reg') c' ≡ b → settle b s ≡ state_of (tallied s.reg (tallies_in reg')) book' (with_counts s.watch c')
unfolding settle
settle-parts s b reg' book' c' many is =
    let size : length (tallies_in reg') ≡ records = length-map reg' (λ (r : Station). r.tally) ∙ many in
    rw (← is, tallies-back book' (tallies_in reg') c' size, counts-back book' (tallies_in reg') c' size)

pub settle_is : (s : State) (b : Book) (reg' : List Station) (book' : List ℕ) (c' : Counts) → length reg' ≡ records → bare reg' ≡ bare s.reg
    → book_of book' (tallies_in reg') c' ≡ b → settle b s ≡ state_of reg' book' (with_counts s.watch c')
settle_is s b reg' book' c' many same is =
    settle-parts s b reg' book' c' many is ∙ ap (λ (l : List Station). state_of l book' (with_counts s.watch c')) (tallied-bare s.reg reg' same)

pub tallied-tallies : (reg : List Station) (ts : List ℕ) → length ts ≡ length reg → tallies_in (tallied reg ts) ≡ ts
unfolding tallied
tallied-tallies [] [] e = refl
tallied-tallies [] (t ∷ ts) e = absurd (omega arith)
tallied-tallies (r ∷ reg) [] e = absurd (omega arith)
tallied-tallies (r ∷ reg) (t ∷ ts) e = ap (λ (l : List ℕ). t ∷ l) (tallied-tallies reg ts (omega arith))

pub book_in-settle : (s : State) (b : Book) → length s.reg ≡ records → length b.tallies ≡ holders → book_in (settle b s) ≡ b
unfolding settle
book_in-settle s b many kinds =
    ap (λ (ts : List ℕ). book_of b.slots ts (counts_of b)) (tallied-tallies s.reg (tallies_of b) (all-records b kinds ∙ sym many))
    ∙ parts-make b kinds

-- what is not a tally stays
pub tallied-field : {A : Type 0} (f : Station → A) → ((r : Station) (t : ℕ) → f (with_tally r t) ≡ f r) → (reg : List Station) (ts : List ℕ)
    → map f (tallied reg ts) ≡ map f reg
unfolding tallied
tallied-field f same [] ts = refl
tallied-field f same (r ∷ reg) [] = refl
tallied-field {A} f same (r ∷ reg) (t ∷ ts) = ap₂ (λ (x : A) (l : List A). x ∷ l) (same r t) (tallied-field f same reg ts)

pub tallied-length : (reg : List Station) (ts : List ℕ) → length (tallied reg ts) ≡ length reg
unfolding tallied
tallied-length [] ts = refl
tallied-length (r ∷ reg) [] = refl
tallied-length (r ∷ reg) (t ∷ ts) = ap suc (tallied-length reg ts)
