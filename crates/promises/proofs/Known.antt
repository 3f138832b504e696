-- Who a holder number is by the records' sources: a mark, a freeing and a release by name, and a record that is taken over, which no slot
-- time names.
-- Assumes nothing.
use Prim.Native.Nat.{ℕ, suc, ◌+◌, ◌-◌, ◌<◌}
use mathlib.Core.Path.{◌≡◌, refl, sym, ap, ◌∙◌}
use mathlib.Core.Logic.{◌⊎◌, inl, inr}
use mathlib.Core.List.{List}
use native.Mathlib.Decide.{ℕ_discrete}
use native.Mathlib.Omega.{arith}
use borrow.Author.Tests.{eq-eqb, ne_eqb}
use lib.ListN.{length, get_or, set, drop}
use lib.Seq.{get_or-set_same, get_or-set_other, set-get_or, get_or-take, get_or-drop}
use Rattle.laws.proofs.Counting.{hit_same, count_at}
use Rattle.limits.specs.Limits.{records}
use Rattle.book.specs.Book.{Book, ours, holders, holder, tallies_of}
use Rattle.book.specs.Sound.{Sound}
use Rattle.book.proofs.Steps.{kept-own, kept-other}
use Rattle.book.proofs.Lengths.{all-records}
use Rattle.announcing.proofs.Effect.{marked_for, freed_of}
use Rattle.hearing.specs.Station.{record_of}
use Rattle.hearing.specs.Promises.{First}
use Rattle.hearing.proofs.Promised.{record-lowest}
use Rattle.promises.specs.History.{marked_by, freed_by, given_up, who_of}
use Rattle.promises.specs.History.Who.{nobody, us, station}

-- ---- a holder number

module _ (l : List ℕ) (x : ℕ) where
  pub who-nobody : x ≡ 0 → who_of l x ≡ nobody
  unfolding who_of
  who-nobody e = rw (eq-eqb x 0 e)

  pub who-us : x ≡ ours → who_of l x ≡ us
  unfolding who_of
  who-us e = rw (ne_eqb x 0 (omega arith), eq-eqb x ours e)

  who-station : (j : ℕ) → j < records → x ≡ suc j → who_of l x ≡ station (get_or l j 0)
  unfolding who_of
  who-station j p e =
      let q : x - 1 ≡ j = omega arith in
      rw (ne_eqb x 0 (omega arith), ne_eqb x ours (omega arith)) (ap (λ (y : ℕ). station (get_or l y 0)) q)

-- none, own or the record j
data Kind (x : ℕ) : Type 0 where
  is_none : x ≡ 0 → Kind x
  is_ours : x ≡ ours → Kind x
  is-record : (j : ℕ) → j < records → x ≡ suc j → Kind x

kind : (x : ℕ) → x < holders → Kind x
kind x p = go (ℕ_discrete x 0) (ℕ_discrete x ours)
  where
    go : Dec (x ≡ 0) → Dec (x ≡ ours) → Kind x
    go (yes e) d = is_none e
    go (no n) (yes e) = is_ours e
    go (no n) (no m) = is-record (x - 1) (omega arith) (omega arith)

-- ---- a mark, a freeing, a release

module _ (h x : ℕ) where
  marked-own : x ≡ ours → marked_for h x ≡ x
  unfolding marked_for
  marked-own e = rw (kept-own x e)

  marked_other : (x ≡ ours → ⊥) → marked_for h x ≡ h
  unfolding marked_for
  marked_other n = rw (kept-other x n)

  freed-held : x ≡ h → freed_of h x ≡ 0
  unfolding freed_of
  freed-held e = rw (eq-eqb x h e)

  freed-other : (x ≡ h → ⊥) → freed_of h x ≡ x
  unfolding freed_of
  freed-other n = rw (ne_eqb x h n)

pub who-given-up : (l : List ℕ) (x : ℕ) → x < holders → who_of l (freed_of ours x) ≡ given_up (who_of l x)
unfolding given_up
who-given-up l x p = go (kind x p)
  where
    go : Kind x → who_of l (freed_of ours x) ≡ given_up (who_of l x)
    go (is_none e) = rw (freed-other ours x (λ q. omega arith), who-nobody l x e)
    go (is_ours e) = rw (freed-held ours x e, who-us l x e, who-nobody l 0 refl)
    go (is-record j r e) = rw (freed-other ours x (λ q. omega arith), who-station l x j r e)

-- no two records have one source
abbrev pub Apart : List ℕ → Type 0
Apart l = (i j : ℕ) → i < records → j < records → get_or l i 0 ≡ get_or l j 0 → (get_or l i 0 ≡ 0 → ⊥) → i ≡ j

-- k is the record of the station s
module _ (l : List ℕ) (apart : Apart l) (s k : ℕ) (known : 0 < s) (there : k < records) (mine : get_or l k 0 ≡ s) where
  who-mine : who_of l (suc k) ≡ station s
  who-mine = who-station l (suc k) k there refl ∙ ap station mine

  pub who-marked : (x : ℕ) → x < holders → who_of l (marked_for (suc k) x) ≡ marked_by s (who_of l x)
  unfolding marked_by
  who-marked x p = go (kind x p)
    where
      go : Kind x → who_of l (marked_for (suc k) x) ≡ marked_by s (who_of l x)
      go (is_none e) = rw (marked_other (suc k) x (λ q. omega arith), who-nobody l x e) who-mine
      go (is_ours e) = rw (marked-own (suc k) x e, who-us l x e)
      go (is-record j r e) = rw (marked_other (suc k) x (λ q. omega arith), who-station l x j r e) who-mine

  pub who-freed : (x : ℕ) → x < holders → who_of l (freed_of (suc k) x) ≡ freed_by s (who_of l x)
  unfolding freed_by
  who-freed x p = go (kind x p) (ℕ_discrete x (suc k))
    where
      another : (j : ℕ) → j < records → x ≡ suc j → (x ≡ suc k → ⊥) → get_or l j 0 ≡ s → ⊥
      another j r e n z = n (e ∙ ap suc (apart j k r there (z ∙ sym mine) (λ o. omega arith)))

      go : Kind x → Dec (x ≡ suc k) → who_of l (freed_of (suc k) x) ≡ freed_by s (who_of l x)
      go (is_none e) d = rw (freed-other (suc k) x (λ q. omega arith), who-nobody l x e)
      go (is_ours e) d = rw (freed-other (suc k) x (λ q. omega arith), who-us l x e)
      go (is-record j r e) (yes q) =
          let same : j ≡ k = omega arith in
          rw (freed-held (suc k) x q, who-station l x j r e, who-nobody l 0 refl, eq-eqb (get_or l j 0) s (ap (λ (y : ℕ). get_or l y 0) same ∙ mine))
      go (is-record j r e) (no n) = rw (freed-other (suc k) x n, who-station l x j r e, ne_eqb (get_or l j 0) s (another j r e n))

-- ---- a record is taken over only where it holds nothing

-- k has the source s, or no record has and k's tally is 0
abbrev pub Meant : Book → List ℕ → ℕ → ℕ → Type 0
Meant b l s k = (get_or l k 0 ≡ s) ⊎ (((j : ℕ) → j < records → get_or l j 0 ≡ s → ⊥) × (get_or b.tallies (suc k) 0 ≡ 0))

tally-is : (b : Book) (k : ℕ) → k < records → get_or (tallies_of b) k 0 ≡ get_or b.tallies (suc k) 0
unfolding tallies_of
tally-is b k p =
    let next : 1 + k ≡ suc k = omega arith in
    get_or-take records (drop 1 b.tallies) k 0 p ∙ get_or-drop 1 b.tallies k 0 ∙ ap (λ (y : ℕ). get_or b.tallies y 0) next

module _ (b : Book) (l : List ℕ) (s : ℕ) (sound : Sound b) (many : length l ≡ records) where
  -- the record of a station is such a one
  pub meant : record_of l (tallies_of b) s < records → Meant b l s (record_of l (tallies_of b) s)
  meant p = go (record_of l (tallies_of b) s) p (record-lowest l (tallies_of b) s many (all-records b sound.kinds) p)
    where
      go : (k : ℕ) → k < records → First s l k ⊎ (((j : ℕ) → j < records → get_or l j 0 ≡ s → ⊥) × First 0 (tallies_of b) k) → Meant b l s k
      go k q (inl f) = inl f.there
      go k q (inr f) = inr (f.0, sym (tally-is b k q) ∙ f.1.there)

  module _ (k : ℕ) (there : k < records) (m : Meant b l s k) where
    set_same : get_or l k 0 ≡ s → set l k s ≡ l
    set_same e = ap (set l k) (sym e) ∙ set-get_or l k 0

    pub mine-now : get_or (set l k s) k 0 ≡ s
    mine-now = get_or-set_same l k s 0 (omega arith)

    -- no place is k's where k's tally is 0
    none-held : get_or b.tallies (suc k) 0 ≡ 0 → (i : ℕ) → i < length b.slots → holder b i ≡ suc k → ⊥
    none-held z i p e =
        omega (arith, count_at (suc k) b.slots i p, hit_same (suc k) (holder b i) e, sound.right (suc k) (omega arith))

    -- so every place keeps its holder's name
    pub who-taken : (i : ℕ) → i < length b.slots → who_of (set l k s) (holder b i) ≡ who_of l (holder b i)
    who-taken i p = go m (kind (holder b i) (sound.held i p))
      where
        go : Meant b l s k → Kind (holder b i) → who_of (set l k s) (holder b i) ≡ who_of l (holder b i)
        go (inl e) d = ap (λ (r : List ℕ). who_of r (holder b i)) (set_same e)
        go (inr n) (is_none e) = who-nobody (set l k s) _ e ∙ sym (who-nobody l _ e)
        go (inr n) (is_ours e) = who-us (set l k s) _ e ∙ sym (who-us l _ e)
        go (inr n) (is-record j r e) =
            who-station (set l k s) _ j r e
            ∙ ap station (get_or-set_other l k j s 0 (λ q. none-held n.1 i p (e ∙ ap suc q)))
            ∙ sym (who-station l _ j r e)

    -- and sources differ as before
    pub still-apart : Apart l → Apart (set l k s)
    still-apart apart i j p q = go m (ℕ_discrete i k) (ℕ_discrete j k)
      where
        at : (y : ℕ) → y ≡ k → get_or (set l k s) y 0 ≡ s
        at y e = ap (λ (z : ℕ). get_or (set l k s) z 0) e ∙ mine-now

        off : (y : ℕ) → (y ≡ k → ⊥) → get_or (set l k s) y 0 ≡ get_or l y 0
        off y n = get_or-set_other l k y s 0 n

        go : Meant b l s k → Dec (i ≡ k) → Dec (j ≡ k) → get_or (set l k s) i 0 ≡ get_or (set l k s) j 0 → (get_or (set l k s) i 0 ≡ 0 → ⊥) → i ≡ j
        go (inl e) x y = rw (set_same e) (apart i j p q)
        go (inr n) (yes x) (yes y) = λ e z. x ∙ sym y
        go (inr n) (yes x) (no y) = λ e z. absurd (n.0 j q (sym (off j y) ∙ sym e ∙ at i x))
        go (inr n) (no x) (yes y) = λ e z. absurd (n.0 i p (sym (off i x) ∙ e ∙ at j y))
        go (inr n) (no x) (no y) = λ e z. apart i j p q (sym (off i x) ∙ e ∙ off j y) (λ o. z (off i x ∙ o))
