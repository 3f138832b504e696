-- Looking the holders of each slot up comes to the choice.
--     better-is    a slot leaves the best that its worth does.        best_of      so the best keys are those of the window
--     lost-best    without our own position no slot has a key.        free-is      a slot is free by the book where its worth says so
--     drawn-is     the draw picks what the choice says
-- Assumes nothing.
use mathlib.Core.Path.{◌≡◌, refl, sym, ap, subst, ◌∙◌}
use mathlib.Core.Bool.{Bool, true, false}
use mathlib.Core.List.{List}
use Prim.Native.Nat.{ℕ, zero, suc, ◌+◌, ◌-◌, ◌*◌, ◌%◌, ◌≤◌, ◌<◌, min, max}
use native.Mathlib.Decide.{ℕ_discrete, dec_lt}
use native.Mathlib.Numerals.{add-one}
use native.Mathlib.Omega.{arith}
use lib.ListN.{get_or}
use lib.Dec.{leb}
use borrow.Author.Tests.{le-ltb}
use Rattle.laws.specs.Tests.{pick, both, either}
use Rattle.laws.specs.Counting.{one}
use Rattle.laws.specs.Ranges.{least, how_many}
use Rattle.laws.proofs.Tests.{both-no, either-false, pick-has}
use Rattle.laws.proofs.Those.{those-ext}
use Rattle.limits.specs.Limits.{frame_slots, slot_times, widest, most_time_out}
use Rattle.ship.specs.declared.Ship.{Ship}
use Rattle.ship.specs.Ship.{blank}
use Rattle.book.specs.Book.{is_record, record_at, place}
use Rattle.walks.specs.Folded.{folded}
use Rattle.distance.specs.Distance.{we_known, own_level, base_level, held_off_level, top, level_of}
use Rattle.candidates.specs.declared.Window.{Window}
use Rattle.candidates.specs.declared.rounds.Best.{Best}
use Rattle.candidates.specs.declared.slot.Slot.{Slot}
use Rattle.candidates.specs.Slot.{View, holder_at, frame, is_none, is_own, station_of, earlier}
use Rattle.candidates.specs.Window.{is_free, is_available, free, rank, candidate, candidates, picked}
use Rattle.candidates.specs.Rounds.{key_of, keys, cut_of, within, in_cut, BestIn, better_of, cut_after}
use Rattle.candidates.specs.Choice.{worth_in, candidates_in, choice}
use Rattle.candidates.specs.Scanning.{level, worth_by, slot_of, free_in, free_upto_four, level_by, level_at, held_in, slot_level, none_yet, bound_of, candidate_by, drawn}
use Rattle.candidates.proofs.Four.{best_none, best-next, better-none, better-low, cut-is}
use Rattle.candidates.proofs.Ranking.{candidate-cut, key-not}
use Rattle.candidates.proofs.Keys.{key-zero, key-mid, key-big, over-3}
use Rattle.candidates.proofs.Cutting.{reused-is}
use Rattle.candidates.proofs.Looking.{least-same, level_in, met, met-low}
use Rattle.candidates.proofs.Slots.{worth-earlier, worth-free, worth-held}
use Rattle.candidates.proofs.Levels.{comes, free-worth, lost-worth}

-- ---- a slot whose holders are looked up

module _ (v : View) where
  -- a holder's level, its record looked up
  level-at : (h : ℕ) (x : Slot) → x.ship ≡ v.ship → level_at v.reg h x ≡ level v h
  unfolding level_at level_by level record_at station_of
  level-at h x e = go (is_record h)
    where
      go : (t : Bool)
          → pick (is_none h) top (pick (is_own h) own_level (pick t (level_of x.ship (get_or v.reg (pick t (h - 1) 0) blank)) base_level))
          ≡ pick (is_none h) top (pick (is_own h) own_level (pick t (level_of v.ship (get_or v.reg (h - 1) blank)) base_level))
      go true = ap (λ (p : Ship). pick (is_none h) top (pick (is_own h) own_level (level_of p (get_or v.reg (h - 1) blank)))) e
      go false = refl

-- ---- up to its bound a slot is none of the best

-- its key is not above the fourth
low-key : (b : Best) (low i : ℕ) → low ≤ bound_of b → key_of (worth_by false low) i ≤ b.fourth
unfolding bound_of
low-key b low i l = go (ℕ_discrete low top) (ℕ_discrete (low - held_off_level) 0) (dec_lt (low - held_off_level) top)
  where
    by : (w : ℕ) → w ≡ worth_by false low → key_of w i ≤ b.fourth → key_of (worth_by false low) i ≤ b.fourth
    by w e q = subst (λ (x : ℕ). key_of x i ≤ b.fourth) e q

    go : Dec (low ≡ top) → Dec (low - held_off_level ≡ 0) → Dec (low - held_off_level < top) → key_of (worth_by false low) i ≤ b.fourth
    go (yes e) z t = by top (worth-free false low refl e) (omega (arith, key-big top i (omega arith) (omega arith)))
    go (no e) (yes z) t = by (low - held_off_level) (worth-held false low refl e) (omega (arith, key-zero (low - held_off_level) i z))
    go (no e) (no z) (yes t) = by (low - held_off_level) (worth-held false low refl e) (omega (arith, key-mid (low - held_off_level) i (omega (arith, z)) t))
    go (no e) (no z) (no t) = by (low - held_off_level) (worth-held false low refl e) (omega (arith, key-big (low - held_off_level) i (omega (arith, z)) (omega arith)))

-- so two levels that agree above the bound leave the same best
same-best : (ws : ℕ → ℕ) (n : ℕ) (b : Best) → BestIn ws n b → (low l i : ℕ) → max (bound_of b) low ≡ max (bound_of b) l
    → better_of b (worth_by false low) i ≡ better_of b (worth_by false l) i
same-best ws n b h low l i e = go (dec_lt (bound_of b) low)
  where
    go : Dec (bound_of b < low) → better_of b (worth_by false low) i ≡ better_of b (worth_by false l) i
    go (yes p) = let q : low ≡ l = omega arith in ap (λ (x : ℕ). better_of b (worth_by false x) i) q
    go (no p) =
        sym (better-low ws n b h (worth_by false low) i (low-key b low i (omega arith)))
        ∙ better-low ws n b h (worth_by false l) i (low-key b l i (omega arith))

-- ---- the slots of a window

module _ (v : View) (w : Window) where
  -- the slot i, looked at where the best so far are b
  abbrev slot_at : Best → ℕ → Slot
  slot_at b = slot_of v.slots w v.ship (bound_of b)

  -- the best keys after n slots
  abbrev pub best_after : ℕ → Best
  best_after = folded none_yet slot_at (slot_level v.reg v.slots) (λ b x low i. better_of b (worth_by x.earlier low) i)

  module _ (k : we_known v.ship ≡ true) where
    abbrev ws : ℕ → ℕ
    ws = worth_in v w

    module _ (b : Best) (i : ℕ) where
      abbrev x : Slot
      x = slot_at b i

      abbrev at : ℕ
      at = w.first + i

      abbrev lowest : ℕ
      lowest = least top (λ j. level v (frame v.slots w.present at j)) (suc w.timeout)

      -- what the code makes of it
      abbrev better : Best
      better = better_of b (worth_by x.earlier (slot_level v.reg v.slots x)) i

      parts : (x.earlier ≡ earlier v.slots w.present at) × (x.times ≡ pick (earlier v.slots w.present at) 0 (w.timeout + 1)) × (x.ship ≡ v.ship) × (x.bound ≡ bound_of b)
      unfolding slot_of
      parts = (refl, refl, refl, refl)

      holder-is : (j : ℕ) → held_in v.slots x j ≡ frame v.slots w.present at j
      unfolding held_in slot_of holder_at
      holder-is j =
          let e : (place w.present at + frame_slots * j) % slot_times ≡ place w.present (at + frame_slots * j) = omega arith in
          ap (λ (p : ℕ). get_or v.slots p 0) e

      level-is : (j : ℕ) → level_in v.reg v.slots x j ≡ level v (frame v.slots w.present at j)
      level-is j = level-at v (held_in v.slots x j) x parts.2 ∙ ap (level v) (holder-is j)

      looked : x.times ≡ w.timeout + 1 → max (bound_of b) (slot_level v.reg v.slots x) ≡ max (bound_of b) lowest
      unfolding slot_level
      looked e =
          ap (λ (c : ℕ). max c (met v.reg v.slots x x.times)) (sym parts.3)
          ∙ met-low v.reg v.slots x x.times
          ∙ ap (λ (c : ℕ). max c (least top (level_in v.reg v.slots x) x.times)) parts.3
          ∙ ap (max (bound_of b)) (ap (least top (level_in v.reg v.slots x)) (e ∙ add-one w.timeout)
          ∙ least-same top (level_in v.reg v.slots x) (λ j. level v (frame v.slots w.present at j)) (suc w.timeout) (λ j l. level-is j))

      is : (t : Bool) → earlier v.slots w.present at ≡ t → worth_by t lowest ≡ ws i
      is t e = ap (λ (u : Bool). worth_by u lowest) (sym e) ∙ (comes v w.present at w.timeout k).worths

      better-is : (n : ℕ) → BestIn ws n b → better ≡ better_of b (ws i) i
      better-is n h = go (earlier v.slots w.present at) refl
        where
          by : (t : Bool) → earlier v.slots w.present at ≡ t → better ≡ better_of b (worth_by t (slot_level v.reg v.slots x)) i
          by t e = ap (λ (u : Bool). better_of b (worth_by u (slot_level v.reg v.slots x)) i) (parts.0 ∙ e)

          go : (t : Bool) → earlier v.slots w.present at ≡ t → better ≡ better_of b (ws i) i
          go true e =
              by true e
              ∙ ap (λ (u : ℕ). better_of b u i) (sym (worth-earlier true (slot_level v.reg v.slots x) refl) ∙ worth-earlier true lowest refl ∙ is true e)
          go false e =
              by false e
              ∙ same-best ws n b h (slot_level v.reg v.slots x) lowest i (looked (parts.1 ∙ ap (λ (u : Bool). pick u 0 (w.timeout + 1)) e))
              ∙ ap (λ (u : ℕ). better_of b u i) (is false e)

    pub best_of : (n : ℕ) → n ≤ 512 → BestIn (worth_in v w) n (best_after n)
    unfolding folded
    best_of zero l = best_none ws
    best_of (suc n) l =
        subst (λ (j : ℕ). BestIn ws j (best_after (suc n))) (add-one n)
        (best-next ws n (best_after n) (omega arith) (best_of n (omega arith)) (ws n) (best_after (suc n)) refl (better-is (best_after n) n n (best_of n (omega arith))))

-- ---- a window where our own position is not known

module _ (v : View) (w : Window) (k : we_known v.ship ≡ false) where
  no_key : (i : ℕ) → key_of (worth_in v w i) i ≡ 0
  no_key i = key-not (worth_in v w i) i (lost-worth v w.present (w.first + i) w.timeout k)

  pub lost-best : (n : ℕ) → n ≤ 512 → BestIn (worth_in v w) n none_yet
  lost-best zero l = best_none (worth_in v w)
  lost-best (suc n) l =
      subst (λ (j : ℕ). BestIn (worth_in v w) j none_yet) (add-one n)
      (best-next (worth_in v w) n none_yet (omega arith) (lost-best n (omega arith)) (worth_in v w n) none_yet refl
      (better-none none_yet (worth_in v w n) n (no_key n)))

-- ---- the draw

many-ext : (p q : ℕ → Bool) (n : ℕ) → ((i : ℕ) → p i ≡ q i) → how_many p n ≡ how_many q n
unfolding how_many
many-ext p q zero e = refl
many-ext p q (suc n) e = omega (arith, many-ext p q n e, ap one (e n))

either-swap : (a b : Bool) → either a b ≡ either b a
either-swap true true = refl
either-swap true false = refl
either-swap false true = refl
either-swap false false = refl

module _ (v : View) (w : Window) (fits : w.width ≤ widest) where
  abbrev wt : ℕ → ℕ
  wt = worth_in v w

  pub free-is : (i : ℕ) → free_in v.slots w i ≡ is_free (worth_in v w i)
  unfolding free_in
  free-is i = free-worth v w.present (w.first + i) w.timeout

  frees : free_upto_four v.slots w ≡ min 4 (free wt w.width)
  unfolding free_upto_four free
  frees = ap (min 4) (many-ext (free_in v.slots w) (λ i. is_free (wt i)) w.width free-is)

  abbrev f : ℕ
  f = free_upto_four v.slots w

  module _ (b : Best) where
    few-free : f < 4 → BestIn wt w.width b → (j : ℕ) → j < w.width → candidate_by v.slots w f b j ≡ candidate wt w.width j
    unfolding candidate_by within
    few-free l h j i =
        ap (λ (t : Bool). either t (free_in v.slots w j)) (reused-is wt w.width (omega arith) j i f b h)
        ∙ ap (either (both (is_available (wt j)) (leb (cut_after f b) (key_of (wt j) j)))) (free-is j)
        ∙ either-swap (both (is_available (wt j)) (leb (cut_after f b) (key_of (wt j) j))) (is_free (wt j))
        ∙ ap (λ (c : ℕ). in_cut wt c j) (cut-is wt w.width f b h ∙ ap (cut_of (keys wt) w.width) needed)
        ∙ sym (candidate-cut wt w.width (omega arith) j i)
      where
        needed : 4 - f ≡ 4 - free wt w.width
        needed = omega (arith, frees)

    four-free : f ≡ 4 → (j : ℕ) → candidate_by v.slots w f b j ≡ candidate wt w.width j
    unfolding candidate_by candidate
    four-free e j =
        ap (λ (t : Bool). either t (free_in v.slots w j)) (sym (over-3 f b j (omega arith)))
        ∙ free-is j
        ∙ sym (ap (either (is_free (wt j))) (ap (both (is_available (wt j))) (le-ltb (rank wt w.width j) (4 - free wt w.width) (omega (arith, frees)))
        ∙ both-no (is_available (wt j))) ∙ either-false (is_free (wt j)))

    pub drawn-is : (f < 4 → BestIn wt w.width b) → (d : ℕ) → drawn v.slots w (free_upto_four v.slots w) b d ≡ choice v w d
    unfolding drawn choice candidates_in candidates
    drawn-is h d =
        ap (λ (cs : List ℕ). picked w.first cs d)
        (those-ext (candidate_by v.slots w f b) (candidate wt w.width) 0 w.width (λ j a i. by (dec_lt f 4) j (omega arith)))
      where
        by : Dec (f < 4) → (j : ℕ) → j < w.width → candidate_by v.slots w f b j ≡ candidate wt w.width j
        by (yes l) j i = few-free l (h l) j i
        by (no l) j i = four-free (omega (arith, frees)) j

-- ---- what the look at a slot needs

pub slot-times : (slots : List ℕ) (w : Window) (p : Ship) (bound i : ℕ) → w.timeout < most_time_out + 1 → (slot_of slots w p bound i).times < 9
unfolding slot_of
slot-times slots w p bound i m =
    pick-has (λ (n : ℕ). n < 9) (earlier slots w.present (w.first + i)) 0 (w.timeout + 1) (omega arith) (omega arith)

pub slot-from : (slots : List ℕ) (w : Window) (p : Ship) (bound i : ℕ) → (slot_of slots w p bound i).from < slot_times
unfolding slot_of
slot-from slots w p bound i = omega arith
