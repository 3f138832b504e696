-- A slot's state by the lowest level of its times, our own position being known.
--     by-level     its worth.        far-level    the distance of an available one.        free-worth   it is free where the book says so
--     lost         what is left where our own position is not known
-- Assumes nothing.
use mathlib.Core.Path.{◌≡◌, refl, sym, ap, subst, ◌∙◌}
use mathlib.Core.Bool.{Bool, true, false, not}
use Prim.Native.Nat.{ℕ, zero, suc, ◌+◌, ◌-◌, ◌≤◌, ◌<◌, min, max}
use native.Mathlib.Decide.{ℕ_discrete, dec_le, dec_lt}
use native.Mathlib.Numerals.{add-one}
use native.Mathlib.Omega.{arith}
use lib.Dec.{ltb}
use borrow.Author.Tests.{eq-eqb, ne_eqb, lt-ltb, le-ltb, eqb-true}
use Rattle.laws.specs.Tests.{pick, both, either}
use Rattle.laws.specs.Counting.{one}
use Rattle.laws.specs.Ranges.{some, every, least}
use Rattle.laws.proofs.Tests.{by-test, both-no, never}
use Rattle.laws.proofs.Ranges.{least-le}
use Rattle.laws.proofs.Sums.{one-true, one-false, true-one, false-one, one-both, one-either}
use Rattle.ship.specs.declared.Ship.{Ship}
use Rattle.ship.specs.declared.Station.{Station}
use Rattle.book.specs.Book.{ours}
use Rattle.distance.specs.Distance.{we_known, is_known, gap_to, top, level_of}
use Rattle.distance.proofs.Levels.{levels-below-top, level-base, level-unknown, level-held, level-gap}
use Rattle.candidates.specs.Slot.{SlotState, Own, Earlier, Free, OwnUnknown, Base, Unknown, HeldOff, Far, View, frame, is_own, is_none, station_of, is_base, is_unknown, is_held_off, gap, earlier, state_of}
use Rattle.candidates.specs.Window.{worth, is_free, is_available}
use Rattle.candidates.specs.Scanning.{level, worth_by, free_at}
use Rattle.candidates.proofs.Ranking.{avail-zero, avail-big}
use Rattle.book.proofs.Holders.{is-record, nobody-has-none, others-have-none}
use Rattle.candidates.proofs.Slots.{worth-earlier, worth-free, worth-held}

-- ---- the level of a station

-- what it says of the station: the tests in their order
module _ (p : Ship) (s : Station) where
  record Level? : Type 0 where
    pub base : one s.base ≡ min 1 (3 - level_of p s)
    pub some : 2 ≤ level_of p s
    pub unknown : 3 ≤ level_of p s → one (not (is_known s)) ≡ min 1 (4 - level_of p s)
    pub held : 4 ≤ level_of p s → one (ltb 0 s.hold) ≡ min 1 (5 - level_of p s)
    pub far : 5 ≤ level_of p s → 5 + gap_to p s ≡ level_of p s

  not_yes : (b : Bool) → b ≡ true → one (not b) ≡ 0
  not_yes b e = ap (λ (t : Bool). one (not t)) e ∙ one-false refl

  not-no : (b : Bool) → b ≡ false → one (not b) ≡ 1
  not-no b e = ap (λ (t : Bool). one (not t)) e ∙ one-true refl

  station-level : Level?
  station-level = go s.base refl (is_known s) refl (dec_lt 0 s.hold)
    where
      go : (b : Bool) → s.base ≡ b → (q : Bool) → is_known s ≡ q → Dec (0 < s.hold) → Level?
      go true eb q eq h =
          let l = level-base p s eb in
          record {
            base = omega (arith, one-true eb, l);
            some = omega (arith, l);
            unknown = λ n. absurd (omega (arith, l, n));
            held = λ n. absurd (omega (arith, l, n));
            far = λ n. absurd (omega (arith, l, n));
          }
      go false eb false eq h =
          let l = level-unknown p s eb eq in
          record {
            base = omega (arith, one-false eb, l);
            some = omega (arith, l);
            unknown = λ n. omega (arith, not-no (is_known s) eq, l);
            held = λ n. absurd (omega (arith, l, n));
            far = λ n. absurd (omega (arith, l, n));
          }
      go false eb true eq (yes h) =
          let l = level-held p s eb eq h in
          record {
            base = omega (arith, one-false eb, l);
            some = omega (arith, l);
            unknown = λ n. omega (arith, not_yes (is_known s) eq, l);
            held = λ n. omega (arith, one-true (lt-ltb 0 s.hold h), l);
            far = λ n. absurd (omega (arith, l, n));
          }
      go false eb true eq (no h) =
          let l = far-is eb eq (omega arith) in
          record {
            base = omega (arith, one-false eb, l);
            some = omega (arith, l);
            unknown = λ n. omega (arith, not_yes (is_known s) eq, l);
            held = λ n. omega (arith, one-false (le-ltb 0 s.hold (omega arith)), l);
            far = λ n. l;
          }
        where
          far-is : s.base ≡ false → is_known s ≡ true → s.hold ≤ 0 → 5 + gap_to p s ≡ level_of p s
          far-is eb eq h = level-gap p s eb eq h

-- ---- the level of a holder

module _ (v : View) (k : we_known v.ship ≡ true) (h : ℕ) where
  abbrev s : Station
  s = station_of v.reg h

  record Level : Type 0 where
    pub own : 0 ≤ level v h → one (is_own h) ≡ min 1 (1 - level v h)
    pub none : one (is_none h) ≡ 1 - (top - level v h)
    pub base : 0 ≤ level v h → one (is_base v.reg h) ≡ min 1 (3 - level v h)
    pub unknown : 3 ≤ level v h → one (is_unknown v.reg h) ≡ min 1 (4 - level v h)
    pub held : 4 ≤ level v h → one (is_held_off v.reg h) ≡ min 1 (5 - level v h)
    pub near : 5 ≤ level v h → min (gap v h) (top - 5) + 5 ≡ level v h

  -- its tests as numbers
  none-yes : h ≡ 0 → one (is_none h) ≡ 1
  unfolding is_none
  none-yes e = one-true (eq-eqb h 0 e)

  none-no : (h ≡ 0 → ⊥) → one (is_none h) ≡ 0
  unfolding is_none
  none-no e = one-false (ne_eqb h 0 e)

  own-yes : h ≡ ours → one (is_own h) ≡ 1
  unfolding is_own
  own-yes e = one-true (eq-eqb h ours e)

  own-no : (h ≡ ours → ⊥) → one (is_own h) ≡ 0
  unfolding is_own
  own-no e = one-false (ne_eqb h ours e)

  -- nobody
  module _ (z : h ≡ 0) where
    nobody-level : level v h ≡ top
    unfolding level is_none
    nobody-level = simp (eq-eqb h 0 z)

    nobody-base : one (is_base v.reg h) ≡ 0
    unfolding is_base is_none
    nobody-base = one-false (simp (eq-eqb h 0 z))

    nobody-unknown : one (is_unknown v.reg h) ≡ 0
    unfolding is_unknown
    nobody-unknown = one-false (simp (nobody-has-none h z))

    nobody-held : one (is_held_off v.reg h) ≡ 0
    unfolding is_held_off
    nobody-held = one-false (simp (nobody-has-none h z))

    nobody-gap : gap v h ≡ top
    unfolding gap
    nobody-gap = simp (nobody-has-none h z)

    nobody : Level
    nobody =
        record {
          own = λ _. omega (arith, nobody-level, own-no (λ q. omega arith));
          none = omega (arith, nobody-level, none-yes z);
          base = λ _. omega (arith, nobody-level, nobody-base);
          unknown = λ _. omega (arith, nobody-level, nobody-unknown);
          held = λ _. omega (arith, nobody-level, nobody-held);
          near = λ _. omega (arith, nobody-level, nobody-gap);
        }

  module _ (z : h ≡ 0 → ⊥) where
    -- no record: ourselves, or one that counts as a base station
    over-base : ours ≤ h → one (is_base v.reg h) ≡ 1
    unfolding is_base is_none
    over-base l = one-true (simp (ne_eqb h 0 z, others-have-none h l))

    own-level : h ≡ ours → level v h ≡ 0
    unfolding level is_none is_own
    own-level o = simp (ne_eqb h 0 z, eq-eqb h ours o)

    ourselves : h ≡ ours → Level
    ourselves o =
        record {
          own = λ _. omega (arith, own-level o, own-yes o);
          none = omega (arith, own-level o, none-no z);
          base = λ _. omega (arith, own-level o, over-base (omega arith));
          unknown = λ q. absurd (omega (arith, own-level o, q));
          held = λ q. absurd (omega (arith, own-level o, q));
          near = λ q. absurd (omega (arith, own-level o, q));
        }

    module _ (n : h ≡ ours → ⊥) where
      over-level : ours ≤ h → level v h ≡ 2
      unfolding level is_none is_own
      over-level l = simp (ne_eqb h 0 z, ne_eqb h ours n, others-have-none h l)

      without : ours ≤ h → Level
      without l =
          record {
            own = λ _. omega (arith, over-level l, own-no n);
            none = omega (arith, over-level l, none-no z);
            base = λ _. omega (arith, over-level l, over-base l);
            unknown = λ q. absurd (omega (arith, over-level l, q));
            held = λ q. absurd (omega (arith, over-level l, q));
            near = λ q. absurd (omega (arith, over-level l, q));
          }

      -- a station
      module _ (l : h < ours) where
        its-level : level v h ≡ level_of v.ship s
        unfolding level is_none is_own
        its-level = simp (ne_eqb h 0 z, ne_eqb h ours n, is-record h (omega (arith, z)) l)

        its-base : one (is_base v.reg h) ≡ one s.base
        unfolding is_base is_none
        its-base = simp (ne_eqb h 0 z, is-record h (omega (arith, z)) l)

        its-unknown : one (is_unknown v.reg h) ≡ one (not (is_known s))
        unfolding is_unknown
        its-unknown = simp (is-record h (omega (arith, z)) l)

        its-hold : one (is_held_off v.reg h) ≡ one (ltb 0 s.hold)
        unfolding is_held_off
        its-hold = simp (is-record h (omega (arith, z)) l)

        its-gap : gap v h ≡ gap_to v.ship s
        unfolding gap
        its-gap = simp (is-record h (omega (arith, z)) l)

        station : Level
        station =
            let t = station-level v.ship s in
            let e = its-level in
            let b = levels-below-top v.ship s k in
            record {
              own = λ _. omega (arith, e, t.some, own-no n);
              none = omega (arith, e, b, none-no z);
              base = λ _. omega (arith, e, its-base, t.base);
              unknown = λ q. omega (arith, e, its-unknown, t.unknown (omega (arith, e, q)));
              held = λ q. omega (arith, e, its-hold, t.held (omega (arith, e, q)));
              near = λ q. omega (arith, e, b, its-gap, t.far (omega (arith, e, q)));
            }

  levels : Level
  levels = go (ℕ_discrete h 0) (ℕ_discrete h ours) (dec_lt h ours)
    where
      go : Dec (h ≡ 0) → Dec (h ≡ ours) → Dec (h < ours) → Level
      go (yes z) o l = nobody z
      go (no z) (yes o) l = ourselves z o
      go (no z) (no n) (yes l) = station z n l
      go (no z) (no n) (no l) = without z n (omega arith)

-- ---- the lowest of several

-- a function that rises keeps the smaller of two, one that falls turns it into the greater
rising : (f : ℕ → ℕ) → ((a b : ℕ) → a ≤ b → f a ≤ f b) → (a b : ℕ) → f (min a b) ≡ min (f a) (f b)
rising f up a b = go (dec_le a b)
  where
    go : Dec (a ≤ b) → f (min a b) ≡ min (f a) (f b)
    go (yes l) = let e : min a b ≡ a = omega arith in ap f e ∙ omega (arith, up a b l)
    go (no l) = let e : min a b ≡ b = omega arith in ap f e ∙ omega (arith, up b a (omega arith))

falling : (f : ℕ → ℕ) → ((a b : ℕ) → a ≤ b → f b ≤ f a) → (a b : ℕ) → f (min a b) ≡ max (f a) (f b)
falling f down a b = go (dec_le a b)
  where
    go : Dec (a ≤ b) → f (min a b) ≡ max (f a) (f b)
    go (yes l) = let e : min a b ≡ a = omega arith in ap f e ∙ omega (arith, down a b l)
    go (no l) = let e : min a b ≡ b = omega arith in ap f e ∙ omega (arith, down b a (omega arith))

-- a test that fails from the level K on, where all levels are at least k: some pass where the lowest is below K
some_below : (p : ℕ → Bool) (l : ℕ → ℕ) (k K : ℕ) → K ≤ top → ((i : ℕ) → k ≤ l i → one (p i) ≡ min 1 (K - l i)) → (n : ℕ) → k ≤ least top l n
    → one (some p n) ≡ min 1 (K - least top l n)
unfolding some least
some_below p l k K b e zero q = one-false refl ∙ omega arith
some_below p l k K b e (suc n) q =
    one-either (some p n) (p n)
    ∙ ap (λ (x : ℕ). max x (one (p n))) (some_below p l k K b e n (omega arith))
    ∙ ap (max (min 1 (K - least top l n))) (e n (omega arith))
    ∙ sym (falling (λ x. min 1 (K - x)) (λ x y m. omega arith) (least top l n) (l n))

module _ (v : View) (k : we_known v.ship ≡ true) (g : ℕ → ℕ) where
  abbrev low : ℕ → ℕ
  low = least top (λ i. level v (g i))

  at : (i : ℕ) → Level v k (g i)
  at i = levels v k (g i)

  -- all are nobody's where it is top
  every-none : (n : ℕ) → one (every (λ i. is_none (g i)) n) ≡ 1 - (top - low n)
  unfolding every least
  every-none zero = one-true refl ∙ omega arith
  every-none (suc n) =
      one-both (every (λ i. is_none (g i)) n) (is_none (g n))
      ∙ ap (λ (x : ℕ). min x (one (is_none (g n)))) (every-none n)
      ∙ ap (min (1 - (top - low n))) (at n).none
      ∙ sym (rising (λ x. 1 - (top - x)) (λ x y m. omega arith) (low n) (level v (g n)))

  -- from 5 on it tells the nearest holder's distance
  nearest : (n : ℕ) → 5 ≤ low n → min (least top (λ i. gap v (g i)) n) (top - 5) + 5 ≡ low n
  unfolding least
  nearest zero q = refl
  nearest (suc n) q = near_step (least top (λ i. gap v (g i)) n) (gap v (g n)) _ _ (nearest n (omega arith)) ((at n).near (omega arith))
    where
      near_step : (G g L l : ℕ) → min G (top - 5) + 5 ≡ L → min g (top - 5) + 5 ≡ l → min (min G g) (top - 5) + 5 ≡ min L l
      near_step G g L l p q = omega arith

-- ---- the state of a slot

-- the distance of an available one
abbrev pub distance_of : SlotState → ℕ
distance_of Own = 0
distance_of Earlier = 0
distance_of Free = 0
distance_of OwnUnknown = 0
distance_of Base = 0
distance_of Unknown = 0
distance_of HeldOff = 0
distance_of (Far d) = d

module _ (v : View) (present at m : ℕ) where
  abbrev g : ℕ → ℕ
  g i = frame v.slots present at i

  -- the tests of the state
  abbrev an_own : Bool
  an_own = some (λ i. is_own (g i)) (suc m)

  abbrev all_none : Bool
  all_none = every (λ i. is_none (g i)) (suc m)

  abbrev a_base : Bool
  a_base = some (λ i. is_base v.reg (g i)) (suc m)

  abbrev an_unknown : Bool
  an_unknown = some (λ i. is_unknown v.reg (g i)) (suc m)

  abbrev a_held_off : Bool
  a_held_off = some (λ i. is_held_off v.reg (g i)) (suc m)

  abbrev near_gap : ℕ
  near_gap = least top (λ i. gap v (g i)) (suc m)

  module _ (k : we_known v.ship ≡ true) where
    abbrev lowest_one : ℕ
    lowest_one = least top (λ i. level v (g i)) (suc m)

    own-bit : one an_own ≡ min 1 (1 - lowest_one)
    own-bit = some_below (λ i. is_own (g i)) (λ i. level v (g i)) 0 1 (omega arith) (λ i q. (levels v k (g i)).own q) (suc m) (omega arith)

    none-bit : one all_none ≡ 1 - (top - lowest_one)
    none-bit = every-none v k g (suc m)

    base-bit : one a_base ≡ min 1 (3 - lowest_one)
    base-bit = some_below (λ i. is_base v.reg (g i)) (λ i. level v (g i)) 0 3 (omega arith) (λ i q. (levels v k (g i)).base q) (suc m) (omega arith)

    unknown-bit : 3 ≤ lowest_one → one an_unknown ≡ min 1 (4 - lowest_one)
    unknown-bit = some_below (λ i. is_unknown v.reg (g i)) (λ i. level v (g i)) 3 4 (omega arith) (λ i q. (levels v k (g i)).unknown q) (suc m)

    held-bit : 4 ≤ lowest_one → one a_held_off ≡ min 1 (5 - lowest_one)
    held-bit = some_below (λ i. is_held_off v.reg (g i)) (λ i. level v (g i)) 4 5 (omega arith) (λ i q. (levels v k (g i)).held q) (suc m)

    near-is : 5 ≤ lowest_one → lowest_one < top → near_gap ≡ lowest_one - 5
    near-is q l = go near_gap lowest_one (nearest v k g (suc m) q) l
      where
        go : (n L : ℕ) → min n (top - 5) + 5 ≡ L → L < top → n ≡ L - 5
        go n L e l = omega arith

    low-le : lowest_one ≤ top
    low-le = least-le top (λ i. level v (g i)) (suc m)

  -- the state by its tests
  abbrev held : SlotState
  held = pick a_base Base (pick an_unknown Unknown (pick a_held_off HeldOff (Far near_gap)))

  state-is : state_of v present at m
      ≡ pick an_own Own (pick (earlier v.slots present at) Earlier (pick all_none Free (pick (not (we_known v.ship)) OwnUnknown held)))
  unfolding state_of
  state-is = refl

  state-own : an_own ≡ true → state_of v present at m ≡ Own
  state-own o = state-is ∙ simp o

  module _ (o : an_own ≡ false) where
    state-earlier : earlier v.slots present at ≡ true → state_of v present at m ≡ Earlier
    state-earlier e = state-is ∙ simp (o, e)

    module _ (e : earlier v.slots present at ≡ false) where
      state-free : all_none ≡ true → state_of v present at m ≡ Free
      state-free n = state-is ∙ simp (o, e, n)

      module _ (n : all_none ≡ false) where
        state-rest : state_of v present at m ≡ pick (not (we_known v.ship)) OwnUnknown held
        state-rest = state-is ∙ simp (o, e, n)

        state-held : we_known v.ship ≡ true → state_of v present at m ≡ held
        state-held k = state-is ∙ simp (o, e, n, k)

  -- the slot's worth W and its distance D by its lowest level
  pub record Comes : Type 0 where
    pub worths : worth_by (earlier v.slots present at) (least top (λ i. level v (g i)) (suc m)) ≡ worth (state_of v present at m)
    pub near : distance_of (state_of v present at m) + 5 < top

  module _ (k : we_known v.ship ≡ true) where
    abbrev L : ℕ
    L = least top (λ i. level v (g i)) (suc m)

    pub comes : Comes
    comes = start (ℕ_discrete L 0) (earlier v.slots present at) refl (ℕ_discrete L top) (dec_lt L 3) (ℕ_discrete L 3) (ℕ_discrete L 4)
      where
        make : (e : Bool) → earlier v.slots present at ≡ e → (s : SlotState) → state_of v present at m ≡ s → worth_by e L ≡ worth s → distance_of s + 5 < top → Comes
        make e q s is w d =
            record {
              worths = ap (λ (t : Bool). worth_by t L) q ∙ w ∙ ap worth (sym is);
              near = omega (arith, ap distance_of is, d);
            }

        zero-worth : L ≤ 4 → L - 4 ≡ 0
        zero-worth l = omega arith

        not_none : (L ≡ top → ⊥) → all_none ≡ false
        not_none n = false-one all_none (none-bit k ∙ (let l = low-le k in omega arith))

        not_own : (L ≡ 0 → ⊥) → an_own ≡ false
        not_own z = false-one an_own (own-bit k ∙ omega arith)

        start : Dec (L ≡ 0) → (e : Bool) → earlier v.slots present at ≡ e → Dec (L ≡ top) → Dec (L < 3) → Dec (L ≡ 3) → Dec (L ≡ 4) → Comes
        start (yes z) true q f b u h =
            make true q Own (state-own (true-one an_own (own-bit k ∙ omega arith))) (sym (worth-earlier true L refl)) (omega arith)
        start (yes z) false q f b u h =
            make false q Own (state-own (true-one an_own (own-bit k ∙ omega arith)))
            (sym (worth-held false L refl (λ t. omega (arith, z, t))) ∙ zero-worth (omega arith)) (omega arith)
        start (no z) true q f b u h = make true q Earlier (state-earlier (not_own z) q) (sym (worth-earlier true L refl)) (omega arith)
        start (no z) false q (yes f) b u h =
            make false q Free (state-free (not_own z) q (true-one all_none (none-bit k ∙ omega arith))) (sym (worth-free false L refl f)) (omega arith)
        start (no z) false q (no f) (yes b) u h =
            make false q Base
            (state-held (not_own z) q (not_none f) k ∙ ap (λ (t : Bool). pick t Base (pick an_unknown Unknown (pick a_held_off HeldOff (Far near_gap))))
            (true-one a_base (base-bit k ∙ omega arith)))
            (sym (worth-held false L refl f) ∙ zero-worth (omega arith)) (omega arith)
        start (no z) false q (no f) (no b) (yes u) h =
            make false q Unknown
            (state-held (not_own z) q (not_none f) k
            ∙ ap (λ (t : Bool). pick t Base (pick an_unknown Unknown (pick a_held_off HeldOff (Far near_gap)))) (false-one a_base (base-bit k ∙ omega arith))
            ∙ ap (λ (t : Bool). pick t Unknown (pick a_held_off HeldOff (Far near_gap))) (true-one an_unknown (unknown-bit k (omega arith) ∙ omega arith)))
            (sym (worth-held false L refl f) ∙ zero-worth (omega arith)) (omega arith)
        start (no z) false q (no f) (no b) (no u) (yes h) =
            make false q HeldOff
            (state-held (not_own z) q (not_none f) k
            ∙ ap (λ (t : Bool). pick t Base (pick an_unknown Unknown (pick a_held_off HeldOff (Far near_gap)))) (false-one a_base (base-bit k ∙ omega arith))
            ∙ ap (λ (t : Bool). pick t Unknown (pick a_held_off HeldOff (Far near_gap))) (false-one an_unknown (unknown-bit k (omega arith) ∙ omega arith))
            ∙ ap (λ (t : Bool). pick t HeldOff (Far near_gap)) (true-one a_held_off (held-bit k (omega arith) ∙ omega arith)))
            (sym (worth-held false L refl f) ∙ zero-worth (omega arith)) (omega arith)
        start (no z) false q (no f) (no b) (no u) (no h) =
            make false q (Far near_gap)
            (state-held (not_own z) q (not_none f) k
            ∙ ap (λ (t : Bool). pick t Base (pick an_unknown Unknown (pick a_held_off HeldOff (Far near_gap)))) (false-one a_base (base-bit k ∙ omega arith))
            ∙ ap (λ (t : Bool). pick t Unknown (pick a_held_off HeldOff (Far near_gap))) (false-one an_unknown (unknown-bit k (omega arith) ∙ omega arith))
            ∙ ap (λ (t : Bool). pick t HeldOff (Far near_gap)) (false-one a_held_off (held-bit k (omega arith) ∙ omega arith)))
            (sym (worth-held false L refl f) ∙ (let d = near-is k (omega arith) (let l = low-le k in omega arith) in omega arith))
            (let d = near-is k (omega arith) (let l = low-le k in omega arith) in omega (arith, low-le k))

-- ---- in every case

-- no free slot
abbrev pub free_state : SlotState → Bool
free_state Own = false
free_state Earlier = false
free_state Free = true
free_state OwnUnknown = false
free_state Base = false
free_state Unknown = false
free_state HeldOff = false
free_state (Far d) = false

-- only a free slot has the worth of one
held-worth : (s : SlotState) → free_state s ≡ false → distance_of s + 5 < top → is_free (worth s) ≡ false
unfolding is_free
held-worth Own e d = ne_eqb 0 top (λ z. omega (arith, z))
held-worth Earlier e d = ne_eqb 0 top (λ z. omega (arith, z))
held-worth Free e d = never (sym e)
held-worth OwnUnknown e d = ne_eqb 0 top (λ z. omega (arith, z))
held-worth Base e d = ne_eqb 0 top (λ z. omega (arith, z))
held-worth Unknown e d = ne_eqb 0 top (λ z. omega (arith, z))
held-worth HeldOff e d = ne_eqb 0 top (λ z. omega (arith, z))
held-worth (Far x) e d = ne_eqb (x + 1) top (λ z. omega (arith, z, d))

own_held : (h : ℕ) → is_own h ≡ true → is_none h ≡ false
unfolding is_own is_none
own_held h e = let s = eqb-true h ours e in ne_eqb h 0 (λ z. omega (arith, s, z))

own-not-none : (g : ℕ → ℕ) (n : ℕ) → some (λ i. is_own (g i)) n ≡ true → every (λ i. is_none (g i)) n ≡ false
unfolding some every
own-not-none g zero e = never e
own-not-none g (suc n) e = go (some (λ i. is_own (g i)) n) refl (own-not-none g n)
  where
    go : (t : Bool) → some (λ i. is_own (g i)) n ≡ t → (some (λ i. is_own (g i)) n ≡ true → every (λ i. is_none (g i)) n ≡ false)
        → both (every (λ i. is_none (g i)) n) (is_none (g n)) ≡ false
    go true s h = ap (λ (t : Bool). both t (is_none (g n))) (h s)
    go false s h =
        ap (both (every (λ i. is_none (g i)) n)) (own_held (g n) (sym (ap (λ (t : Bool). either t (is_own (g n))) s) ∙ e)) ∙ both-no (every (λ i. is_none (g i)) n)

top-free : is_free top ≡ true
unfolding is_free
top-free = eq-eqb top top refl

module _ (v : View) (present at m : ℕ) where
  -- where our own position is not known a slot has no distance, and is free or worth nothing
  module _ (k : we_known v.ship ≡ false) where
    pub lost-cases : (P : SlotState → Type 0) → P Own → P Earlier → P Free → P OwnUnknown → P (state_of v present at m)
    lost-cases P a b c d = subst P (sym (state-is v present at m)) (go (an_own v present at m) (earlier v.slots present at) (all_none v present at m) (we_known v.ship) k)
      where
        go : (o e n t : Bool) → t ≡ false → P (pick o Own (pick e Earlier (pick n Free (pick (not t) OwnUnknown (held v present at m)))))
        go true e n t q = a
        go false true n t q = b
        go false false true t q = c
        go false false false t q = subst (λ (x : Bool). P (pick (not x) OwnUnknown (held v present at m))) (sym q) d

    lost-near : distance_of (state_of v present at m) + 5 < top
    lost-near = lost-cases (λ s. distance_of s + 5 < top) (omega arith) (omega arith) (omega arith) (omega arith)

    pub lost-worth : is_available (worth (state_of v present at m)) ≡ false
    lost-worth = lost-cases (λ s. is_available (worth s) ≡ false) (avail-zero 0 refl) (avail-zero 0 refl) (avail-big top (omega arith) (omega arith)) (avail-zero 0 refl)

  -- no distance is near the top
  pub near-small : distance_of (state_of v present at m) + 5 < top
  near-small = by-test (we_known v.ship) (λ k. (comes v present at m k).near) lost-near

  -- a slot is free by its worth where it is free by the book
  pub free-worth : free_at v.slots present at m ≡ is_free (worth (state_of v present at m))
  unfolding free_at
  free-worth =
      ap (λ (n : ℕ). both (not (earlier v.slots present at)) (every (λ i. is_none (frame v.slots present at i)) n)) (add-one m)
      ∙ go (an_own v present at m) refl (earlier v.slots present at) refl (all_none v present at m) refl
    where
      unfree : free_state (state_of v present at m) ≡ false → false ≡ is_free (worth (state_of v present at m))
      unfree e = sym (held-worth (state_of v present at m) e near-small)

      rest-held : (t b u h : Bool) (d : ℕ) → free_state (pick t OwnUnknown (pick b Base (pick u Unknown (pick h HeldOff (Far d))))) ≡ false
      rest-held true b u h d = refl
      rest-held false true u h d = refl
      rest-held false false true h d = refl
      rest-held false false false true d = refl
      rest-held false false false false d = refl

      go : (o : Bool) → an_own v present at m ≡ o → (e : Bool) → earlier v.slots present at ≡ e → (n : Bool) → all_none v present at m ≡ n
          → both (not (earlier v.slots present at)) (all_none v present at m) ≡ is_free (worth (state_of v present at m))
      go true po e pe n pn =
          ap (both (not (earlier v.slots present at))) (own-not-none (frame v.slots present at) (suc m) po) ∙ both-no (not (earlier v.slots present at))
          ∙ unfree (ap free_state (state-own v present at m po))
      go false po true pe n pn =
          ap (λ (t : Bool). both (not t) (all_none v present at m)) pe ∙ unfree (ap free_state (state-earlier v present at m po pe))
      go false po false pe true pn =
          ap (λ (t : Bool). both (not t) (all_none v present at m)) pe ∙ pn ∙ sym (ap (λ (s : SlotState). is_free (worth s)) (state-free v present at m po pe pn) ∙ top-free)
      go false po false pe false pn =
          ap (λ (t : Bool). both (not t) (all_none v present at m)) pe ∙ pn
          ∙ unfree (ap free_state (state-rest v present at m po pe pn)
          ∙ rest-held (not (we_known v.ship)) (a_base v present at m) (an_unknown v present at m) (a_held_off v present at m) (near_gap v present at m))
