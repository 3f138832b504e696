-- The comings of a plan's windows in absolute slot times: apart, neighbours, and the window meant.
-- Assumes nothing.
use mathlib.Core.Path.{◌≡◌, refl, sym, ap, ◌∙◌}
use mathlib.Core.Logic.{◌⊎◌, inl, inr}
use Prim.Native.Nat.{ℕ, ◌+◌, ◌-◌, ◌*◌, ◌%◌, ◌≤◌, ◌<◌}
use native.Mathlib.Nat.{add-mod}
use native.Mathlib.Decide.{ℕ_discrete, dec_lt}
use native.Mathlib.Omega.{arith}
use Rattle.limits.specs.Limits.{frame_slots}
use Rattle.plan.specs.declared.Plan.{Plan}
use Rattle.plan.specs.Plan.{InRange, along, nominal, half, first, floor_gap, ceil_gap, after}
use Rattle.plan.specs.Times.{Comes, Within, Next, meant}
use Rattle.plan.proofs.Gaps.{first_below, half-most, along-zero, along-apart, along-near, along-below, along-most, along-last, half-tenth, half-least, floor-most, after-inner, after_last, after-below}

-- ---- the window meant

module _ (p : Plan) (k : ℕ) where
  pub meant-ahead : (u : ℕ) → u < meant p k u
  unfolding meant
  meant-ahead u = omega arith

  pub meant-near : (u : ℕ) → meant p k u ≤ u + frame_slots
  unfolding meant
  meant-near u = omega arith

  meant-number : (u : ℕ) → meant p k u % frame_slots ≡ first p k
  unfolding meant
  meant-number u = omega (arith, first_below p k)

  pub meant-comes : k < p.rate → (u : ℕ) → Comes p k (meant p k u)
  meant-comes l u = record { known = l; starts = meant-number u }

  -- there is no other coming of k whose first slot is 1 to 2250 ahead
  pub meant-one : (u f : ℕ) → Comes p k f → u < f → f ≤ u + frame_slots → f ≡ meant p k u
  meant-one u f c l m = omega (arith, c.starts, meant-number u, meant-ahead u, meant-near u)

-- ---- two times f < g, a and b slots after the start of a frame, as the slot numbers tell

drop-common : (m n c : ℕ) → (m + c) % frame_slots ≡ (n + c) % frame_slots → m % frame_slots ≡ n % frame_slots
drop-common m n c e = omega arith

cross : (f g h s a b : ℕ) → (f + h) % frame_slots ≡ (s + a) % frame_slots → (g + h) % frame_slots ≡ (s + b) % frame_slots → (f + b) % frame_slots ≡ (g + a) % frame_slots
cross f g h s a b x y =
    let z : ((f + h) + (s + b)) % frame_slots ≡ ((s + a) + (g + h)) % frame_slots =
    add-mod (f + h) (s + b) frame_slots
    ∙ ap (λ (n : ℕ). (n + (s + b) % frame_slots) % frame_slots) x
    ∙ ap (λ (n : ℕ). ((s + a) % frame_slots + n) % frame_slots) (sym y)
    ∙ sym (add-mod (s + a) (g + h) frame_slots) in
    drop-common (f + b) (g + a) (s + h) (ap (λ (n : ℕ). n % frame_slots) (omega arith) ∙ z ∙ ap (λ (n : ℕ). n % frame_slots) (omega arith))

module _ (f g a b : ℕ) (e : (f + b) % frame_slots ≡ (g + a) % frame_slots) (m : f < g) where
  cross-up : (w : ℕ) → a + w ≤ b → b ≤ frame_slots → f + w ≤ g
  cross-up w x y = omega arith

  cross-down : (w : ℕ) → a + w ≤ frame_slots → w ≤ frame_slots → b < a ⊎ (a ≡ b) → f + w ≤ g
  cross-down w y z (inl c) = omega arith
  cross-down w y z (inr c) = omega arith

  cross-next : (w : ℕ) → g ≤ f + frame_slots → a < b → b ≤ a + w → b ≤ frame_slots → g ≤ f + w
  cross-next w n c x y = omega arith

  cross-last : (w : ℕ) → g ≤ f + frame_slots → b ≡ 0 → frame_slots ≤ a + w → a < frame_slots → g ≤ f + w
  cross-last w n c x y = omega arith

-- ---- the comings of all windows

module _ (p : Plan) (good : InRange p) where
  -- the nominal slot of a coming
  comes-nominal : (k f : ℕ) → Comes p k f → (f + half p) % frame_slots ≡ (p.start + along p k) % frame_slots
  unfolding first nominal
  comes-nominal k f c = omega (arith, c.starts, half-most p)

  crossed : (k l f g : ℕ) → Comes p k f → Comes p l g → (f + along p l) % frame_slots ≡ (g + along p k) % frame_slots
  crossed k l f g a b = cross f g (half p) p.start (along p k) (along p l) (comes-nominal k f a) (comes-nominal l g b)

  -- two comings start at least floor(2250/r) apart
  pub comes-apart : (k l f g : ℕ) → Comes p k f → Comes p l g → f < g → f + floor_gap p ≤ g
  comes-apart k l f g a b m = go (dec_lt k l) (dec_lt l k)
    where
      go : Dec (k < l) → Dec (l < k) → f + floor_gap p ≤ g
      go (yes x) d = cross-up _ _ _ _ (crossed k l f g a b) m (floor_gap p) (along-apart p good k l x) (along-most p good l b.known)
      go (no x) (yes y) =
          let less : along p l < along p k = omega (arith, along-apart p good l k y, half-tenth p good, half-least p good) in
          cross-down _ _ _ _ (crossed k l f g a b) m (floor_gap p) (along-below p good k a.known) (floor-most p good) (inl less)
      go (no x) (no y) =
          let e : k ≡ l = omega arith in
          cross-down _ _ _ _ (crossed k l f g a b) m (floor_gap p) (along-below p good k a.known) (floor-most p good) (inr (ap (along p) e))

  -- the windows do not overlap: a time lies in one coming only
  pub no-overlap : (k l f g t : ℕ) → Comes p k f → Comes p l g → Within p f t → Within p g t → f ≡ g
  no-overlap k l f g t a b v w = go (dec_lt f g) (dec_lt g f)
    where
      go : Dec (f < g) → Dec (g < f) → f ≡ g
      go (yes x) d = absurd (omega (arith, comes-apart k l f g a b x, v.to, w.from, half-tenth p good, half-least p good))
      go (no x) (yes y) = absurd (omega (arith, comes-apart l k g f b a y, w.to, v.from, half-tenth p good, half-least p good))
      go (no x) (no y) = omega arith

  -- and a coming is of one window only
  pub one-window : (k l f : ℕ) → Comes p k f → Comes p l f → k ≡ l
  one-window k l f a b = go (dec_lt k l) (dec_lt l k)
    where
      go : Dec (k < l) → Dec (l < k) → k ≡ l
      go (yes x) d = absurd (omega (arith, crossed k l f f a b, along-apart p good k l x, along-below p good l b.known, half-tenth p good, half-least p good))
      go (no x) (yes y) = absurd (omega (arith, crossed k l f f a b, along-apart p good l k y, along-below p good k a.known, half-tenth p good, half-least p good))
      go (no x) (no y) = omega arith

  -- each coming has a next one, and one only
  pub next-meant : (k f : ℕ) → Comes p k f → Next p k f (after p k) (meant p (after p k) f)
  next-meant k f c =
      record {
        one = c;
        other = meant-comes p (after p k) (after-below p good k) f;
        neighbour = refl;
        later = meant-ahead p (after p k) f;
        soon = meant-near p (after p k) f;
      }

  pub next_one : (k f l g : ℕ) → Next p k f l g → g ≡ meant p l f
  next_one k f l g n = meant-one p l f g n.other n.later n.soon

  -- neighbouring comings start floor(2250/r) to ceil(2250/r) apart
  pub next-far : (k f l g : ℕ) → Next p k f l g → g ≤ f + ceil_gap p
  next-far k f l g n = go (ℕ_discrete (k + 1) p.rate)
    where
      go : Dec (k + 1 ≡ p.rate) → g ≤ f + ceil_gap p
      go (yes e) =
          let z : l ≡ 0 = n.neighbour ∙ after_last p good k e in
          cross-last _ _ _ _ (crossed k l f g n.one n.other) n.later (ceil_gap p) n.soon (ap (along p) z ∙ along-zero p good) (along-last p good k e)
          (omega (arith, along-below p good k n.one.known, half-tenth p good, half-least p good))
      go (no x) =
          let z : l ≡ k + 1 = n.neighbour ∙ after-inner p good k (omega (arith, n.one.known)) in
          let more : along p k < along p l = omega (arith, ap (along p) z, along-apart p good k (k + 1) (omega arith), half-tenth p good, half-least p good) in
          let near : along p l ≤ along p k + ceil_gap p = omega (arith, ap (along p) z, along-near p good k) in
          cross-next _ _ _ _ (crossed k l f g n.one n.other) n.later (ceil_gap p) n.soon more near (along-most p good l n.other.known)

  pub next-near : (k f l g : ℕ) → Next p k f l g → f + floor_gap p ≤ g
  next-near k f l g n = comes-apart k l f g n.one n.other n.later

  -- two slot times in neighbouring windows
  pub slots-near : (k f l g t v : ℕ) → Next p k f l g → Within p f t → Within p g v → t + (floor_gap p - 2 * half p) ≤ v
  slots-near k f l g t v n a b = omega (arith, next-near k f l g n, a.to, b.from, half-tenth p good)

  pub slots-far : (k f l g t v : ℕ) → Next p k f l g → Within p f t → Within p g v → v ≤ t + (ceil_gap p + 2 * half p)
  slots-far k f l g t v n a b = omega (arith, next-far k f l g n, a.from, b.to)
