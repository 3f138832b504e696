-- What stays true of our own slot times through all that happens to them, for any plan p, any now u and any own times O; and that the
-- spacing of specs/Windows.antt follows from it.
-- Assumes nothing.
use mathlib.Core.Path.{◌≡◌, refl}
use mathlib.Core.Logic.{◌⊎◌, inl, inr}
use Prim.Native.Nat.{ℕ, ◌+◌, ◌-◌, ◌*◌, ◌/◌, ◌≤◌, ◌<◌}
use native.Mathlib.Omega.{arith}
use Rattle.limits.specs.Limits.{frame_slots}
use Rattle.plan.specs.declared.Plan.{Plan}
use Rattle.plan.specs.Plan.{InRange}
use Rattle.plan.specs.Times.{Comes, Within, meant}
use Rattle.plan.proofs.Promised.{no-time-in-two, no-nearer, no-farther, meant-is-ahead}
use Rattle.promises.specs.Windows.{InAWindow, Spaced}

-- the coming that starts at f has an own slot
pub record Has (p : Plan) (O : ℕ → Type 0) (f : ℕ) : Type 0 where
  pub slot : ℕ
  pub within : Within p f slot
  pub own : O slot

pub record Keeps (p : Plan) (u : ℕ) (O : ℕ → Type 0) : Type 0 where
  -- every own slot lies in a coming of a window
  pub lies : (t : ℕ) → O t → InAWindow p t
  -- a coming has at most one
  pub one : (k f t v : ℕ) → Comes p k f → Within p f t → Within p f v → O t → O v → t ≡ v
  -- where a coming of k has one, so have all comings of k from the one meant up to it
  pub filled : (k f g : ℕ) → Comes p k f → Comes p k g → meant p k u ≤ g → g ≤ f → Has p O f → Has p O g

-- the slot d ahead may become ours: it is one of the window meant by k, which has no own slot
pub record MayChoose (p : Plan) (u : ℕ) (O : ℕ → Type 0) (k d : ℕ) : Type 0 where
  pub ranged : InRange p
  pub known : k < p.rate
  pub picked : Within p (meant p k u) (u + d)
  pub free : (t : ℕ) → Within p (meant p k u) t → O t → ⊥

-- t is x, or 1 to m frames after x
pub record Repeats (x m t : ℕ) : Type 0 where
  pub frame : ℕ
  pub most : frame ≤ m
  pub at : t ≡ x + frame_slots * frame

-- ---- nothing is ours

pub keeps-none : (p : Plan) (u : ℕ) (O : ℕ → Type 0) → ((t : ℕ) → O t → ⊥) → Keeps p u O
keeps-none p u O none =
    record {
      lies = λ t o. absurd (none t o);
      one = λ k f t v c a b o q. absurd (none t o);
      filled = λ k f g a b m l w. absurd (none w.slot w.own);
    }

-- ---- time goes on: the windows meant move on with it

meant-moves : (p : Plan) (k u v : ℕ) → k < p.rate → u ≤ v → meant p k u ≤ meant p k v
meant-moves p k u v known l =
    let a = meant-is-ahead p k u known in
    let b = meant-is-ahead p k v known in
    omega (arith, a.comes.starts, b.comes.starts, a.most, b.least)

pub keeps_on : (p : Plan) (u v : ℕ) (O : ℕ → Type 0) → u ≤ v → Keeps p u O → Keeps p v O
keeps_on p u v O l s =
    record {
      lies = s.lies;
      one = s.one;
      filled = λ k f g a b m n w. s.filled k f g a b (omega (arith, meant-moves p k u v a.known l)) n w;
    }

-- ---- the same own times, said otherwise

pub keeps-alike : (p : Plan) (u : ℕ) (A B : ℕ → Type 0) → ((t : ℕ) → B t → A t) → ((t : ℕ) → A t → B t) → Keeps p u A → Keeps p u B
keeps-alike p u A B back on s =
    record {
      lies = λ t o. s.lies t (back t o);
      one = λ k f t v c a b o q. s.one k f t v c a b (back t o) (back v q);
      filled = λ k f g a b m l w.
          let v = s.filled k f g a b m l (record { slot = w.slot; within = w.within; own = back w.slot w.own }) in
          record { slot = v.slot; within = v.within; own = on v.slot v.own };
    }

-- ---- the slot d ahead becomes ours, and in the m frames after it

module _ (p : Plan) (u : ℕ) (O : ℕ → Type 0) (k m d : ℕ) (c : MayChoose p u O k d) (s : Keeps p u O) where
  -- the first slot of the window meant, and what is ours then
  abbrev start : ℕ
  start = meant p k u

  abbrev Then : ℕ → Type 0
  Then t = Repeats (u + d) m t ⊎ O t

  comes-on : (i : ℕ) → Comes p k (start + frame_slots * i)
  comes-on i = record { known = c.known; starts = omega (arith, (meant-is-ahead p k u c.known).comes.starts) }

  within_on : (i t : ℕ) → t ≡ u + d + frame_slots * i → Within p (start + frame_slots * i) t
  within_on i t e = record { from = omega (arith, c.picked.from); to = omega (arith, c.picked.to) }

  -- no coming of k from the one meant on has an own slot
  none-later : (f t : ℕ) → Comes p k f → start ≤ f → Within p f t → O t → ⊥
  none-later f t a l w o =
      let v = s.filled k f start a (meant-is-ahead p k u c.known).comes (omega arith) l (record { slot = t; within = w; own = o }) in
      c.free v.slot v.within v.own

  -- a new slot that lies in a coming of l at f: that is a coming of k, some frames after the one meant
  new_in : (l f t : ℕ) (r : Repeats (u + d) m t) → Comes p l f → Within p f t → (l ≡ k) × (f ≡ start + frame_slots * r.frame)
  new_in l f t r a w =
      no-time-in-two p c.ranged l k f (start + frame_slots * r.frame) t a (comes-on r.frame) w (within_on r.frame t r.at)

  -- it has no old one
  beside : (l f t v : ℕ) → Repeats (u + d) m t → O v → Comes p l f → Within p f t → Within p f v → ⊥
  beside l f t v r o a w y =
      let e = new_in l f t r a w in
      none-later f v (rw e.0 at a) (omega (arith, e.1)) y o

  then-lies : (t : ℕ) → Then t → InAWindow p t
  then-lies t (inl r) =
      record { window = k; start = start + frame_slots * r.frame; comes = comes-on r.frame; within = within_on r.frame t r.at }
  then-lies t (inr o) = s.lies t o

  then_one : (l f t v : ℕ) → Comes p l f → Within p f t → Within p f v → Then t → Then v → t ≡ v
  then_one l f t v a w y (inl q) (inl r) = omega (arith, (new_in l f t q a w).1, (new_in l f v r a y).1, q.at, r.at)
  then_one l f t v a w y (inl q) (inr o) = absurd (beside l f t v q o a w y)
  then_one l f t v a w y (inr o) (inl q) = absurd (beside l f v t q o a y w)
  then_one l f t v a w y (inr o) (inr q) = s.one l f t v a w y o q

  then-filled : (l f g t : ℕ) → Comes p l f → Comes p l g → meant p l u ≤ g → g ≤ f → Within p f t → Then t → Has p Then g
  then-filled l f g t a b n y w (inl r) =
      let e = new_in l f t r a w in
      let from : start ≤ g = rw e.0 at n in
      let comes : Comes p k g = rw e.0 at b in
      let j = (g - start) / frame_slots in
      let h : start + frame_slots * j ≡ g = omega (arith, comes.starts, (comes-on 0).starts) in
      record {
        slot = u + d + frame_slots * j;
        within = rw h at (within_on j (u + d + frame_slots * j) refl);
        own = inl (record { frame = j; most = omega (arith, e.1, r.most); at = refl });
      }
  then-filled l f g t a b n y w (inr o) =
      let v = s.filled l f g a b n y (record { slot = t; within = w; own = o }) in
      record { slot = v.slot; within = v.within; own = inr v.own }

  pub keeps-choose : Keeps p u Then
  keeps-choose =
      record {
        lies = then-lies;
        one = then_one;
        filled = λ l f g a b n y w. then-filled l f g w.slot a b n y w.within w.own;
      }

-- ---- the spacing, of fewer own times too

pub keeps-spaced : (p : Plan) (u : ℕ) (O P : ℕ → Type 0) → (0 < p.rate → InRange p) → Keeps p u O → ((t : ℕ) → P t → O t) → Spaced p P
keeps-spaced p u O P ranged s in-o =
    let good : (k f : ℕ) → Comes p k f → InRange p = λ k f c. ranged (omega (arith, c.known)) in
    record {
      lies = λ t o. s.lies t (in-o t o);
      one = λ k f t v c a b o q. s.one k f t v c a b (in-o t o) (in-o v q);
      nearest = λ k f l g t v n a b o q. no-nearer p (good k f n.one) k f l g t v n a b;
      farthest = λ k f l g t v n a b o q. no-farther p (good k f n.one) k f l g t v n a b;
    }
