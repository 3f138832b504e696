-- Which slot times are ours by the past events, event by event.
-- Assumes nothing.
use mathlib.Core.Path.{◌≡◌, refl, sym, ◌∙◌}
use mathlib.Core.Bool.{Bool, true, false, true≢false}
use mathlib.Core.List.{List, ◌∷◌}
use mathlib.Core.Logic.{◌⊎◌, inl, inr}
use Prim.Native.Nat.{ℕ, ◌+◌, ◌-◌, ◌*◌}
use native.Mathlib.Omega.{arith}
use borrow.Author.Tests.{eq-eqb, eqb-true}
use lib.Dec.{eqb, leb}
use lib.ListN.{get_or}
use Rattle.laws.specs.Tests.{pick}
use Rattle.laws.specs.Ranges.{some}
use Rattle.laws.proofs.Tests.{never, pick_is}
use Rattle.laws.proofs.Ranges.{some-hit, some-passes}
use Rattle.limits.specs.Limits.{frame_slots}
use Rattle.book.specs.Book.{ours}
use Rattle.candidates.specs.Slot.{is_own}
use Rattle.announcing.specs.declared.rows.Row.{Row}
use Rattle.announcing.specs.Rows.{marks_time, frees_time}
use Rattle.promises.specs.History.{Event, Who, marked_by, freed_by, given_up, freed_in, reported, after_event, holder_of, time_of, who_of}
use Rattle.promises.specs.History.Event.{heard, owned, planned}
use Rattle.promises.specs.History.Who.{nobody, us, station}
use Rattle.promises.proofs.Keeping.{Repeats}

abbrev pub is_us : Who → Bool
is_us nobody = false
is_us us = true
is_us (station x) = false

-- the slot time t is ours, be it in the book or past
abbrev pub Own : List Event → ℕ → Type 0
Own es t = is_us (holder_of es t) ≡ true

-- ---- a station was heard: what is ours stays so, and nothing becomes ours

us-picked : (b : Bool) (x y : Who) → is_us x ≡ is_us y → is_us (pick b x y) ≡ is_us y
us-picked b x y e = pick_is is_us b e refl

us-marked : (s : ℕ) (y : Who) → is_us (marked_by s y) ≡ is_us y
unfolding marked_by
us-marked s nobody = refl
us-marked s us = refl
us-marked s (station x) = refl

us-freed : (s : ℕ) (y : Who) → is_us (freed_by s y) ≡ is_us y
unfolding freed_by
us-freed s nobody = refl
us-freed s us = refl
us-freed s (station x) = us-picked (eqb x s) nobody (station x) refl

us-freed-in : (s : ℕ) (rows : List Row) (d : ℕ) (y : Who) → is_us (freed_in s rows d y) ≡ is_us y
unfolding freed_in
us-freed-in s rows d y = us-picked (frees_time rows d) (freed_by s y) y (us-freed s y)

us-reported : (s : ℕ) (rows : List Row) (d : ℕ) (y : Who) → is_us (reported s rows d y) ≡ is_us y
unfolding reported
us-reported s rows d y =
    let z = freed_in s rows d y in
    us-picked (marks_time rows d) (marked_by s z) z (us-marked s z) ∙ us-freed-in s rows d y

pub us-heard : (s : ℕ) (rows : List Row) (es : List Event) (t : ℕ) → is_us (holder_of (heard s rows ∷ es) t) ≡ is_us (holder_of es t)
unfolding holder_of after_event
us-heard s rows es t = us-picked (leb (time_of es) t) _ (holder_of es t) (us-reported s rows (t - time_of es) (holder_of es t))

-- ---- a plan was set: nothing is ours

us-given-up : (y : Who) → is_us (given_up y) ≡ false
unfolding given_up
us-given-up nobody = refl
us-given-up us = refl
us-given-up (station x) = refl

pub none-planned : (es : List Event) (t : ℕ) → Own (planned ∷ es) t → ⊥
unfolding holder_of after_event
none-planned es t o = true≢false (sym o ∙ us-given-up (holder_of es t))

-- ---- a slot became ours, and in m frames after it

module _ (d m : ℕ) (es : List Event) (t : ℕ) where
  abbrev hits : ℕ → Bool
  hits i = eqb t (time_of es + (d + frame_slots * i))

  pub own-before : Own (owned d m ∷ es) t → Repeats (time_of es + d) m t ⊎ Own es t
  unfolding holder_of after_event
  own-before o = go (some hits (m + 1)) refl o
    where
      go : (b : Bool) → some hits (m + 1) ≡ b → is_us (pick b us (holder_of es t)) ≡ true → Repeats (time_of es + d) m t ⊎ Own es t
      go true e q =
          let r = some-passes hits (m + 1) e in
          inl (record { frame = r.0; most = omega (arith, r.1.0); at = omega (arith, eqb-true t (time_of es + (d + frame_slots * r.0)) r.1.1) })
      go false e q = inr q

  pub own-then : Repeats (time_of es + d) m t ⊎ Own es t → Own (owned d m ∷ es) t
  unfolding holder_of after_event
  own-then (inl r) =
      let hit : hits r.frame ≡ true = eq-eqb t (time_of es + (d + frame_slots * r.frame)) (omega (arith, r.at)) in
      rw (← (some-hit hits r.frame (m + 1) (omega (arith, r.most)) hit))
  own-then (inr o) = go (some hits (m + 1))
    where
      go : (b : Bool) → is_us (pick b us (holder_of es t)) ≡ true
      go true = refl
      go false = o

-- ---- by the holder's number

pub own-number : (sources : List ℕ) (x : ℕ) → is_us (who_of sources x) ≡ true → is_own x ≡ true
unfolding who_of is_own
own-number sources x o = go (eqb x 0) (eqb x ours) o
  where
    go : (a b : Bool) → is_us (pick a nobody (pick b us (station (get_or sources (x - 1) 0)))) ≡ true → b ≡ true
    go true b e = never e
    go false true e = refl
    go false false e = e
