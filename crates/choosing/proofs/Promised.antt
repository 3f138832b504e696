-- What is promised of choosing (specs/Promises.antt).
-- Assumes nothing.
use mathlib.Core.Path.{◌≡◌, refl, sym, ap, subst, ◌∙◌}
use mathlib.Core.Bool.{Bool, true, false}
use mathlib.Core.List.{List}
use Prim.Native.Nat.{ℕ, ◌+◌, ◌≤◌, ◌<◌}
use native.Mathlib.Omega.{arith}
use Rattle.laws.specs.Tests.{pick}
use Rattle.laws.proofs.Tests.{by-test}
use Rattle.limits.specs.Limits.{widest, most_time_out}
use Rattle.ship.specs.declared.Station.{Station}
use Rattle.book.specs.declared.Watch.{Watch}
use Rattle.walks.proofs.Folds.{folded-none}
use Rattle.distance.specs.Distance.{we_known}
use Rattle.candidates.specs.declared.Window.{Window}
use Rattle.std.specs.declared.option.Option.TheVariants.{None, Some}
use Rattle.std.specs.declared.result.Result.{Result}
use Rattle.std.specs.declared.result.Result.TheVariants.{Ok, Err}
use Rattle.numbers.specs.declared.Refusal.{Refusal}
use Rattle.numbers.specs.declared.Refusal.TheVariants.{WindowTaken}
use Rattle.numbers.specs.Numbers.{number_of}
use Rattle.candidates.specs.declared.Picked.{Picked}
use Rattle.candidates.specs.Slot.{View}
use Rattle.candidates.specs.Rounds.{BestIn}
use Rattle.candidates.specs.Choice.{worth_in, choice}
use Rattle.candidates.specs.Scanning.{free_upto_four, none_yet, drawn}
use Rattle.candidates.proofs.Promised.{pick-is-candidate}
use Rattle.candidates.proofs.Sameness.{best_after, best_of, lost-best, drawn-is}
use Rattle.choosing.specs.declared.Wanted.{Wanted}
use Rattle.choosing.specs.declared.Query.{Query}
use Rattle.choosing.specs.Choosing.{window_of, any_own, view_of, picked_in}
use Rattle.choosing.specs.Scanning.{free_unless_own, asked, turns_of, scanned, judged}
use Rattle.choosing.specs.Promises.{FindsTheChoice, PickedIsCandidate, PickedInTheBook}
use Rattle.choosing.proofs.Meaning.{near, narrow, timed as for-time-out}
use Rattle.choosing.proofs.Asking.{turns-lost, turns-all, judged-taken, judged-drawn}

-- ---- the slot that is found

module _ (reg : List Station) (slots : List ℕ) (w : Watch) (a : Wanted) (m : a.timeout < most_time_out + 1) where
  abbrev q : Query
  q = asked slots w a

  abbrev v : View
  v = view_of reg slots w

  abbrev x : Window
  x = window_of w a

  fits : x.width ≤ widest
  fits = narrow w.present w.channel.plan a.k a.timeout x refl

  timed : x.timeout < most_time_out + 1
  timed = omega (arith, m, for-time-out w.present w.channel.plan a.k a.timeout x refl)

  -- where the window is taken, and where it is not
  none-free : any_own slots x ≡ true → q.free ≡ None
  unfolding asked free_unless_own
  none-free t = simp t

  some-free : any_own slots x ≡ false → q.free ≡ Some (free_upto_four slots x)
  unfolding asked free_unless_own
  some-free t = simp t

  window-is : q.window ≡ x
  unfolding asked
  window-is = refl

  draw-is : q.draw ≡ a.draw
  unfolding asked
  draw-is = refl

  watch-is : q.watch ≡ w
  unfolding asked
  watch-is = refl

  scanned-is : scanned reg slots q ≡ best_after v x (turns_of q)
  unfolding scanned asked
  scanned-is = refl

  picked-taken : any_own slots x ≡ true → picked_in reg slots w a ≡ Err WindowTaken
  unfolding picked_in
  picked-taken t = simp t

  picked-drawn : any_own slots x ≡ false → picked_in reg slots w a ≡ choice v x a.draw
  unfolding picked_in
  picked-drawn t = simp t

  -- the window is not taken
  module _ (t : any_own slots x ≡ false) where
    best : free_upto_four slots x < 4 → BestIn (worth_in v x) x.width (scanned reg slots q)
    best l = by-test (we_known w.ship) known lost
      where
        known : we_known w.ship ≡ true → BestIn (worth_in v x) x.width (scanned reg slots q)
        known k =
            subst (BestIn (worth_in v x) x.width) (sym (scanned-is ∙ ap (best_after v x) (sym turns))) (best_of v x k x.width (omega (arith, fits)))
          where
            turns : x.width ≡ turns_of q
            turns =
                ap (λ (y : Window). y.width) (sym window-is)
                ∙ sym (turns-all q (free_upto_four slots x) (some-free t) (omega (arith, l)) (ap (λ (y : Watch). we_known y.ship) watch-is ∙ k))

        lost : we_known w.ship ≡ false → BestIn (worth_in v x) x.width (scanned reg slots q)
        lost k = subst (BestIn (worth_in v x) x.width) (sym (scanned-is ∙ ap (best_after v x) (sym turns) ∙ none)) (lost-best v x k x.width (omega (arith, fits)))
          where
            turns : 0 ≡ turns_of q
            turns = sym (turns-lost q (free_upto_four slots x) (some-free t) (omega (arith, l)) (ap (λ (y : Watch). we_known y.ship) watch-is ∙ k))

            none : best_after v x 0 ≡ none_yet
            none = sym (folded-none _ _ _ _)

    found : judged slots q (scanned reg slots q) ≡ choice v x a.draw
    found =
        judged-drawn slots q (scanned reg slots q) (free_upto_four slots x) (some-free t) ∙ drawn-so
      where
        drawn-so : drawn slots q.window (free_upto_four slots x) (scanned reg slots q) q.draw ≡ choice v x a.draw
        drawn-so =
            ap (λ (y : Window). drawn slots y (free_upto_four slots x) (scanned reg slots q) q.draw) window-is
            ∙ ap (drawn slots x (free_upto_four slots x) (scanned reg slots q)) draw-is
            ∙ drawn-is v x fits (scanned reg slots q) best a.draw

  finds : judged slots q (scanned reg slots q) ≡ picked_in reg slots w a
  finds =
      by-test (any_own slots x)
      (λ t. judged-taken slots q (scanned reg slots q) (none-free t) ∙ sym (picked-taken t))
      (λ t. found t ∙ sym (picked-drawn t))

pub finds-the-choice : FindsTheChoice
finds-the-choice = finds

-- ---- what is picked

-- the answers as numbers, to tell them apart
abbrev answer : Result Picked Refusal → ℕ
answer (Ok p) = 0
answer (Err r) = number_of r

pub picked-is-candidate : PickedIsCandidate
unfolding picked_in
picked-is-candidate reg slots w a x n e =
    by-test (any_own slots (window_of w a))
    (λ t. absurd (omega (arith, ap answer (sym (ap (λ (b : Bool). pick b (Err WindowTaken) (choice (view_of reg slots w) (window_of w a) a.draw)) t) ∙ e))))
    (λ t. pick-is-candidate (view_of reg slots w) (window_of w a) a.draw x n
    (sym (ap (λ (b : Bool). pick b (Err WindowTaken) (choice (view_of reg slots w) (window_of w a) a.draw)) t) ∙ e))

pub picked-in-the-book : PickedInTheBook
picked-in-the-book reg slots w a x n m e =
    let p = picked-is-candidate reg slots w a x n e in
    let y = window_of w a in
    omega (
      arith,
      p.there,
      p.candidate.inside,
      near w.present w.channel.plan a.k a.timeout y refl,
      narrow w.present w.channel.plan a.k a.timeout y refl,
      m,
    )
