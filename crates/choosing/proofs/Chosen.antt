-- The call that chooses: each number exactly when, what is said of every draw, none reaches beyond the book, and what is chosen is a candidate whose marks lie
-- in the book.
--     choose-exactly   each number exactly when
--     draw-says        what is said where the call comes to the draw
-- Assumes nothing.
use mathlib.Core.Path.{◌≡◌, refl, sym, ap, ◌∙◌}
use mathlib.Core.Bool.{true, false, not, true≢false}
use mathlib.Core.List.{List, [], ◌∷◌}
use Prim.Native.Nat.{ℕ, suc, ◌+◌, ◌*◌, ◌%◌, ◌≤◌, ◌<◌}
use native.Mathlib.Omega.{arith}
use borrow.Author.Tests.{lt-ltb}
use lib.Dec.{ltb}
use lib.ListN.{get_or}
use Rattle.laws.specs.Tests.{between, ladder}
use Rattle.laws.proofs.Tests.{was-false, both_right, between_is}
use Rattle.laws.specs.Exactly.{AllHold, Exactly}
use Rattle.laws.proofs.Ladder.{stops-there, all-through, all-answered, by_tests}
use Rattle.limits.specs.Limits.{frame_slots, slot_times, least_time_out, most_time_out}
use Rattle.plan.specs.declared.Plan.{Plan}
use Rattle.book.specs.Book.{place}
use Rattle.book.specs.Planning.{plan_fits}
use Rattle.std.specs.declared.result.Result.{Result}
use Rattle.std.specs.declared.result.Result.TheVariants.{Ok, Err}
use Rattle.numbers.specs.declared.Refusal.{Refusal}
use Rattle.numbers.specs.Numbers.{number_of}
use Rattle.candidates.specs.declared.Picked.{Picked}
use Rattle.candidates.specs.declared.Window.{Window}
use Rattle.candidates.specs.Slot.{View}
use Rattle.candidates.specs.Choice.{choice}
use Rattle.candidates.specs.Window.{at, is_no, is_back, distance_in, number_in}
use Rattle.candidates.proofs.Promised.{pick-is-candidate}
use Rattle.register.specs.State.{State}
use Rattle.register.specs.Answers.{Said, did, said, given_number, sized}
use Rattle.choosing.specs.declared.Wanted.{Wanted}
use Rattle.choosing.specs.Choosing.{ask_fits, any_own}
use Rattle.choosing.specs.Choose.{drawn_in, replaced_in, choose_tests, chooses, choose}
use Rattle.choosing.specs.ChoosePromises.{view_in, window_in, Draws, Chose, NeverBeyond, ChosenIsCandidate, MarksInTheBook}
use Rattle.choosing.proofs.Meaning.{near, narrow}
use Rattle.choosing.proofs.Choosing.{drawn_tests, drawn_slot, choice-cases}

pub choose-exactly : (s : State) (a : Wanted) → Exactly (20 ∷ 31 ∷ 30 ∷ 32 ∷ 33 ∷ 34 ∷ 35 ∷ []) given_number (choose_tests s a) (given_number (choose s a))
unfolding choose choose_tests
choose-exactly s a =
    by_tests (20 ∷ 31 ∷ 30 ∷ 32 ∷ 33 ∷ 34 ∷ 35 ∷ []) given_number (choose_tests s a) (chooses s a) refl tt refl

-- ---- a draw that picks a slot

-- what is neither without candidates nor sent back is a slot
pub is_at : (v : View) (w : Window) (d : ℕ) → is_no (choice v w d) ≡ false → is_back (choice v w d) ≡ false
    → choice v w d ≡ Ok (at (distance_in (choice v w d)) (number_in (choice v w d)))
is_at =
    choice-cases (λ p. is_no p ≡ false → is_back p ≡ false → p ≡ Ok (at (distance_in p) (number_in p)))
    (λ p e f. refl) (λ e f. absurd (true≢false e)) (λ e f. absurd (true≢false f))

-- the time-out that can be asked for
timeout-most : (p : Plan) (a : Wanted) → ask_fits p a ≡ true → a.timeout ≤ most_time_out
unfolding ask_fits
timeout-most p a e = (between_is least_time_out most_time_out a.timeout (both_right (ltb a.k p.rate) (between least_time_out most_time_out a.timeout) e)).1

-- its marks lie in the book
marks-in : (s : State) (a : Wanted) (x n : ℕ) → ask_fits s.watch.channel.plan a ≡ true → drawn_in s a ≡ Ok (at x n) → x + frame_slots * a.timeout < slot_times
marks-in s a x n asked drawn =
    let w = window_in s a in
    let picks = pick-is-candidate (view_in s) w a.draw x n drawn in
    let there = picks.there in
    let inside = picks.candidate.inside in
    let first : w.first ≤ frame_slots = near s.watch.present s.watch.channel.plan a.k a.timeout w refl in
    let wide = narrow s.watch.present s.watch.channel.plan a.k a.timeout w refl in
    let most = timeout-most s.watch.channel.plan a asked in
    omega arith

-- ---- the call comes to the draw

module _ (s : State) (a : Wanted) where
  -- where the first four tests hold
  pub comes-to-draw :
      {X : Type 0}
      → (sized s ≡ true) × ((plan_fits s.watch.channel.plan.rate s.watch.channel.plan.start ≡ true)
      × ((ask_fits s.watch.channel.plan a ≡ true) × ((not (any_own s.book (window_in s a)) ≡ true) × X)))
      → Draws s a
  comes-to-draw h = record { sizes = h.0; planned = h.1.0; asked = h.1.1.0; unmarked = was-false h.1.1.1.0 }

  -- what is said then, by what is drawn
  abbrev pub said_of : Result Picked Refusal → Said
  said_of (Ok p) =
      did (p.distance ∷ (place s.watch.present p.distance % frame_slots) ∷ p.candidates ∷ replaced_in s.book s.watch.present p.distance (suc a.timeout) ∷ [])
  said_of (Err r) = record { number = number_of r; values = [] }

  says : (v : View) (w : Window) (d : ℕ) → ((x n : ℕ) → choice v w d ≡ Ok (at x n) → x + frame_slots * a.timeout < slot_times)
      → said (ladder (drawn_tests s a.timeout (choice v w d)) (drawn_slot s a.timeout (choice v w d))).answer ≡ said_of (choice v w d)
  says =
      choice-cases (λ p. ((x n : ℕ) → p ≡ Ok (at x n) → x + frame_slots * a.timeout < slot_times)
      → said (ladder (drawn_tests s a.timeout p) (drawn_slot s a.timeout p)).answer ≡ said_of p)
      (λ p l. rw (lt-ltb (p.distance + frame_slots * a.timeout) slot_times (l p.distance p.candidates refl))) (λ l. refl) (λ l. refl)

  pub draw-says : Draws s a → said (choose s a).answer ≡ said_of (drawn_in s a)
  unfolding choose choose_tests
  draw-says r =
      rw (r.sizes, r.planned, r.asked, r.unmarked)
      (says _ _ _ (λ x n e. marks-in s a x n r.asked e))

-- 35 is not among it
not_beyond : (s : State) (a : Wanted) (v : View) (w : Window) (d : ℕ) → (said_of s a (choice v w d)).number ≡ 35 → ⊥
not_beyond s a = choice-cases (λ p. (said_of s a p).number ≡ 35 → ⊥) (λ p e. omega arith) (λ e. omega arith) (λ e. omega arith)

pub never-beyond : NeverBeyond
unfolding choose_tests
never-beyond s a e =
    let draws = comes-to-draw s a (stops-there _ _ 35 6 (omega arith) tt (((choose-exactly s a).given 35 (omega arith)).0 e)) in
    not_beyond s a _ _ _ (sym (ap (λ (t : Said). t.number) (draw-says s a draws)) ∙ e)

-- ---- a slot that was chosen

-- only a slot that is drawn is said to be one
drawn-by : (s : State) (a : Wanted) (x slot n m : ℕ) (v : View) (w : Window) (d : ℕ) → said_of s a (choice v w d) ≡ did (x ∷ slot ∷ n ∷ m ∷ [])
    → choice v w d ≡ Ok (at x n)
drawn-by s a x slot n m =
    choice-cases (λ p. said_of s a p ≡ did (x ∷ slot ∷ n ∷ m ∷ []) → p ≡ Ok (at x n))
    (λ p e. by p (ap (λ (t : Said). t.values) e))
    (λ e. absurd (omega (arith, ap (λ (t : Said). t.number) e)))
    (λ e. absurd (omega (arith, ap (λ (t : Said). t.number) e)))
  where
    by : (p : Picked) → (said_of s a (Ok p)).values ≡ x ∷ slot ∷ n ∷ m ∷ [] → ◌≡◌ {A = Result Picked Refusal} (Ok p) (Ok (at x n))
    by p values =
        let y : p.distance ≡ x = ap (λ (l : List ℕ). get_or l 0 0) values in
        let k : p.candidates ≡ n = ap (λ (l : List ℕ). get_or l 2 0) values in
        λ i. Ok (at (y i) (k i))

module _ (s : State) (a : Wanted) (x slot n m : ℕ) (e : Chose s a x slot n m) where
  -- every test held
  tests-held : AllHold (choose_tests s a)
  unfolding choose choose_tests
  tests-held = all-answered given_number (choose_tests s a) (chooses s a) tt (ap (λ (t : Said). t.number) e)

  -- so what is given then is answered and left
  pub through : choose s a ≡ chooses s a
  unfolding choose
  through = all-through (choose_tests s a) (chooses s a) tests-held

  pub draws : Draws s a
  unfolding choose_tests
  draws = comes-to-draw s a tests-held

  -- it is the slot drawn, and what is said of it
  drawn-says : said_of s a (drawn_in s a) ≡ did (x ∷ slot ∷ n ∷ m ∷ [])
  drawn-says = sym (draw-says s a draws) ∙ e

  pub drawn : drawn_in s a ≡ Ok (at x n)
  drawn = drawn-by s a x slot n m _ _ _ drawn-says

  values : (said_of s a (Ok (at x n))).values ≡ x ∷ slot ∷ n ∷ m ∷ []
  values = ap (λ (p : Result Picked Refusal). (said_of s a p).values) (sym drawn) ∙ ap (λ (t : Said). t.values) drawn-says

pub chosen-is-candidate : ChosenIsCandidate
chosen-is-candidate s a x slot n m e =
    let told = values s a x slot n m e in
    record {
      draws = draws s a x slot n m e;
      picks = pick-is-candidate (view_in s) (window_in s a) a.draw x n (drawn s a x slot n m e);
      numbered = cc;
      counted = cc;
    }

pub marks-in-the-book : MarksInTheBook
marks-in-the-book s a x slot n m e = marks-in s a x n (draws s a x slot n m e).asked (drawn s a x slot n m e)
