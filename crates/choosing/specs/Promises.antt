-- What is promised of choosing, beyond what each function's contract says. Proved in proofs/Promised.antt.
-- Assumes nothing.
use Rattle.std.specs.Prelude.{ℕ, ◌+◌, ◌*◌, ◌<◌, ◌≡◌, List, Ok}
use Rattle.limits.specs.Limits.{frame_slots, slot_times, most_time_out}
use Rattle.ship.specs.declared.Station.{Station}
use Rattle.book.specs.declared.Watch.{Watch}
use Rattle.candidates.specs.Window.{at}
use Rattle.candidates.specs.Promises.{Picks}
use Rattle.choosing.specs.declared.Wanted.{Wanted}
use Rattle.choosing.specs.Choosing.{window_of, view_of, picked_in}
use Rattle.choosing.specs.Scanning.{asked, scanned, judged}

-- asking, scanning and judging come to the document's choice in the window meant
abbrev pub FindsTheChoice : Type 0
FindsTheChoice =
    (reg : List Station) (slots : List ℕ) (w : Watch) (a : Wanted) → a.timeout < most_time_out + 1
    → judged slots (asked slots w a) (scanned reg slots (asked slots w a)) ≡ picked_in reg slots w a

-- what is picked is a candidate of the window meant
abbrev pub PickedIsCandidate : Type 0
PickedIsCandidate =
    (reg : List Station) (slots : List ℕ) (w : Watch) (a : Wanted) (x n : ℕ) → picked_in reg slots w a ≡ Ok (at x n)
    → Picks (view_of reg slots w) (window_of w a) x n

-- and the marks of it and its later frames lie in the book
abbrev pub PickedInTheBook : Type 0
PickedInTheBook =
    (reg : List Station) (slots : List ℕ) (w : Watch) (a : Wanted) (x n : ℕ) → a.timeout < most_time_out + 1 → picked_in reg slots w a ≡ Ok (at x n)
    → x + frame_slots * a.timeout < slot_times
