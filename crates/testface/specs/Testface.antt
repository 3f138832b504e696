-- What the C call of choosing promises: what its bytes ask, and how its answer is packed.
-- Assumes nothing.
use Rattle.std.specs.Prelude.{ℕ, ◌+◌, ◌*◌, ◌%◌, List, ℤ, get_or, Result, Ok, Err}
use Rattle.numbers.specs.declared.Refusal.{Refusal}
use Rattle.numbers.specs.Numbers.{number_of}
use Rattle.message.specs.Signs.{signed_of}
use Rattle.ship.specs.declared.Station.{Station}
use Rattle.book.specs.declared.Watch.{Watch}
use Rattle.walks.specs.Out.{Out, out}
use Rattle.register.specs.declared.Slot.{Slot}
use Rattle.register.specs.declared.Reply.{Reply}
use Rattle.register.specs.declared.Answer.{Answer}
use Rattle.register.specs.declared.Answer.TheVariants.{Passed, Heard, Planned, Set, Chosen, Report, Begun, Sum}
use Rattle.register.specs.State.{state_of}
use Rattle.register.specs.Answers.{out_of}
use Rattle.choosing.specs.declared.Wanted.{Wanted}
use Rattle.calls.specs.declared.Ask.{Ask}
use Rattle.calls.specs.declared.What.TheVariants.{Choose}
use Rattle.calls.specs.Calls.{asked, called}

-- ---- what is asked: numbers with the low byte first; a byte that is not there counts as 0

unfoldable pub word_at : List ℕ → ℕ → ℕ
word_at bs at = get_or bs at 0 + 256 * get_or bs (at + 1) 0

-- two's complement in 28 bits
unfoldable pub place_at : List ℕ → ℕ → ℤ
place_at bs at = signed_of 28 (word_at bs at + 65536 * (word_at bs (at + 2) % 4096))

unfoldable pub watch_in : List ℕ → Watch
watch_in bs =
    record {
      present = word_at bs 0;
      channel = record { counts = record { free = word_at bs 2; own = word_at bs 4 }; plan = record { rate = word_at bs 6; start = word_at bs 8 } };
      ship = record { source = 0; latitude = place_at bs 14; longitude = place_at bs 18 };
    }

abbrev pub wanted_in : List ℕ → ℕ → Wanted
wanted_in bs draw = record { k = word_at bs 10; timeout = word_at bs 12; draw = draw }

abbrev pub ask_in : List ℕ → ℕ → Ask
ask_in bs draw = asked (watch_in bs) 0 (Choose (wanted_in bs draw))

-- ---- what is answered: from the low bits on the number of a refusal (8 bits), marks replaced (8), candidates, slot number and distance (16 each)

unfoldable pub slot_packed : Slot → ℕ
slot_packed s = (((s.distance % 65536 * 65536 + s.slot % 65536) * 65536 + s.candidates % 65536) * 256 + s.replaced % 256) * 256

abbrev pub done_packed : Answer → ℕ
done_packed Passed = 0
done_packed (Heard m) = 0
done_packed Planned = 0
done_packed Set = 0
done_packed (Chosen s) = slot_packed s
done_packed (Report m) = 0
done_packed Begun = 0
done_packed (Sum n) = 0

unfoldable pub packed : Result Answer Refusal → ℕ
packed (Ok a) = done_packed a
packed (Err r) = number_of r

abbrev pub packed_out : Out Reply → Out ℕ
packed_out o = out (packed o.answer.answer) o.reg o.book

-- the public call, with its answer packed
abbrev pub chosen_out : List Station → List ℕ → List ℕ → ℕ → Out ℕ
chosen_out reg book bs draw = packed_out (out_of (called (state_of reg book (watch_in bs)) 0 bs (Choose (wanted_in bs draw))))
