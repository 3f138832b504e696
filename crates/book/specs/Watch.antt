-- What is kept besides the book and the register.
-- Assumes nothing.
use Rattle.limits.specs.Limits.{slot_times}
use Rattle.ship.specs.Ship.{unknown_ship}
use Rattle.book.specs.declared.Watch.{Watch}

-- a new watch: now is slot 0, nothing is held, no plan, our ship unknown
abbrev pub new_watch : Watch
new_watch = record {
  present = 0;
  channel = record { counts = record { free = slot_times; own = 0 }; plan = record { rate = 0; start = 0 } };
  ship = unknown_ship;
}
