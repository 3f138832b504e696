-- What is promised of lists of numbers, beyond what each call's contract says. Proved in proofs/Back.antt.
-- Assumes nothing.
use Rattle.std.specs.Prelude.{◌≡◌, true, List, ℤ}
use Rattle.laws.specs.Lists.{over}
use Rattle.bits.specs.Row.{all_fit}
use Rattle.message.specs.Message.{known, row_of}
use Rattle.message.specs.declared.Message.{Message}
use Rattle.listing.specs.Listing.{numbers_of, message_in}

-- a message that can be written comes back from its list, whatever stood in the lent list before
abbrev pub MessageBack : Type 0
MessageBack = (m : Message) (out : List ℤ) → known m ≡ true → all_fit (row_of m) ≡ true → message_in (over (numbers_of m) out) ≡ m
