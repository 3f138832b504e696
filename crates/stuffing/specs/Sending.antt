-- What sending bits comes to: the words for the contract of `send` in src/stuff.rt.
-- Assumes nothing.
use Rattle.std.specs.Prelude.{◌≡◌, ℕ, ◌+◌, List, ◌++◌, length}
use Rattle.std.proofs.lemmas.List.Edits.{sets}
use Rattle.stuffing.specs.Stuff.{flag, stuffed}
use Rattle.stuffing.specs.Filling.{left_of}
use Rattle.stuffing.specs.declared.stuff.Sending.{Sending}

-- what is still to be stored: these bits, stuffed, and the closing flag
unfoldable pub to_come : ℕ → List ℕ → List ℕ
to_come tail bits = stuffed (left_of tail) bits ++ flag

-- sending these bits leads from one place to another: what comes after them completes what was to be stored
pub record Leads (bits : List ℕ) (s : Sending) (out : List ℕ) (s' : Sending) (out' : List ℕ) : Type 0 where
  pub size : (rest : List ℕ) → s'.at + length (to_come s'.tail rest) ≡ s.at + length (to_come s.tail (bits ++ rest))
  pub stored : (rest : List ℕ) → sets out' s'.at (to_come s'.tail rest) ≡ sets out s.at (to_come s.tail (bits ++ rest))
