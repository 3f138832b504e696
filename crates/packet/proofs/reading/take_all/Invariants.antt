use Rattle.std.specs.Slice.Iter.{chunks_exact_rest, chunks_exact_size}
use mathlib.Core.Path.{◌≡◌}
use Rattle.packet.proofs.Taken.{Onward}
use Rattle.packet.proofs.reading.take_all.Given as goal

abbrev pub invariant-loop-word : goal.invariant-loop-word
invariant-loop-word l = Onward l.part l.initial.s l.initial.raw l.s l.raw (chunks_exact_rest l.word-iterator) × (chunks_exact_size l.word-iterator ≡ 32)
