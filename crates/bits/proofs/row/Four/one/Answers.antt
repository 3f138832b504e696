use mathlib.Core.Path.{sym, ◌∙◌}
use native.Mathlib.Nat.{lt_of_lt_of_le}
use native.Mathlib.Omega.{arith}
use lib.Dec.{lit<}
use lib.Pow.{pow_mono, shl_exact}
use Rattle.bits.proofs.Rows.{four-fits, one-joined, one-wide}
use Rattle.bits.proofs.row.Four.one.Goals as goal

pub returns-then-not-fits : goal.returns-then-not-fits
returns-then-not-fits c = rw c.total.ensures (shl_exact 1 _ 32 (lit< tt) (omega arith) ∙ omega arith) ∙ sym (one-wide _ _ _ _ _ (sym c.fits.ensures ∙ c.if-not-fits.true))

pub overflow_cast-result-2 : goal.overflow_cast-result-2
overflow_cast-result-2 c =
    let fit = sym c.fits.ensures ∙ c.if-not-fits.false in
    record { fits = rw c.joined.ensures (lt_of_lt_of_le (four-fits _ _ _ _ _ fit) (pow_mono {j = 32} (omega arith))) }

pub returns : goal.returns
returns c = c.joined.ensures ∙ sym (one-joined _ _ _ _ _ (sym c.fits.ensures ∙ c.if-not-fits.false))
