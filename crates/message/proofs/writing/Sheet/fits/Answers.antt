use mathlib.Core.Path.{sym, ap, ◌∙◌}
use Rattle.bits.specs.Row.{all_fit}
use Rattle.message.specs.Sheet.{fields_of}
use Rattle.message.specs.declared.writing.Sheet.{Sheet}
use Rattle.message.proofs.writing.Sheet.fits.Goals as goal

pub returns-in-Report : goal.returns-in-Report
returns-in-Report c = c.fits.ensures ∙ ap (λ (s : Sheet). all_fit (fields_of s)) (sym c.in-Report.is)

pub returns-in-Base : goal.returns-in-Base
returns-in-Base c = c.fits-in-Base.ensures ∙ ap (λ (s : Sheet). all_fit (fields_of s)) (sym c.in-Base.is)
