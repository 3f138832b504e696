use mathlib.Core.Path.{sym, ap, ◌∙◌}
use Rattle.laws.specs.Lists.{over}
use Rattle.limits.specs.Limits.{message_bytes}
use Rattle.bits.specs.Field.{packed}
use Rattle.bits.specs.Row.{laid, all_fit}
use Rattle.message.specs.Sheet.{fields_of}
use Rattle.message.specs.declared.writing.Sheet.{Sheet}
use Rattle.message.proofs.Writings.{report-whole, base-whole}
use Rattle.message.proofs.writing.Sheet.put.Goals as goal

pub put-requires : goal.put-requires
put-requires c = (c.requires.0, report-whole, ap (λ (s : Sheet). all_fit (fields_of s)) (sym c.in-Report.is) ∙ c.requires.1)

pub put-requires-in-Base : goal.put-requires-in-Base
put-requires-in-Base c = (c.requires.0, base-whole, ap (λ (s : Sheet). all_fit (fields_of s)) (sym c.in-Base.is) ∙ c.requires.1)

pub returns-in-Report : goal.returns-in-Report
returns-in-Report c =
    c.put.ensures ∙ ap (λ (s : Sheet). over (packed message_bytes (laid (fields_of s))) c.args.out.now) (sym c.in-Report.is)

pub returns-in-Base : goal.returns-in-Base
returns-in-Base c =
    c.put-in-Base.ensures ∙ ap (λ (s : Sheet). over (packed message_bytes (laid (fields_of s))) c.args.out.now) (sym c.in-Base.is)
