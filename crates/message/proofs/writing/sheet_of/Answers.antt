use mathlib.Core.Path.{sym, ap, ◌∙◌}
use Rattle.std.specs.Prelude.{Some}
use Rattle.message.specs.Sheet.{report_rows, base_rows, sheet_of}
use Rattle.message.specs.declared.layout.Rows.{Rows}
use Rattle.message.specs.declared.writing.Sheet.TheVariants.{Report, Base}
use Rattle.message.proofs.writing.sheet_of.Goals as goal

pub returns-in-One : goal.returns-in-One
unfolding sheet_of
returns-in-One c = ap (λ (x : Rows). Some (Report x)) (c.report_rows.ensures ∙ ap (report_rows 1 _) c.organised_value.ensures) ∙ sym (ap sheet_of c.in-One.is)

pub returns-in-Two : goal.returns-in-Two
unfolding sheet_of
returns-in-Two c = ap (λ (x : Rows). Some (Report x)) (c.report_rows-in-Two.ensures ∙ ap (report_rows 2 _) c.organised_value-in-Two.ensures) ∙ sym (ap sheet_of c.in-Two.is)

pub returns-in-Three : goal.returns-in-Three
unfolding sheet_of
returns-in-Three c = ap (λ (x : Rows). Some (Report x)) (c.report_rows-in-Three.ensures ∙ ap (report_rows 3 _) c.incremental_value.ensures) ∙ sym (ap sheet_of c.in-Three.is)

pub returns-in-Four : goal.returns-in-Four
unfolding sheet_of
returns-in-Four c = ap (λ (x : Rows). Some (Base x)) (c.base_rows.ensures ∙ ap (base_rows _) c.organised_value-in-Four.ensures) ∙ sym (ap sheet_of c.in-Four.is)

pub returns-in-Other : goal.returns-in-Other
unfolding sheet_of
returns-in-Other c = cc
