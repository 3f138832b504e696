use mathlib.Core.Path.{sym, ap₂, ◌∙◌}
use native.Mathlib.Omega.{arith}
use Rattle.message.specs.declared.Message.TheVariants.{One, Two, Three, Four}
use Rattle.listing.proofs.Said.{message-one, message-two, message-three, message-four, message-other}
use Rattle.listing.proofs.message_in.Goals as goal

pub returns-in-1 : goal.returns-in-1
returns-in-1 c = ap₂ One c.report_in.ensures c.organised_in.ensures ∙ message-one _ (sym c.plain_at.ensures ∙ c.in-1.is)

pub returns-in-2 : goal.returns-in-2
returns-in-2 c = ap₂ Two c.report_in-in-2.ensures c.organised_in-in-2.ensures ∙ message-two _ (sym c.plain_at.ensures ∙ c.in-2.is)

pub returns-in-3 : goal.returns-in-3
returns-in-3 c = ap₂ Three c.report_in-in-3.ensures c.incremental_in.ensures ∙ message-three _ (sym c.plain_at.ensures ∙ c.in-3.is)

pub returns-in-4 : goal.returns-in-4
returns-in-4 c = ap₂ Four c.base_in.ensures c.organised_in-in-4.ensures ∙ message-four _ (sym c.plain_at.ensures ∙ c.in-4.is)

pub returns-in_default : goal.returns-in_default
returns-in_default c =
    message-other _ _ c.plain_at.ensures (λ e. omega (arith, e)) (λ e. omega (arith, e)) (λ e. omega (arith, e)) (λ e. omega (arith, e))
