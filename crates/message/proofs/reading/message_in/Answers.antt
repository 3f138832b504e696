use mathlib.Core.Path.{sym, ap, subst, ◌∙◌}
use Rattle.message.specs.Sheet.{incremental_from, organised_from, StandsIn, one_or_two}
use Rattle.message.specs.declared.reading.ReportRead.{ReportRead}
use Rattle.message.specs.declared.Message.TheVariants.{Three}
use Rattle.message.proofs.Readings.{organised-from, incremental-from, state-stands, was-increasing, was-organised, message-four, message-three, message-other}
use Rattle.message.proofs.reading.message_in.Goals as goal

pub returns-then-id-eq4 : goal.returns-then-id-eq4
returns-then-id-eq4 c = c.base_message.ensures ∙ message-four _ (sym c.requires.1 ∙ c.if-id-eq4.true)

pub organised-requires : goal.organised-requires
organised-requires c = subst (StandsIn c.report_in-x.result.state) (sym c.state_in-state.ensures) (state-stands _ _)

pub returns-in_default : goal.returns-in_default
returns-in_default c =
    let e = c.report_in-x.ensures in
    let kind = was-organised _ _ _ (sym c.state_in-state.ensures ∙ c.in_default.is) in
    c.organised.ensures ∙ (λ j. one_or_two (c.requires.1 j) (e j).report (organised_from (e j).state)) ∙ ap (one_or_two _ _) (organised-from _ c.requires.0)
    ∙ message-other _ (rw c.requires.1 at kind) (λ four. c.if-id-eq4.false (c.requires.1 ∙ four))

pub returns : goal.returns
returns c =
    let e = c.report_in-x.ensures in
    let kind = was-increasing _ _ _ (sym c.state_in-state.ensures ∙ c.in-Incremental.is) in
    let state = kind.1 ∙ ap (λ (x : ReportRead). incremental_from x.state) e ∙ incremental-from _ c.requires.0 in
    (λ j. Three (e j).report (state j)) ∙ message-three _ (rw c.requires.1 at kind.0)
