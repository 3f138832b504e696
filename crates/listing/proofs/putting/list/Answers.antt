use mathlib.Core.Path.{refl, sym, ap, ◌∙◌}
use native.Mathlib.Omega.{arith}
use lib.Seq.{sets}
use Rattle.bits.specs.Row.{all_fit}
use Rattle.message.specs.State.{incremental_row}
use Rattle.message.specs.Message.{id_in, report_of, report_row}
use Rattle.message.specs.Sheet.{organised_from, incremental_from}
use Rattle.message.specs.declared.reading.ReportRead.{ReportRead}
use Rattle.message.specs.declared.state.Incremental.{Incremental}
use Rattle.message.proofs.Readings.{organised-from, incremental-from, was-increasing, was-organised}
use Rattle.message.proofs.RoundTrip.{report-fits, incremental-fits}
use Rattle.listing.specs.Listing.{report_numbers}
use Rattle.listing.proofs.Fits.{small, report-small}
use Rattle.listing.proofs.Stored.{at-most-five, stored}
use Rattle.listing.proofs.Straight.{numbers-three, numbers-other}
use Rattle.listing.proofs.putting.list.Goals as goal

pub put_report-requires : goal.put_report-requires
put_report-requires c =
    (c.requires.3, report-small _ _ (ap (λ (x : ReportRead). all_fit (report_row c.args.id x.report)) c.report_in-x.ensures ∙ report-fits _ _ (sym c.requires.1)))

pub returns-in_default : goal.returns-in_default
returns-in_default c =
    let l = c.args.bytes.now in
    let out = c.args.out.now in
    let id = c.requires.1 in
    let e = c.report_in-x.ensures in
    let kind = was-organised _ _ _ (sym c.state_in-state.ensures ∙ c.in_default.is) in
    let first = c.put_report.ensures ∙ (λ j. sets out 0 (report_numbers (id j) (e j).report)) in
    let state = ap (λ (x : ReportRead). organised_from x.state) e ∙ organised-from l c.requires.0 in
    stored _ (report_numbers (id_in l) (report_of l)) _ out _ _ _ 15 (numbers-other l (rw id at kind) (λ four. c.if-id-eq4.false (id ∙ four)) c.requires.2 _ state) refl
    (omega (arith, at-most-five (organised_from c.report_in-x.result.state), c.requires.3)) first c.put_organised.ensures

pub put_incremental-requires : goal.put_incremental-requires
put_incremental-requires c =
    let kind = was-increasing _ _ _ (sym c.state_in-state.ensures ∙ c.in-Incremental.is) in
    let state = kind.1 ∙ ap (λ (x : ReportRead). incremental_from x.state) c.report_in-x.ensures ∙ incremental-from _ c.requires.0 in
    let s = small _ (ap (λ (i : Incremental). all_fit (incremental_row i)) state ∙ incremental-fits _) in
    (omega (arith, c.put_report.auto.out, c.requires.3), (s 0 tt, s 1 tt), (s 2 tt, s 3 tt))

pub returns : goal.returns
returns c =
    let l = c.args.bytes.now in
    let out = c.args.out.now in
    let id = c.requires.1 in
    let e = c.report_in-x.ensures in
    let kind = was-increasing _ _ _ (sym c.state_in-state.ensures ∙ c.in-Incremental.is) in
    let first = c.put_report.ensures ∙ (λ j. sets out 0 (report_numbers (id j) (e j).report)) in
    let state = kind.1 ∙ ap (λ (x : ReportRead). incremental_from x.state) e ∙ incremental-from l c.requires.0 in
    stored _ (report_numbers (id_in l) (report_of l)) _ out _ _ _ 15 (numbers-three l (rw id at kind.0) _ state) refl (omega (arith, c.requires.3)) first c.put_incremental.ensures
