use mathlib.Core.Path.{◌≡◌, refl, sym, subst, ap, ◌∙◌}
use mathlib.Core.List.{List}
use Prim.Native.Nat.{ℕ}
use Rattle.std.specs.Prelude.{Option, Result, Err, ok_or}
use Rattle.std.proofs.lemmas.Result.{err_from_is_err_and}
use Rattle.laws.specs.Lists.{over}
use Rattle.limits.specs.Limits.{message_bytes}
use Rattle.numbers.specs.declared.Refusal.{Refusal}
use Rattle.numbers.specs.declared.Refusal.TheVariants.{UnknownId}
use Rattle.bits.specs.Field.{packed}
use Rattle.message.specs.Sheet.{sheet_of}
use Rattle.message.specs.Message.{write_out, bytes_of}
use Rattle.message.specs.declared.Message.{Message}
use Rattle.message.specs.declared.writing.Sheet.{Sheet}
use Rattle.message.proofs.Writings.{Says, says, write-room, write-unknown, write-wide, write-good}
use Rattle.message.proofs.write.Goals as goal

-- what is known of the sheet that was matched
said : (m : Message) {s t : Option Sheet} → s ≡ sheet_of m → s ≡ t → Says m t
said m e f = subst (Says m) (sym e ∙ f) (says m)

pub returns-then-out-lt-MESSAGE : goal.returns-then-out-lt-MESSAGE
unfolding write_out
returns-then-out-lt-MESSAGE c = (write-room _ _ c.if-out-lt-MESSAGE.true, refl)

pub returns-in_err-sheet : goal.returns-in_err-sheet
unfolding write_out
returns-in_err-sheet c =
    let none = c.in_err-sheet.ensures.ok_part in
    let p = err_from_is_err_and c.from_residual.result c.from_residual.ensures.1 in
    let is : ◌≡◌ {A = Result Sheet Refusal} (Err c.in_err-sheet.field-0.0) (Err UnknownId) = c.in_err-sheet.ensures.value ∙ ap (λ (o : Option Sheet). ok_or o UnknownId) none in
    let same : c.in_err-sheet.field-0.0 ≡ UnknownId = cc in
    rw (p.1, p.2, same) (write-unknown _ _ c.if-out-lt-MESSAGE.false (said c.args.message c.sheet_of.ensures none), refl)

pub returns-then-not-fits : goal.returns-then-not-fits
unfolding write_out
returns-then-not-fits c =
    let h = said c.args.message c.sheet_of.ensures c.in_ok-sheet.ensures.ok_part in
    (write-wide _ _ c.if-out-lt-MESSAGE.false h.0 (sym h.1.0 ∙ sym c.fits.ensures ∙ c.if-not-fits.true), refl)

pub returns : goal.returns
unfolding write_out bytes_of
returns c =
    let h = said c.args.message c.sheet_of.ensures c.in_ok-sheet.ensures.ok_part in
    let fit = sym h.1.0 ∙ sym c.fits.ensures ∙ c.if-not-fits.false in
    (write-good _ _ c.if-out-lt-MESSAGE.false h.0 fit, c.put.ensures ∙ ap (λ (bits : List ℕ). over (packed message_bytes bits) c.args.out.now) (h.1.1 fit))
