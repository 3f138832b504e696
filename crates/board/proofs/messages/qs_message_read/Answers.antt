use mathlib.Core.Path.{refl, sym, ap, ◌∙◌}
use Rattle.message.specs.Message.{read_answer}
use Rattle.message.proofs.Readings.{read-good}
use Rattle.board.proofs.Answers.{list-room, list_read, listed}
use Rattle.board.proofs.messages.qs_message_read.Goals as goal

pub returns-then-fields-lt-LIST_PLACES : goal.returns-then-fields-lt-LIST_PLACES
returns-then-fields-lt-LIST_PLACES c = listed _ _ _ _ (list-room _ _ c.if-fields-lt-LIST_PLACES.true) c.into.ensures refl refl

pub returns-in-Ok : goal.returns-in-Ok
returns-in-Ok c =
    let head = c.in-Ok.head in
    let h = c.in-Ok.ensures in
    let read = read-good _ head.whole (rw head.told at h.1) ∙ ap read_answer h.0 in
    listed _ _ _ _ (list_read _ _ c.if-fields-lt-LIST_PLACES.false read) refl c.list.ensures.1 c.list.ensures.0

pub returns-in-Err : goal.returns-in-Err
returns-in-Err c = listed _ _ _ _ (list_read _ _ c.if-fields-lt-LIST_PLACES.false (sym c.in-Err.ensures)) c.from.ensures refl refl
