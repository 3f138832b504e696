use mathlib.Core.Path.{refl}
use Rattle.message.specs.Message.{write_out}
use Rattle.board.proofs.Answers.{said-room, said-short, refused, handed}
use Rattle.board.proofs.messages.qs_message_write.Goals as goal

pub returns-then-message-lt-MESSAGE : goal.returns-then-message-lt-MESSAGE
unfolding write_out
returns-then-message-lt-MESSAGE c = refused _ _ _ (said-room _ _ c.if-message-lt-MESSAGE.true) c.into.ensures refl

pub returns-then-fields-lt-LIST_PLACES : goal.returns-then-fields-lt-LIST_PLACES
unfolding write_out
returns-then-fields-lt-LIST_PLACES c = refused _ _ _ (said-short _ _ c.if-message-lt-MESSAGE.false c.if-fields-lt-LIST_PLACES.true) c.into-then-fields-lt-LIST_PLACES.ensures refl

pub returns-in-Ok : goal.returns-in-Ok
returns-in-Ok c =
    handed _ _ c.if-message-lt-MESSAGE.false c.if-fields-lt-LIST_PLACES.false c.message_in.ensures c.write.ensures c.in-Ok.is refl

pub returns-in-Err : goal.returns-in-Err
returns-in-Err c =
    handed _ _ c.if-message-lt-MESSAGE.false c.if-fields-lt-LIST_PLACES.false c.message_in.ensures c.write.ensures c.in-Err.is c.from.ensures
