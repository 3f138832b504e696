-- Each call of the C face has one answer, and leaves one content of everything lent.
-- Assumes nothing.
use mathlib.Core.Path.{sym, ◌∙◌}
use Rattle.board.specs.Promises.{PacketWriteOnce, PacketReadOnce, MessageReadOnce, MessageWriteOnce}

pub packet-write-once : PacketWriteOnce
packet-write-once payload bits count r r' o o' n n' h k = (h.0 ∙ sym k.0, h.1 ∙ sym k.1, h.2 ∙ sym k.2)

pub packet-read-once : PacketReadOnce
packet-read-once bits payload count r r' o o' n n' h k = (h.0 ∙ sym k.0, h.1 ∙ sym k.1, h.2 ∙ sym k.2)

pub message-read-once : MessageReadOnce
message-read-once l fields count r r' o o' n n' h k = (h.0 ∙ sym k.0, h.1 ∙ sym k.1, h.2 ∙ sym k.2)

pub message-write-once : MessageWriteOnce
message-write-once fields out r r' o o' h k = (h.0 ∙ sym k.0, h.1 ∙ sym k.1)
