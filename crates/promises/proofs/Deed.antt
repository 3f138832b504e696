-- The deed is kept.
-- Assumes nothing.
use Rattle.packet.proofs.RoundTrip as packet
use Rattle.packet.proofs.Exactly as packet-numbers
use Rattle.message.proofs.RoundTrip as message
use Rattle.message.proofs.Exactly as message-numbers
use Rattle.choosing.proofs.Chosen as choosing
use Rattle.choosing.proofs.Draws as draws
use Rattle.choosing.proofs.HoldingOff as holding
use Rattle.board.proofs.Once as board
use Rattle.board.proofs.Exactly as board-numbers
use Rattle.calls.proofs.Promised as calls
use Rattle.logrecords.proofs.Promised as logrecords
use Rattle.journal.proofs.Promised as journal
use Rattle.promises.specs.Deed.{Deed}
use Rattle.promises.proofs.Holders.{holders-by-events}
use Rattle.promises.proofs.Counted.{tallies-are-counts, all-make-the-whole, call-keeps, plan-leaves-none}
use Rattle.promises.proofs.Logs.{log-is-calls, cut-log-is-calls, last-line-sums-up, begin-is-new}
use Rattle.promises.proofs.Records.{record-by-call}
use Rattle.promises.proofs.Told.{last-message-decides}
use Rattle.promises.proofs.Windows.{own-in-windows}
use Rattle.promises.proofs.Twelve.{marked-examples}
use Rattle.promises.proofs.Contracts.{by-the-code}

pub deed : Deed
deed =
    record {
      refuses = record {
        packet-written = packet-numbers.write-exactly;
        packet-read = packet-numbers.read-exactly;
        message-written = message-numbers.write-exactly;
        message-read = message-numbers.read-exactly;
        board-packet-written = board-numbers.packet-write-exactly;
        board-packet-read = board-numbers.packet-read-exactly;
        board-message-written = board-numbers.message-write-exactly;
        board-message-read = board-numbers.message-read-exactly;
        called = calls.refuses-exactly;
        never-beyond = choosing.never-beyond;
        log = logrecords.log-exactly;
      };
      agrees = record {
        packet-back = packet.read-after-write;
        packet-again = packet.write-after-read;
        message-back = message.read-after-write;
        message-again = message.write-after-read;
        holders = holders-by-events;
        records-by-call = record-by-call;
        last-message-decides = last-message-decides;
        picked = choosing.chosen-is-candidate;
        marks-in-the-book = choosing.marks-in-the-book;
        equal-draws = draws.equal-draws;
        rest-sent-back = draws.rest-sent-back;
        none-exactly = draws.none-exactly;
        free-are-candidates = draws.free-are-candidates;
        held-only-under-four = draws.held-only-under-four;
        reuse-under-four = draws.reuse-under-four;
        farthest-first = draws.farthest-first;
        ties-to-the-earlier = draws.ties-to-the-earlier;
        number-of-candidates = draws.number-of-candidates;
        only-replaced-held-off = holding.only-replaced-held-off;
        cut-anywhere = journal.however-cut;
        sum-is-last = journal.sum-is-last;
        step-is-part = journal.step-is-part;
        log-is-calls = log-is-calls;
        cut-log-is-calls = cut-log-is-calls;
      };
      adds = record {
        tallies = tallies-are-counts;
        whole = all-make-the-whole;
        each-call = call-keeps;
        none-after-a-plan = plan-leaves-none;
        windows = own-in-windows;
        last_line = last-line-sums-up;
        begins-new = begin-is-new;
      };
      once = record {
        packet-written = packet.write-once;
        packet-read = packet.read-once;
        message-written = message.write-once;
        message-read = message.read-once;
        board-packet-written = board.packet-write-once;
        board-packet-read = board.packet-read-once;
        board-message-written = board.message-write-once;
        board-message-read = board.message-read-once;
        called = calls.one_answer;
        stepped = journal.one_answer;
      };
      code = by-the-code;
      examples = marked-examples;
    }
