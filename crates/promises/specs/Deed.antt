-- The deed of sale: what each of its demands rests on, under one name each. The statements stand where they are proved; here they are gathered.
-- Assumes nothing.
use Rattle.packet.specs.Promises as packet
use Rattle.message.specs.Promises as message
use Rattle.choosing.specs.ChoosePromises as choosing
use Rattle.board.specs.Promises as board
use Rattle.calls.specs.Promises as calls
use Rattle.logrecords.specs.Promises as logrecords
use Rattle.journal.specs.Promises as journal
use Rattle.promises.specs.ByTheContracts.{ByTheCode}
use Rattle.promises.specs.History.{HoldersByEvents}
use Rattle.promises.specs.Records.{RecordByCall, LastMessageDecides}
use Rattle.promises.specs.Tallies.{TalliesAreCounts, AllMakeTheWhole, CallKeeps, PlanLeavesNone}
use Rattle.promises.specs.Logs.{LogIsCalls, CutLogIsCalls, LastLineSumsUp, BeginIsNew}
use Rattle.promises.specs.Windows.{OwnInWindows}
use Rattle.promises.specs.Examples.{MarkedExamples}

-- demand 1: each unfit input gets its number, exactly when the table says, and then nothing has changed
pub record Refuses : Type 0 where
  pub packet-written : packet.WriteExactly
  pub packet-read : packet.ReadExactly
  pub message-written : message.WriteExactly
  pub message-read : message.ReadExactly
  pub board-packet-written : board.PacketWriteExactly
  pub board-packet-read : board.PacketReadExactly
  pub board-message-written : board.MessageWriteExactly
  pub board-message-read : board.MessageReadExactly
  pub called : calls.RefusesExactly
  pub never-beyond : choosing.NeverBeyond
  pub log : logrecords.LogExactly

-- demand 2: packets and messages both ways, the holder of every slot time, what is known of a station, the draw, and a log cut anywhere
pub record Agrees : Type 0 where
  pub packet-back : packet.ReadAfterWrite
  pub packet-again : packet.WriteAfterRead
  pub message-back : message.ReadAfterWrite
  pub message-again : message.WriteAfterRead
  pub holders : HoldersByEvents
  pub records-by-call : RecordByCall
  pub last-message-decides : LastMessageDecides
  pub picked : choosing.ChosenIsCandidate
  pub marks-in-the-book : choosing.MarksInTheBook
  pub equal-draws : choosing.EqualDraws
  pub rest-sent-back : choosing.RestSentBack
  pub none-exactly : choosing.NoneExactly
  pub free-are-candidates : choosing.FreeAreCandidates
  pub held-only-under-four : choosing.HeldOnlyUnderFour
  pub reuse-under-four : choosing.ReuseUnderFour
  pub farthest-first : choosing.FarthestFirst
  pub ties-to-the-earlier : choosing.TiesToTheEarlier
  pub number-of-candidates : choosing.NumberOfCandidates
  pub only-replaced-held-off : choosing.OnlyReplacedHeldOff
  pub cut-anywhere : journal.HoweverCut
  pub sum-is-last : journal.SumIsLast
  pub step-is-part : journal.StepIsPart
  pub log-is-calls : LogIsCalls
  pub cut-log-is-calls : CutLogIsCalls

-- demand 3: the parts equal the whole, and our slots lie in the plan's windows
pub record Adds : Type 0 where
  pub tallies : TalliesAreCounts
  pub whole : AllMakeTheWhole
  pub each-call : CallKeeps
  pub none-after-a-plan : PlanLeavesNone
  pub windows : OwnInWindows
  pub last_line : LastLineSumsUp
  pub begins-new : BeginIsNew

-- each call has one answer, and leaves one content of everything lent
pub record Once : Type 0 where
  pub packet-written : packet.WriteOnce
  pub packet-read : packet.ReadOnce
  pub message-written : message.WriteOnce
  pub message-read : message.ReadOnce
  pub board-packet-written : board.PacketWriteOnce
  pub board-packet-read : board.PacketReadOnce
  pub board-message-written : board.MessageWriteOnce
  pub board-message-read : board.MessageReadOnce
  pub called : calls.OneAnswer
  pub stepped : journal.OneAnswer

pub record Deed : Type 0 where
  pub refuses : Refuses
  pub agrees : Agrees
  pub adds : Adds
  pub once : Once
  pub code : ByTheCode
  pub examples : MarkedExamples
