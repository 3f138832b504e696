-- The paper's number for each refusal, and for each answer. No call gives back another, and none of them is 0, which stands for "not refused".
-- Assumes nothing.
use Rattle.std.specs.Prelude.{ℕ, Result, Ok, Err}
use Rattle.numbers.specs.declared.Refusal.{Refusal}
use Rattle.numbers.specs.declared.Refusal.TheVariants.{NotBits, BadLength, NoRoom, NoFlag, BadStuffing, NotWhole, BadCheck, MessageLength, UnknownId, TooWide, OtherLength, BadSource, Repeated, NoRecord, OutOfRange, NoPlan, WindowTaken, NoCandidate, DrawBack, BeyondBook, NotOwn, CutRecord, UnknownRecord}

abbrev pub number_of : Refusal → ℕ
number_of NotBits = 10
number_of BadLength = 11
number_of NoRoom = 12
number_of NoFlag = 13
number_of BadStuffing = 14
number_of NotWhole = 15
number_of BadCheck = 16
number_of MessageLength = 17
number_of UnknownId = 18
number_of TooWide = 19
number_of OtherLength = 20
number_of BadSource = 21
number_of Repeated = 22
number_of NoRecord = 23
number_of OutOfRange = 30
number_of NoPlan = 31
number_of WindowTaken = 32
number_of NoCandidate = 33
number_of DrawBack = 34
number_of BeyondBook = 35
number_of NotOwn = 36
number_of CutRecord = 40
number_of UnknownRecord = 41

-- the number that an answer is given back as
abbrev pub number_given : {A : Type 0} → Result A Refusal → ℕ
number_given (Ok x) = 0
number_given (Err r) = number_of r
