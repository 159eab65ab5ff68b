-- The requests that the words of a node make, and how words are refused (docs/REFERENCE.md, "Source"; this project's own).
use Rattle.std.specs.Prelude.{ℕ, ◌≡◌, List, map, Ok}
use Rattle.ga_parser.specs.declared.fault.SourceFaultCause.{SourceFaultCause}
use Rattle.ga_parser.specs.declared.fault.SourceFaultCause.TheVariants.{LongLine as TooLong, OpenComment as LeftOpen, UnknownWord as WhatIs, NameTaken as IsTaken, MissingNameOrValue as IsMissing, NoNumber as NumberLeftOut, LabelTwice as StandsTwice, RegisterTwice as GivenTwice, UnmatchedControlWord as NothingOpen, UnclosedControlWord as NeverClosed, OperandOutOfRange as OutOfRange}
use Rattle.ga_parser.specs.declared.fault.SourceFault.{SourceFault}
use Rattle.ga_parser.specs.declared.item.NodeRequests.{NodeRequests}
use Rattle.ga_parser.specs.Saying.{TokenContent}
use Rattle.ga_parser.specs.Asking.{ParseState, RefusalCause, Refusal, label_content, requests_of_words}
use Rattle.ga_parser.specs.Asking.RefusalCause.{LongLine, OpenComment, UnknownWord, NameTaken, MissingNameOrValue, NoNumber, LabelTwice, RegisterTwice, UnmatchedControlWord, Unclosed, NoNumberHere, FaultBeyondWords}

-- what is wrong with words, where a fault is one of words
abbrev pub refusal_cause_of_fault_cause : SourceFaultCause → RefusalCause
refusal_cause_of_fault_cause TooLong = LongLine
refusal_cause_of_fault_cause LeftOpen = OpenComment
refusal_cause_of_fault_cause (WhatIs name) = UnknownWord name.now
refusal_cause_of_fault_cause IsTaken = NameTaken
refusal_cause_of_fault_cause IsMissing = MissingNameOrValue
refusal_cause_of_fault_cause NumberLeftOut = NoNumber
refusal_cause_of_fault_cause StandsTwice = LabelTwice
refusal_cause_of_fault_cause GivenTwice = RegisterTwice
refusal_cause_of_fault_cause NothingOpen = UnmatchedControlWord
refusal_cause_of_fault_cause NeverClosed = Unclosed
refusal_cause_of_fault_cause (OutOfRange word range) = NoNumberHere word.now range
refusal_cause_of_fault_cause _ = FaultBeyondWords

abbrev pub refusal_of_source_fault : SourceFault → Refusal
refusal_of_source_fault fault = record { line = fault.line; wrong = refusal_cause_of_fault_cause fault.cause }

-- The requests are exactly those of the words after a node's name on this line: each request with its line, the labels with
-- their names and lines in the order in which the words name them, and the registers with theirs.
pub record AreRequestsOfWords (line : ℕ) (words : List TokenContent) (requests : NodeRequests) : Type 0 where
  pub last : ParseState
  pub asks : requests_of_words line words ≡ Ok last
  pub asked : requests.asked.items ≡ last.asked
  pub names : map label_content requests.names.items ≡ last.labels
  pub registers : requests.registers ≡ last.registers
