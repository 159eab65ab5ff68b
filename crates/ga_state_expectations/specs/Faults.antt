-- What standard error says of lines that say what is expected (docs/REFERENCE.md, "Expectations"; this project's own): what is wrong, and what
-- would be right.
use Rattle.std.specs.Prelude.{◌-◌, List, ◌++◌, length, take, codes, decimal, flat_map}
use Rattle.ga_text.specs.Lines.{Text}
use Rattle.ga_debug_info.specs.Faults.{prefixed_line, more_faults_text, max_reported_faults, error_prefix, out_of_memory_text}
use Rattle.ga_state_conditions.specs.declared.asked.ConditionFault.{ConditionFault}
use Rattle.ga_state_conditions.specs.declared.asked.ConditionFault.TheVariants.{Syntax, CountsSteps, CountsWords, TooManyConditions}
use Rattle.ga_state_expectations.specs.declared.cause.ExpectationFaultCause.{ExpectationFaultCause}
use Rattle.ga_state_expectations.specs.declared.cause.ExpectationFaultCause.TheVariants as cause
use Rattle.ga_state_expectations.specs.declared.cause.ExpectationFault.{ExpectationFault}
use Rattle.ga_state_expectations.specs.declared.cause.ExpectationsError.{ExpectationsError}
use Rattle.ga_state_expectations.specs.declared.cause.ExpectationsError.TheVariants.{Memory, FaultyLines}

-- of conditions after `never`
abbrev pub never_condition_fault_text : ConditionFault → Text
never_condition_fault_text Syntax = codes "no such condition: never NNN VALUE OP NUMBER, pass NNN MMM OP NUMBER, stop, stop NNN, wait NNN, stuck NNN, mem NNN HH = NUMBER, p NNN X, reach NNN X, change NNN HH [= NUMBER], or COND or COND"
never_condition_fault_text CountsSteps = codes "a state counts no steps: compare another value of the node, or a word that passes"
never_condition_fault_text CountsWords = codes "a state counts no words: give the word, as pass NNN MMM OP NUMBER does"
never_condition_fault_text TooManyConditions = codes "too many conditions: at most 8 after a never, others on a line of their own"

abbrev pub expectation_fault_cause_text : ExpectationFaultCause → Text
expectation_fault_cause_text cause.NoExpectation = codes "nothing is expected: [NNN] VALUE OP NUMBER, [NNN] reads SIDE .., [NNN] writes SIDE, [NNN] awaits code, [NNN] stops N, pass NNN MMM = NUMBERS [..], never COND or COND .., every order ends, or one end"
expectation_fault_cause_text cause.NoSuchChipExpectation = codes "no such expectation: every order ends, or one end"
expectation_fault_cause_text cause.NoNode = codes "no node has begun: NNN before it names one"
expectation_fault_cause_text cause.NoSuchNode = codes "no such node: a row of 0 to 7, then a column of 00 to 17"
expectation_fault_cause_text cause.NoSuchValue = codes "no such value: t s r p a b i, d2 to d9, r1 to r8, io, slot, carry or a cell [HH]; nor is it reads, writes, awaits or stops"
expectation_fault_cause_text cause.CountsSteps = codes "an end counts no steps: compare another value"
expectation_fault_cause_text cause.NoSuchComparison = codes "no such comparison: VALUE OP NUMBER, where OP is = != < <= > or >="
expectation_fault_cause_text cause.NoNumber = codes "a number is missing: VALUE OP NUMBER"
expectation_fault_cause_text cause.NoSuchNumber = codes "no such number: 291, 0x123, -5, a word of six hexadecimal digits, a port, or a label of the node"
expectation_fault_cause_text cause.OutOfRange = codes "number out of range (-131072 to 262143)"
expectation_fault_cause_text cause.NoSide = codes "a side is missing: left, right, up or down"
expectation_fault_cause_text cause.NoSuchSide = codes "no such side: left, right, up or down"
expectation_fault_cause_text cause.TooManySides = codes "too many sides: a node writes to one, and reads from four at most"
expectation_fault_cause_text cause.AwaitedNotCode = codes "no such wait: awaits code, reads SIDE .. or writes SIDE"
expectation_fault_cause_text cause.NoSuchStop = codes "no such stop: stops 1, stops 2 or stops 3"
expectation_fault_cause_text cause.NotLink = codes "no such expectation: pass NNN MMM = NUMBERS, or pass NNN MMM = NUMBERS .. if others may come after them"
expectation_fault_cause_text cause.NotNeighbours = codes "not neighbours: words pass between a node and the next one in its row or column"
expectation_fault_cause_text cause.NoLinkWords = codes "no words: pass NNN MMM = NUMBERS, or never pass NNN MMM >= 0 if none may come"
expectation_fault_cause_text cause.TooManyLinkWords = codes "too many words: at most 64, then .. for any others"
expectation_fault_cause_text cause.WordsAfterEnd = codes "words after ..: it comes last, for any others"
expectation_fault_cause_text (cause.NeverConditionFault fault) = never_condition_fault_text fault

-- a fault with its line
abbrev pub expectation_fault_text : ExpectationFault → Text
expectation_fault_text fault = codes "line " ++ decimal fault.line ++ codes ": " ++ expectation_fault_cause_text fault.cause

-- the first of some faults, each on a line, and the number of the others
abbrev pub expectation_faults_text : Text → List ExpectationFault → Text
expectation_faults_text prefix faults =
    flat_map (λ fault. prefixed_line prefix (expectation_fault_text fault)) (take max_reported_faults faults)
    ++ more_faults_text prefix (length faults - max_reported_faults)

-- why lines give no expectations
abbrev pub expectations_error_text : ExpectationsError → Text
expectations_error_text Memory = out_of_memory_text
expectations_error_text (FaultyLines faults) = expectation_faults_text error_prefix faults.items
