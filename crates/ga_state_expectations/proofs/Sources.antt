-- What follows from the faults of lines.
use Rattle.std.proofs.Common.{List}
use Rattle.ga_state_expectations.specs.declared.cause.ExpectationFault.{ExpectationFault}
use Rattle.ga_state_expectations.specs.declared.cause.ExpectationsError.{ExpectationsError}
use Rattle.ga_state_expectations.specs.declared.cause.ExpectationsError.TheVariants.{Memory, FaultyLines}
use Rattle.ga_state_expectations.specs.Lines.{HoldsForExpectationFaults}

pub faulty_so : (P Q : List ExpectationFault → Type 0) → ((faults : List ExpectationFault) → P faults → Q faults) → (why : ExpectationsError)
    → HoldsForExpectationFaults why P → HoldsForExpectationFaults why Q
faulty_so P Q follows Memory is = is
faulty_so P Q follows (FaultyLines faults) is = follows faults.items is
