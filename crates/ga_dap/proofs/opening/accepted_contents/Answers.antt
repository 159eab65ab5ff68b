use Rattle.std.proofs.Common.{Result, Ok, Err, inl, inr}
use Rattle.std.specs.Prelude.{IfErr}
use Rattle.ga_source.specs.Made.{IsPlainSource}
use Rattle.ga_dap.specs.declared.opening.LaunchError.{LaunchError}
use Rattle.ga_dap.specs.declared.opening.LaunchError.TheVariants.{Memory, SourceFault}
use Rattle.ga_dap.specs.Opening.{IsRefusedSource}
use Rattle.ga_dap.specs.inner.Unopened.{HoldsIfLaunchTextFault}
use Rattle.ga_dap.proofs.opening.accepted_contents.Goals as goal

-- what holds where a text has a fault
if_fault : (P : Type 0) → P → (why : LaunchError) → HoldsIfLaunchTextFault why P
if_fault P is Memory = tt
if_fault P is (SourceFault why) = is

-- and what follows from it
fault_so : {A : Type 0} (result : Result A LaunchError) (P Q : Type 0) → (P → Q) → IfErr result (λ (why : LaunchError). HoldsIfLaunchTextFault why P) → IfErr result (λ (why : LaunchError). HoldsIfLaunchTextFault why Q)
fault_so (Ok opened) P Q follows is = tt
fault_so (Err Memory) P Q follows is = tt
fault_so (Err (SourceFault why)) P Q follows is = follows is

pub returns-in-Ok-clause-err : goal.returns-in-Ok-clause-err
returns-in-Ok-clause-err c = fault_so c.source_contents.result (IsPlainSource c.args.source.now → ⊥) (IsRefusedSource c.args.source.now) (λ unsound. inl unsound) c.source_contents.ensures.err

pub returns-in-Err-FaultyLines-clause-err : goal.returns-in-Err-FaultyLines-clause-err
returns-in-Err-FaultyLines-clause-err c =
    if_fault (IsRefusedSource c.args.source.now) (inr (c.in-Err-FaultyLines.faults.items, rw c.in-Err-FaultyLines.field-0-is at c.in-Err-FaultyLines.ensures.err)) c.faults_told.result
