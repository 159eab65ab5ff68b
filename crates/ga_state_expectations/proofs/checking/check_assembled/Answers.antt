use Rattle.std.proofs.Common.{◌≡◌, List, Some, Err, inr, map, subst}
use Rattle.ga_source.specs.declared.program.Program.{Program}
use Rattle.ga_debug_info.specs.Notes.{IsDebugInfoOfSource}
use Rattle.ga_state_expectations.specs.Lines.{line_expectation_content, source_expectations}
use Rattle.ga_state_expectations.specs.Sources.{HasFaultyExpectations}
use Rattle.ga_state_expectations.proofs.Sources.{faulty_so}
use Rattle.ga_state_expectations.proofs.checking.check_assembled.Goals as goal

pub returns-in-Ok-parse_expectations-clause-ok : goal.returns-in-Ok-parse_expectations-clause-ok
returns-in-Ok-parse_expectations-clause-ok c = inr (inr (record {
  programs = c.in-Ok.assembled.programs.items;
  notes = c.in_ok-notes-in-Ok.notes;
  all = map line_expectation_content c.in-Ok-parse_expectations.field-0.items;
  asked = c.in-Ok.ensures.asked;
  says = subst (λ (programs : List Program). IsDebugInfoOfSource c.args.source.now programs c.in_ok-notes-in-Ok.notes) c.as_slice.ensures.value c.in_ok-notes-in-Ok.ensures.notes;
  expected = c.in-Ok-parse_expectations.ensures;
}))

pub returns-in-Ok-clause-err : goal.returns-in-Ok-clause-err
returns-in-Ok-clause-err c =
    faulty_so (λ faults. source_expectations (Some c.in_ok-notes-in-Ok.notes) ≡ Err faults) (HasFaultyExpectations c.args.source.now)
    (λ faults is. record {
      programs = c.in-Ok.assembled.programs.items;
      notes = c.in_ok-notes-in-Ok.notes;
      asked = c.in-Ok.ensures.asked;
      says = subst (λ (programs : List Program). IsDebugInfoOfSource c.args.source.now programs c.in_ok-notes-in-Ok.notes) c.as_slice.ensures.value c.in_ok-notes-in-Ok.ensures.notes;
      faulty = is;
    })
    c.in-Err-parse_expectations.why c.in-Err-parse_expectations.ensures
