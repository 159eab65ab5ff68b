use Rattle.std.proofs.Common.{List, refl, subst}
use Rattle.ga_source.specs.declared.program.Program.{Program}
use Rattle.ga_debug_info.specs.Given.{HasGivenRangesOfSource}
use Rattle.ga_debug_info.specs.Notes.{IsDebugInfoOfSource}
use Rattle.ga_dap.proofs.opening.source_contents.Goals as goal

pub returns-in_ok-lab-in-Ok-clause-ok : goal.returns-in_ok-lab-in-Ok-clause-ok
returns-in_ok-lab-in-Ok-clause-ok c = record {
  chip = c.in-Ok.assembled.chip;
  programs = c.in-Ok.assembled.programs.items;
  notes = c.in_ok-notes-in-Ok.notes;
  assembled = c.in-Ok.ensures.programs;
  read = c.in-Ok.ensures.read;
  asked = c.in-Ok.ensures.asked;
  groups = c.in-Ok.ensures.groups;
  made = c.in-Ok.ensures.made;
  load = c.in_ok-lab-in-Ok.ensures;
  noted = refl;
  says = subst (λ (programs : List Program). IsDebugInfoOfSource c.args.source.now programs c.in_ok-notes-in-Ok.notes) c.as_slice-programs.ensures.value c.in_ok-notes-in-Ok.ensures.notes;
  gives = subst (λ (programs : List Program). HasGivenRangesOfSource programs c.in_ok-notes-in-Ok.notes) c.as_slice-programs.ensures.value c.in_ok-notes-in-Ok.ensures.given;
}
