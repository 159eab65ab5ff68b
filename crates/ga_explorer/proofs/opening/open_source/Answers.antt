use Rattle.std.proofs.Common.{◌∙◌, List, ap, subst}
use Rattle.ga_source.specs.declared.program.Program.{Program}
use Rattle.ga_debug_info.specs.Given.{HasGivenRangesOfSource}
use Rattle.ga_debug_info.specs.Notes.{IsDebugInfoOfSource}
use Rattle.ga_explorer.specs.Opening.{ExplorerState}
use Rattle.ga_explorer.proofs.opening.open_source.Goals as goal

pub returns-in-Ok-new : goal.returns-in-Ok-new
returns-in-Ok-new g c = record {
  chip = c.in-Ok.assembled.chip;
  programs = c.in-Ok.assembled.programs.items;
  notes = c.in-Ok-debug_info_of_source.notes;
  assembled = c.in-Ok.ensures.programs;
  read = c.in-Ok.ensures.read;
  asked = c.in-Ok.ensures.asked;
  groups = c.in-Ok.ensures.groups;
  made = c.in-Ok.ensures.made;
  load = ap (λ (begun : ExplorerState). begun.lab) c.of.ensures ∙ c.in-Ok-new.ensures.ok;
  noted = ap (λ (begun : ExplorerState). begun.notes) c.of.ensures;
  says = subst (λ (programs : List Program). IsDebugInfoOfSource c.args.source.now programs c.in-Ok-debug_info_of_source.notes) c.as_slice.ensures.value c.in-Ok-debug_info_of_source.ensures.notes;
  gives = subst (λ (programs : List Program). HasGivenRangesOfSource programs c.in-Ok-debug_info_of_source.notes) c.as_slice.ensures.value c.in-Ok-debug_info_of_source.ensures.given;
}
