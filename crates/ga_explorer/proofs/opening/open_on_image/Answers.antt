use Rattle.std.proofs.Common.{map, sym, ◌∙◌, ap, subst}
use Rattle.ga_lab.specs.Machine.{MachineState}
use Rattle.ga_debug_info.specs.declared.notes.DebugInfo.{DebugInfo}
use Rattle.ga_console.specs.Run.{IsOpenedOnImage}
use Rattle.ga_image.specs.Given.{ranges_of_given_words}
use Rattle.ga_debug_info.specs.Source.{label_address_content, cell_source_content}
use Rattle.ga_debug_info.specs.Notes.{AreSlotWords}
use Rattle.ga_parser.specs.Expectations.{expectation_content}
use Rattle.ga_explorer.specs.Opening.{ExplorerState}
use Rattle.ga_explorer.proofs.opening.open_on_image.Goals as goal

pub returns-in-Ok-clause-ok : goal.returns-in-Ok-clause-ok
returns-in-Ok-clause-ok g c = record {
  notes = c.with_words.result;
  opens = subst (λ (s : MachineState). IsOpenedOnImage c.args.image.items c.args.limit s) (sym (ap (λ (begun : ExplorerState). begun.lab) c.of.ensures)) c.in-Ok.ensures.ok;
  noted = ap (λ (begun : ExplorerState). begun.notes) c.of.ensures;
  notes_of = let known = c.in-Some.ensures in record {
    chip = known.chip;
    programs = known.programs;
    assembled = known.assembled;
    read = known.read;
    asked = known.asked;
    groups = known.groups;
    made = known.made;
    says = record {
      labels = ap (λ (notes : DebugInfo). map label_address_content notes.names.items) c.with_words.ensures ∙ known.says.labels;
      cells = ap (λ (notes : DebugInfo). map cell_source_content notes.notes.items) c.with_words.ensures ∙ known.says.cells;
      slots = subst (λ (notes : DebugInfo). AreSlotWords c.args.source.now notes.words.items) (sym c.with_words.ensures) known.says.slots;
      expected = ap (λ (notes : DebugInfo). map expectation_content notes.expectations.items) c.with_words.ensures ∙ known.says.expected;
    };
  };
  gives = ap (λ (notes : DebugInfo). ranges_of_given_words notes.given) c.with_words.ensures ∙ c.in-Ok.ensures.given;
}
