use Rattle.std.specs.Prelude.{true}
use Rattle.std.proofs.Common.{◌≡◌, sym, ◌∙◌, ap, subst, inl}
use Rattle.ga_lab.specs.Machine.{MachineState}
use Rattle.ga_console.specs.Run.{IsOpenedOnImage}
use Rattle.ga_image.specs.Given.{ranges_of_given_words}
use Rattle.ga_explorer.specs.Opening.{ExplorerState, begins_as_image}
use Rattle.ga_explorer.proofs.opening.open_alone.Goals as goal

pub returns-in-Ok-clause-ok : goal.returns-in-Ok-clause-ok
returns-in-Ok-clause-ok g c =
    let is : begins_as_image c.args.text.items ≡ true = sym (c.is_image.ensures ∙ ap begins_as_image c.as_slice.ensures.value) ∙ c.if-is_image.true in
    inl (
      is,
      record {
        notes = c.for_image.result;
        opens = subst (λ (s : MachineState). IsOpenedOnImage c.args.text.items c.args.limit s) (sym (ap (λ (begun : ExplorerState). begun.lab) c.of.ensures)) c.in-Ok.ensures.ok;
        noted = ap (λ (begun : ExplorerState). begun.notes) c.of.ensures;
        labels = c.for_image.ensures.names;
        cells = c.for_image.ensures.notes;
        slots = c.for_image.ensures.words;
        expected = c.for_image.ensures.expectations;
        gives = ap ranges_of_given_words c.for_image.ensures.given ∙ c.in-Ok.ensures.given;
      },
    )
