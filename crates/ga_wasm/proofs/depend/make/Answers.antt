use Rattle.std.proofs.Common.{◌≡◌, Ok, sym, ap, ◌∙◌}
use Rattle.ga_grid.specs.Chip.{records_of_chip}
use Rattle.ga_event.specs.declared.event.EventWithLook.{EventWithLook}
use Rattle.ga_event.specs.Apply.{apply, event_with_look_on_chip}
use Rattle.ga_event.specs.Undo.{outcome_of_effect}
use Rattle.ga_wasm.proofs.depend.make.Goals as goal

pub returns-in-Ok-apply : goal.returns-in-Ok-apply
returns-in-Ok-apply c =
    let same : c.event_with_look_on_chip-cause.result.event ≡ c.in-Ok.event = ap (λ (z : EventWithLook). z.event) c.event_with_look_on_chip-cause.ensures in
    record {
      node = c.new-node.result;
      told = outcome_of_effect c.in-Ok-apply._effect;
      number = c.new-node.ensures;
      due = sym c.next_event.ensures ∙ c.in-Ok.is ∙ ap (λ z. Ok z) (sym same);
      look = c.event_with_look_on_chip-cause.ensures ∙ ap (event_with_look_on_chip (records_of_chip c.args.chip.now)) (sym same);
      done = ap (apply (records_of_chip c.args.chip.now)) same ∙ c.in-Ok-apply.ensures.ok.done;
    }
