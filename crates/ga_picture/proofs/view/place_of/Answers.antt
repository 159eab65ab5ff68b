use Rattle.std.proofs.Common.{sym, ap, ◌∙◌}
use Rattle.ga_causal.specs.Dependence.{position_of_step}
use Rattle.ga_picture.specs.Picture.{event_position_of_step}
use Rattle.ga_picture.proofs.view.place_of.Goals as goal

pub returns-in-Last-clause-value : goal.returns-in-Last-clause-value
returns-in-Last-clause-value c =
    c.position_of_step-in-Last.ensures.value
    ∙ (ap (position_of_step c.args.events.now c.args.node.number) c.count_touching.ensures.value ∙ sym (ap (event_position_of_step c.args.events.now c.args.node) c.in-Last.is))
