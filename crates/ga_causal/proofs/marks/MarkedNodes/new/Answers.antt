use Rattle.std.proofs.Common.{◌||◌, ◌∙◌, ap}
use mathlib.Core.Path.{fun_ext}
use Rattle.ga_causal.specs.Dependence.{event_with_look_touches_node}
use Rattle.ga_causal.proofs.marks.MarkedNodes.new.Goals as goal

pub returns : goal.returns
returns c = fun_ext (λ n. c.add_touched_nodes.ensures n ∙ ap (λ z. z || event_with_look_touches_node c.args.event n) (c.none-nodes.ensures n))
