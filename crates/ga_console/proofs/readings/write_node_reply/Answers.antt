use Rattle.std.proofs.Common.{rules, ap, inl, refl}
use Rattle.ga_node.specs.Record.{record_of_node}
use Rattle.ga_display.specs.Texts.{node_text}
use Rattle.ga_console.proofs.ReplyLemmas.{replies}
use Rattle.ga_console.proofs.readings.write_node_reply.Goals as goal

pub returns : goal.returns
returns g c = λ wording. (
  search rules,
  λ before said h. (
    node_text c.args.node (record_of_node c.node.result.now),
    inl (replies _ _ c.args.lab.now c.args.lab.now (ap (node_text c.args.node) c.node.ensures.value) refl),
    c.write_node.ensures.1 before said h,
  ),
)
