use Rattle.std.proofs.Common.{ap}
use Rattle.ga_node.specs.Record.{record_of_node}
use Rattle.ga_explorer_json.specs.NodeState.{node_record_json, node_json}
use Rattle.ga_explorer_json.proofs.Writing.{answer_as}
use Rattle.ga_explorer_json.proofs.node_json.write_node_json.Goals as goal

pub returns : goal.returns
returns g c =
    answer_as g.W.Write.contents c.write_node_record.result c.args.writer.now c.write_node_record.new.writer (node_record_json c.args.node (record_of_node c.node.result.now))
    (node_json c.args.lab.now c.args.node) (ap (node_record_json c.args.node) c.node.ensures.value) c.write_node_record.ensures
