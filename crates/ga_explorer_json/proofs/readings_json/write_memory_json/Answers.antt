use Rattle.std.proofs.Common.{ap, ◌∙◌}
use Rattle.ga_explorer_json.specs.Readings.{address_word_json, memory_word_json}
use Rattle.ga_explorer_json.proofs.Writing.{object_as}
use Rattle.ga_explorer_json.proofs.readings_json.write_memory_json.Goals as goal

pub returns : goal.returns
returns g c =
    object_as g.W.Write.contents c.write_object.result c.args.writer.now c.write_object.new.writer c.memory_fields.result
    (memory_word_json c.args.lab.now c.args.node c.args.address) (c.memory_fields.ensures ∙ ap (address_word_json c.args.node c.args.address) c.memory-word.ensures) c.write_object.ensures
