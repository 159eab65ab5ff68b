use Rattle.std.proofs.Common.{length, refl}
use Rattle.ga_explorer_json.specs.Rows.{json_rows_of_items}
use Rattle.ga_explorer_json.specs.Effects.{rollback_effect_json, rollback_effects_head_fields}
use Rattle.ga_explorer_json.proofs.Writing.{report_as}
use Rattle.ga_explorer_json.proofs.effects_json.write_listed_effects.Goals as goal

pub returns : goal.returns
returns g c =
    let effects = c.args.effects.now in
    report_as g.W.Write.contents c.write_report.result c.args.writer.now c.write_report.new.writer c.rollback_effects_head_fields-head.result
    (rollback_effects_head_fields c.args.node c.args.step c.args.events (length effects)) (json_rows_of_items (rollback_effect_json c.args.notes.now c.args.lab.now) effects) (json_rows_of_items (rollback_effect_json c.args.notes.now c.args.lab.now) effects)
    c.rollback_effects_head_fields-head.ensures refl c.write_report.ensures
