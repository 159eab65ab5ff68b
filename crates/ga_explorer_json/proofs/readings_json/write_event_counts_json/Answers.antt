use Rattle.std.proofs.Common.{ℕ, ap, ◌∙◌, length}
use Rattle.ga_explorer_json.specs.Readings.{event_counts_json, history_counts_json}
use Rattle.ga_explorer_json.proofs.Writing.{object_as}
use Rattle.ga_explorer_json.proofs.readings_json.write_event_counts_json.Goals as goal

pub returns : goal.returns
returns g c =
    let s = c.args.lab.now in
    let counts = c.counts-counts.result in
    object_as g.W.Write.contents c.write_object.result c.args.writer.now c.write_object.new.writer c.count_fields.result (history_counts_json s)
    (c.count_fields.ensures
    ∙ ap (λ (z : ℕ). event_counts_json z counts.made counts.limit) c.counts-counts.ensures.kept
    ∙ ap (λ (z : ℕ). event_counts_json (length s.kept) z counts.limit) c.counts-counts.ensures.made
    ∙ ap (event_counts_json (length s.kept) s.made) c.counts-counts.ensures.limit) c.write_object.ensures
