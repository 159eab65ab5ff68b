use Rattle.std.proofs.Common.{ℕ, Option, None, Some, ap, sym, ◌∙◌}
use Rattle.ga_explorer_json.specs.Changes.{run_json, removal_counts_json, expecting_refusal_json, change_result_json}
use Rattle.ga_explorer_json.proofs.Writing.{answer_as}
use Rattle.ga_explorer_json.proofs.changes_json.write_change_result_json.Goals as goal

pub returns-in-RunEnded : goal.returns-in-RunEnded
returns-in-RunEnded g c =
    let command = c.args.command.now in
    answer_as g.W.Write.contents c.write_run_json.result c.args.writer.now c.write_run_json.new.writer (run_json command c.in-RunEnded.ran.events c.in-RunEnded.ran.end)
    (change_result_json command c.args.came) (ap (change_result_json command) (sym c.in-RunEnded.is)) c.write_run_json.ensures

pub returns-in-Some : goal.returns-in-Some
returns-in-Some g c =
    let command = c.args.command.now in
    answer_as g.W.Write.contents c.write_removed_events.result c.args.writer.now c.write_removed_events.new.writer (removal_counts_json command (Some c.from.result) c.in-EventsRemoved.kept)
    (change_result_json command c.args.came)
    (ap (λ (z : ℕ). removal_counts_json command (Some z) c.in-EventsRemoved.kept) c.from.ensures
    ∙ ap (λ (o : Option ℕ). removal_counts_json command o c.in-EventsRemoved.kept) (sym c.in-Some.is) ∙ ap (change_result_json command) (sym c.in-EventsRemoved.is)) c.write_removed_events.ensures

pub returns-in-None : goal.returns-in-None
returns-in-None g c =
    let command = c.args.command.now in
    answer_as g.W.Write.contents c.write_removed_events-in-None.result c.args.writer.now c.write_removed_events-in-None.new.writer (removal_counts_json command None c.in-EventsRemoved.kept)
    (change_result_json command c.args.came)
    (ap (λ (o : Option ℕ). removal_counts_json command o c.in-EventsRemoved.kept) (sym c.in-None.is) ∙ ap (change_result_json command) (sym c.in-EventsRemoved.is)) c.write_removed_events-in-None.ensures

pub returns-in-Refused : goal.returns-in-Refused
returns-in-Refused g c =
    let command = c.args.command.now in
    answer_as g.W.Write.contents c.write_expecting_refusal.result c.args.writer.now c.write_expecting_refusal.new.writer (expecting_refusal_json command c.in-Refused.why) (change_result_json command c.args.came)
    (ap (change_result_json command) (sym c.in-Refused.is)) c.write_expecting_refusal.ensures
