use Rattle.std.proofs.Common.{rules, ◌≡◌, ℕ, List, [], ◌++◌, Some, refl, ap, sym, ◌∙◌}
use Rattle.ga_text.proofs.WriteLemmas.{truncated_here, truncated_more, said_cut}
use Rattle.ga_json.specs.Compact.{json_line}
use Rattle.ga_console.proofs.RunLemmas.{written_fresh}
use Rattle.ga_explorer.specs.Commands.{text_query_name, text_query_text}
use Rattle.ga_explorer_json.specs.Texts.{text_answer_json}
use Rattle.ga_explorer_json.proofs.Writing.{answer_as}
use Rattle.ga_explorer.proofs.StrictLemmas.{held_long}
use Rattle.ga_explorer_json.proofs.text_json.write_query_text.Goals as goal

pub returns-in_err-write_text : goal.returns-in_err-write_text
returns-in_err-write_text g c = (
  search rules,
  λ before said h.
      let text = json_line (text_answer_json (text_query_name c.args.query) (text_query_text c.args.lab.now c.args.query)) in
      truncated_here c.from_residual.result _ before (said ++ text) _ c.from_residual.ensures.0 (truncated_more _ before said text (said_cut _ before said _ h)),
)

pub returns-in_err-flush : goal.returns-in_err-flush
returns-in_err-flush g c = (
  search rules,
  λ before said h.
      let text = json_line (text_answer_json (text_query_name c.args.query) (text_query_text c.args.lab.now c.args.query)) in
      truncated_here c.from_residual-in_err-flush.result _ before (said ++ text) _ c.from_residual-in_err-flush.ensures.0 (truncated_more _ before said text (said_cut _ before said _ h)),
)

pub returns : goal.returns
returns g c =
    let stream = c.new-held.ensures.stream in
    let empty = c.new-long.ensures.items in
    let begun : c.new-held.result.stream.now.items ≡ [] = cc in
    let done = c.in_ok-write_text.ensures.1 [] [] (written_fresh _ [] [] _ (ap Some begun) c.new-held.ensures.nothing) in
    let flushed = c.in_ok-flush.ensures.said.1 [] done.0 done.2 in
    let same : c.as_slice.result.now ≡ text_query_text c.args.lab.now c.args.query =
    c.as_slice.ensures.value ∙ held_long c.flush.new.self.stream.now.items done.0 c.flush.new.self.pending.items flushed c.in_ok-flush.ensures.sent ∙ done.1 in
    answer_as g.W.Write.contents c.write_text_answer.result c.args.writer.now c.write_text_answer.new.writer (text_answer_json c.name.result.now c.as_slice.result.now)
    (text_answer_json (text_query_name c.args.query) (text_query_text c.args.lab.now c.args.query))
    (ap (λ z. text_answer_json z c.as_slice.result.now) c.name.ensures ∙ ap (text_answer_json (text_query_name c.args.query)) same) c.write_text_answer.ensures
