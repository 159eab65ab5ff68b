use Rattle.std.proofs.Common.{◌≡◌, ℕ, List, [], ◌∙◌, subst}
use Rattle.std.specs.Prelude.{IfOk}
use Rattle.ga_text.specs.Output.{WritesExactly}
use Rattle.ga_explorer.specs.inner.{strict_action_after_answer, IsRefusalNoted}
use Rattle.ga_explorer.proofs.StrictLemmas.{held_long}
use Rattle.ga_explorer.proofs.strict.pass_on.Goals as goal

pub returns-clause-answer : goal.returns-clause-answer
returns-clause-answer g c = λ answer h.
    let flushed = c.in_ok-flush.ensures.said.1 [] answer h in
    let same : c.as_slice-2.result.now ≡ answer =
    c.as_slice-2.ensures.value ∙ held_long c.flush.new.self.stream.now.items answer c.flush.new.self.pending.items flushed c.in_ok-flush.ensures.sent in
    let P : List ℕ → Type 0 = λ t. WritesExactly c.write_answer-2.result t g.W.Write.contents c.args.writer.now c.write_answer-2.new.writer
    × IfOk c.write_answer-2.result (λ turn. turn ≡ strict_action_after_answer t)
    × IfOk c.write_answer-2.result (λ turn. IsRefusalNoted turn t c.write_answer-2.new.refusal.items) in
    subst P same (c.write_answer-2.ensures.written, c.write_answer-2.ensures.turn, c.write_answer-2.ensures.noted)
