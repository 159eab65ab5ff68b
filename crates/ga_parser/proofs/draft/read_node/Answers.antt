use Rattle.std.proofs.Common.{◌∙◌, ◌≡◌, sym, inl, inr, rules}
use Rattle.std.specs.Prelude.{Err}
use Rattle.std.proofs.lemmas.List.{drop_all}
use Rattle.ga_parser.specs.Requests.{refusal_of_source_fault}
use Rattle.ga_parser.specs.inner.Drafting.{parse_state_of_builder}
use Rattle.ga_parser.proofs.Asking.{one_heard, one_refused, none_left}
use Rattle.ga_parser.proofs.draft.read_node.Goals as goal

pub loop-i-preserved : goal.loop-i-preserved
loop-i-preserved c =
    sym (one_heard (parse_state_of_builder c.loop-i.draft) c.loop-i.last c.args.tokens.now c.loop-i.i _ c.text_at.result.now c.loop-i-test.true c.text_at.ensures
    (parse_state_of_builder c.take.new.self) c.in_ok-take.ensures) ∙ c.loop-i.invariant

pub returns : goal.returns
returns c =
    sym c.loop-i.invariant ∙ (none_left (parse_state_of_builder c.loop-i.draft) c.loop-i.last _ (drop_all c.loop-i.i c.args.tokens.now c.loop-i-test.false) ∙ c.in_ok-finish.ensures)

pub returns-in_err-finish : goal.returns-in_err-finish
returns-in_err-finish c =
    let e : c.from_residual-in_err-finish.result ≡ Err c.in_err-finish.field-0.0 = search rules in
    rw e (elim c.in_err-finish.ensures [
      | inl memory ↦ inl memory
      | inr refused ↦ inr (sym c.loop-i.invariant ∙ (none_left (parse_state_of_builder c.loop-i.draft) c.loop-i.last _ (drop_all c.loop-i.i c.args.tokens.now c.loop-i-test.false) ∙ refused))
    ])

pub returns-in_err-take : goal.returns-in_err-take
returns-in_err-take c =
    let e : c.from_residual.result ≡ Err c.in_err-take.field-0.0 = search rules in
    rw e (elim c.in_err-take.ensures [
      | inl memory ↦ inl memory
      | inr refused ↦ inr (sym c.loop-i.invariant ∙ one_refused (parse_state_of_builder c.loop-i.draft) c.loop-i.last c.args.tokens.now c.loop-i.i _ c.text_at.result.now c.loop-i-test.true c.text_at.ensures
          (refusal_of_source_fault c.in_err-take.field-0.0) refused)
    ])
