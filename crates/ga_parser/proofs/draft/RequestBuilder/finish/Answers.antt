use Rattle.std.proofs.Common.{◌∙◌, sym, inr, refl, subst, List, ◌≡◌, get_or, ◌<◌, length}
use Rattle.ga_parser.specs.declared.controls.Open.{Open}
use Rattle.ga_parser.specs.inner.Drafting.{parse_state_of_builder}
use Rattle.ga_parser.proofs.Asking.{open_refused}
use Rattle.ga_parser.proofs.draft.RequestBuilder.finish.Goals as goal

pub returns-in-Some : goal.returns-in-Some
returns-in-Some c =
    let there : 0 < length c.args.self.now.open.items = subst (λ (l : List Open). 0 < length l) c.deref.ensures.value c.in-Some.ensures.item.3.0 in
    let first : c.in-Some.open.now ≡ get_or c.args.self.now.open.items 0 c.in-Some.open.now =
    subst (λ (l : List Open). c.in-Some.open.now ≡ get_or l 0 c.in-Some.open.now) c.deref.ensures.value c.in-Some.ensures.item.1 in
    inr (rw (c.source_fault_at-in-Some.ensures.line, c.source_fault_at-in-Some.ensures.cause, c.line.ensures)
    (open_refused (parse_state_of_builder c.args.self.now) c.args.line c.args.self.now.open.items c.in-Some.open.now refl (sym c.expects_operand.ensures ∙ c.if-expects_operand.false) there first))
