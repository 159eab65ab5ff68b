use Rattle.std.proofs.Common.{◌≡◌, suc, ◌-◌, ap, sym, ◌∙◌, Some, None, arith}
use Rattle.ga_lab.specs.Machine.{NodeAtStep}
use Rattle.ga_provenance.specs.Deciding.{newest_decision}
use Rattle.ga_provenance.proofs.Made.{has_step_so}
use Rattle.ga_json.specs.Values.{item}
use Rattle.ga_explorer_json.specs.Because.{decision_rows}
use Rattle.ga_explorer_json.proofs.Because.{next_decision, no_decision, no_more}
use Rattle.ga_explorer_json.proofs.because_json.DecisionRowsRowCursor.next.Goals as goal

pub decision_row-row-requires : goal.decision_row-row-requires
decision_row-row-requires c = has_step_so c.args.self.now.lab.now c.args.self.now.node c.min-place.result c.walk_to-walk.result c.walk_to-walk.ensures

pub returns-in-Some : goal.returns-in-Some
returns-in-Some c =
    let rows = c.args.self.now in
    let notes = rows.notes.now in
    let s = rows.lab.now in
    let node = rows.node in
    let decision = c.in-Some.decision in
    let less = rows.most - 1 in
    let rest = c.next.new.self.step in
    let more : rows.most ≡ suc less = omega (arith, c.if-self-eq0.false) in
    let newest : Some decision ≡ newest_decision s node rows.decisions.step =
    c.in-Some.ensures.value ∙ ap (λ (z : NodeAtStep). newest_decision z.machine z.node z.step) rows.same in record {
      row = next_decision notes s node less rows.most rows.decisions.step rest decision more newest c.in-Some.ensures.step
          ∙ ap (λ z. item z (decision_rows notes s node less rest)) (sym c.decision_row-row.ensures);
    }

pub returns-in-None : goal.returns-in-None
returns-in-None c =
    let rows = c.args.self.now in
    let s = rows.lab.now in
    let node = rows.node in
    let more : rows.most ≡ suc (rows.most - 1) = omega (arith, c.if-self-eq0.false) in
    let none : None ≡ newest_decision s node rows.decisions.step =
    c.in-None.ensures.value ∙ ap (λ (z : NodeAtStep). newest_decision z.machine z.node z.step) rows.same in record {
      row = no_decision rows.notes.now s node (rows.most - 1) rows.most rows.decisions.step more none;
    }

pub returns-then-self-eq0 : goal.returns-then-self-eq0
returns-then-self-eq0 c =
    let rows = c.args.self.now in record {
      row = no_more rows.notes.now rows.lab.now rows.node rows.most rows.decisions.step c.if-self-eq0.true;
    }
