use Rattle.std.proofs.Common.{◌≡◌, ◌||◌, ◌+◌, ◌-◌, ◌<◌, Bool, length, Vec, Global, set, true, sym, ◌∙◌, ap, subst, arith}
use Rattle.std.specs.List.{list_any}
use Rattle.std.proofs.lemmas.List.{get_or_default}
use Rattle.ga_causal.specs.Dependence.{touched_nodes, is_node_flagged, default_event_with_look, event_at}
use Rattle.ga_causal.specs.Equivalence.{event_observes_node}
use Rattle.ga_picture.proofs.Shaded.{AreGrounds, grounds_first, grounds_met, grounds_not}
use Rattle.ga_picture.proofs.shade.find_causes.Goals as goal
use Rattle.ga_picture.proofs.shade.find_causes.Goals.{then-is_touched_by, else-is_touched_by}

pub events-init : goal.events-init
events-init c =
    let here : event_at c.args.events.now c.args.place ≡ c.index-events-last.result = get_or_default c.args.events.now c.args.place default_event_with_look c.index-events-last.result c.requires ∙ sym c.index-events-last.is in
    let none : c.args.place ≡ c.args.place - 0 = omega arith in
    subst (λ z. AreGrounds c.args.events.now c.args.place z (set c.in_ok-flags.flags.items c.args.place true) (is_node_flagged c.add_observed_nodes.new.self)) none
    (subst (λ z. AreGrounds c.args.events.now c.args.place c.args.place (set z c.args.place true) (is_node_flagged c.add_observed_nodes.new.self)) (sym (c.in_ok-flags.ensures.items_if_clones_equal (λ y h. h)))
    (grounds_first c.args.events.now c.args.place (is_node_flagged c.add_observed_nodes.new.self) c.requires
    (λ n. c.add_observed_nodes.ensures n ∙ ap (λ z. z || event_observes_node c.index-events-last.result n) (c.none-wanted.ensures n) ∙ ap (λ z. event_observes_node z n) (sym here))))

pub events-preserved : goal.events-preserved
events-preserved c =
    let at = c.args.place - 1 - c.events.back in
    let next : c.args.place - c.events.back ≡ at + 1 = omega arith in
    let down : at ≡ c.args.place - (c.events.back + 1) = omega arith in
    let under : at < c.args.place = omega arith in
    let within : at < length c.args.events.now = omega arith in
    let before = subst (λ z. AreGrounds c.args.events.now c.args.place z c.events.flags.items (is_node_flagged c.events.wanted)) next c.events.invariant in
    let here : event_at c.args.events.now at ≡ c.index-events-at.result = get_or_default c.args.events.now at default_event_with_look c.index-events-at.result within ∙ sym c.index-events-at.is in
    let met : list_any (is_node_flagged c.events.wanted) (touched_nodes (event_at c.args.events.now at)) ≡ c.is_touched_by.result =
    ap (λ z. list_any (is_node_flagged c.events.wanted) (touched_nodes z)) here ∙ sym c.is_touched_by.ensures in
    elim c.if-is_touched_by.branch [
      | then-is_touched_by w ↦ (
          let flags : c.if-is_touched_by.flags.items ≡ set c.events.flags.items at true = ap (λ (v : Vec Bool Global). v.items) w.flags-is in
          subst (λ z. AreGrounds c.args.events.now c.args.place z c.if-is_touched_by.flags.items (is_node_flagged c.if-is_touched_by.wanted)) down
          (subst (λ z. AreGrounds c.args.events.now c.args.place at z (is_node_flagged c.if-is_touched_by.wanted)) (sym flags)
          (subst (λ z. AreGrounds c.args.events.now c.args.place at (set c.events.flags.items at true) (is_node_flagged z)) (sym w.wanted-is)
          (grounds_met c.args.events.now c.args.place at c.events.flags.items (is_node_flagged c.events.wanted) (is_node_flagged w.add_observed_nodes-then-is_touched_by.new.self) c.requires under before (met ∙ w.if-is_touched_by.true)
          (λ n. w.add_observed_nodes-then-is_touched_by.ensures n ∙ ap (λ z. is_node_flagged c.events.wanted n || event_observes_node z n) (sym here))))))
      | else-is_touched_by w ↦ (
          let flags : c.if-is_touched_by.flags.items ≡ c.events.flags.items = ap (λ (v : Vec Bool Global). v.items) w.flags-is in
          subst (λ z. AreGrounds c.args.events.now c.args.place z c.if-is_touched_by.flags.items (is_node_flagged c.if-is_touched_by.wanted)) down
          (subst (λ z. AreGrounds c.args.events.now c.args.place at z (is_node_flagged c.if-is_touched_by.wanted)) (sym flags)
          (subst (λ z. AreGrounds c.args.events.now c.args.place at c.events.flags.items (is_node_flagged z)) (sym w.wanted-is)
          (grounds_not c.args.events.now c.args.place at c.events.flags.items (is_node_flagged c.events.wanted) c.requires under before (met ∙ w.if-is_touched_by.false)))))
    ]

pub returns-clause-exact : goal.returns-clause-exact
returns-clause-exact c j k =
    let last : c.args.place - c.events.back ≡ 0 = omega arith in
    (subst (λ z. AreGrounds c.args.events.now c.args.place z c.events.flags.items (is_node_flagged c.events.wanted)) last c.events.invariant).done j (omega arith) k
