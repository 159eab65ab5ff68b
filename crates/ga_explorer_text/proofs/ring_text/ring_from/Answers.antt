use Rattle.std.proofs.Common.{◌≡◌, ◌-◌, ◌+◌, ◌++◌, ap, ◌∙◌, length, arith}
use Rattle.arrayvec.specs.ArrayVec.{array_vec_len}
use Rattle.ga_grid.specs.Grid.{optional_node_number}
use Rattle.ga_grid.specs.Chip.{records_of_chip}
use Rattle.ga_explorer_text.specs.Waiting.{name_text_of_node, only_awaited_neighbour, wait_cycle_node_names}
use Rattle.ga_explorer_text.proofs.Rings.{begun, not_closed, none_left, back, lower, goes_on}
use Rattle.ga_explorer_text.proofs.ring_text.ring_from.Goals as goal

pub ring-init : goal.ring-init
ring-init c =
    let empty : array_vec_len c.new-out.result ≡ 0 = ap length c.new-out.ensures in
    let chip = records_of_chip c.args.chip.now in
    let first = c.args.first.number in record {
      len = omega (arith, empty, c.push_text.ensures.len, c.push_node.ensures.len);
      text = rw (c.push_node.ensures.text, c.push_text.ensures.text, c.new-out.ensures, c.only_awaited_neighbour-next.ensures) (begun first (wait_cycle_node_names chip first 144 (only_awaited_neighbour chip first)));
    }

pub returns-in_default : goal.returns-in_default
returns-in_default c =
    c.new.ensures
    ∙ not_closed (records_of_chip c.args.chip.now) c.args.first.number (144 - c.ring.counter) _ c.ring.out.items _ (ap optional_node_number c.in_default.is) c.ring.invariant.text

pub returns-then-node-first : goal.returns-then-node-first
returns-then-node-first c =
    let was = rw (ap optional_node_number c.in-Some.is) at c.ring.invariant.text in
    c.push_text-then-node-first.ensures.text
    ∙ back (records_of_chip c.args.chip.now) c.args.first.number (144 - c.ring.counter) c.in-Some.node.number c.ring.out.items _ (omega arith) c.if-node-first.true was

pub returns-then-node-first-2 : goal.returns-then-node-first-2
returns-then-node-first-2 c =
    let was = rw (ap optional_node_number c.in-Some.is) at c.ring.invariant.text in
    c.new-then-node-first-2.ensures
    ∙ lower (records_of_chip c.args.chip.now) c.args.first.number (144 - c.ring.counter) c.in-Some.node.number c.ring.out.items _ (omega arith) c.if-node-first-2.true was

pub ring-preserved : goal.ring-preserved
ring-preserved c =
    let was = rw (ap optional_node_number c.in-Some.is) at c.ring.invariant.text in record {
      len = omega (arith, c.ring.invariant.len, c.push_text-in-ring.ensures.len, c.push_node-in-ring.ensures.len);
      text = goes_on (records_of_chip c.args.chip.now) c.args.first.number (144 - c.ring.counter) (144 - (c.ring.counter + 1)) c.in-Some.node.number _ c.ring.out.items _ _
          (omega arith) c.if-node-first.false (omega arith) c.only_awaited_neighbour-next-in-ring.ensures
          (c.push_node-in-ring.ensures.text ∙ ap (λ z. z ++ name_text_of_node c.in-Some.node.number) c.push_text-in-ring.ensures.text) was;
    }

pub returns : goal.returns
returns c =
    c.new-2.ensures ∙ none_left (records_of_chip c.args.chip.now) c.args.first.number (144 - c.ring.counter) _ c.ring.out.items _ (omega arith) c.ring.invariant.text
