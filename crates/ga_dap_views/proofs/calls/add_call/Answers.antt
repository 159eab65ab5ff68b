use Rattle.std.proofs.Common.{◌-◌, ◌++◌, ℕ, List, [], ◌∷◌, length, map, Option, sym, ap, ◌∙◌, append-nil, arith}
use Rattle.ga_lab.specs.Machine.{NodeAtStep}
use Rattle.ga_provenance.proofs.Made.{has_step_so}
use Rattle.ga_dap_views.specs.declared.calls.OpenCall.{OpenCall}
use Rattle.ga_dap_views.specs.declared.spots.SlotAddress.{SlotAddress}
use Rattle.ga_dap_views.specs.Calls.{open_call}
use Rattle.ga_dap_views.proofs.Windows.{put_none, put_one}
use Rattle.ga_dap_views.proofs.calls.add_call.Goals as goal

pub returns-then-not-puts_call-clause-calls : goal.returns-then-not-puts_call-clause-calls
returns-then-not-puts_call-clause-calls c =
    sym (ap (λ (z : List ℕ). c.args.calls.now.items ++ map (open_call c.args.lab.now c.args.node) z)
    (put_none c.args.shift c.args.window.place c.args.step (sym c.puts_call.ensures ∙ c.if-not-puts_call.true))
    ∙ append-nil c.args.calls.now.items)

pub returns-then-not-puts_call-clause-len : goal.returns-then-not-puts_call-clause-len
returns-then-not-puts_call-clause-len c = omega (arith, ap length (put_none c.args.shift c.args.window.place 0 (sym c.puts_call.ensures ∙ c.if-not-puts_call.true)))

pub returns-clause-calls : goal.returns-clause-calls
returns-clause-calls c =
    let items = c.args.calls.now.items in
    let one : Option SlotAddress → OpenCall = λ at. record { step = c.args.step; at = at } in
    c.push.ensures.items
    ∙ ap (λ (z : Option SlotAddress). items ++ one z ∷ []) c.slot_address_of_walked_back_node-at.ensures.spot
    ∙ sym (ap (λ (z : List ℕ). items ++ map (open_call c.args.lab.now c.args.node) z) (put_one c.args.shift c.args.window.place c.args.step (sym c.puts_call.ensures ∙ c.if-not-puts_call.false)))

pub returns-clause-len : goal.returns-clause-len
returns-clause-len c = omega (arith, c.push.ensures.len, ap length (put_one c.args.shift c.args.window.place 0 (sym c.puts_call.ensures ∙ c.if-not-puts_call.false)))

pub returns-clause-walk : goal.returns-clause-walk
returns-clause-walk c = has_step_so c.args.lab.now c.args.node (c.args.step - 1) c.slot_address_of_walked_back_node-at.new.walk c.slot_address_of_walked_back_node-at.ensures.walk

pub returns-clause-order : goal.returns-clause-order
returns-clause-order c = let at = ap (λ (z : NodeAtStep). z.step) c.slot_address_of_walked_back_node-at.ensures.walk in omega (arith, at)
