use Rattle.std.proofs.Common.{◌≡◌, ℕ, ◌+◌, ◌<◌, take, sym, ◌∙◌, subst}
use Rattle.std.specs.Prelude.{IfSome, IfNone}
use Rattle.ga_grid.specs.Chip.{node_record_at}
use Rattle.ga_event.specs.Told.{count_steps}
use Rattle.ga_lab.specs.Machine.{MachineState, chip_of_machine, earlier_state}
use Rattle.ga_lab.specs.Holding.{HoldsPlaceValue}
use Rattle.ga_lab.proofs.Overwritten.{IsWhole, is_whole, if_some, if_none, old_is, old_in_range, old_within, stays_there}
use Rattle.ga_lab.proofs.lab.Lab.overwritten_value.Goals as goal

pub returns-clause-value : goal.returns-clause-value
returns-clause-value c =
    let chip = c.self.inside.chip in
    let book = c.self.inside.chronicle.journal in
    let n = c.args.node.number in
    let is = c.has_valid_list_sizes.ensures in
    let whole = subst IsWhole c.node.ensures.value (is_whole c.node.result.now is.lists is.data_registers is.return_registers) in
    subst
    (λ (s : MachineState). IfSome c.overwritten_value.result (λ old. (place : ℕ) → count_steps n (take place s.kept) ≡ c.args.at → HoldsPlaceValue (node_record_at (chip_of_machine (earlier_state s place)) n) c.args.what old)) c.self.view_is
    (if_some c.overwritten_value.result _ (λ old is place so_many. old_is chip book n c.args.at old place c.args.what c.self.invariant.tied whole (sym c.overwritten_value.ensures ∙ is) so_many))

pub returns-clause-in_range : goal.returns-clause-in_range
returns-clause-in_range c =
    if_some c.overwritten_value.result _
    (λ old is. old_in_range c.self.inside.chip c.self.inside.chronicle.journal c.args.node.number c.args.at old c.args.what c.self.invariant.tied (sym c.overwritten_value.ensures ∙ is))

pub returns-clause-within : goal.returns-clause-within
returns-clause-within c =
    let chip = c.self.inside.chip in
    let book = c.self.inside.chronicle.journal in
    let n = c.args.node.number in
    subst (λ (s : MachineState). IfSome c.overwritten_value.result (λ old. c.args.at < count_steps n s.kept)) c.self.view_is
    (if_some c.overwritten_value.result _ (λ old is. old_within chip book n c.args.at old c.args.what c.self.invariant.tied (sym c.overwritten_value.ensures ∙ is)))

pub returns-clause-left : goal.returns-clause-left
returns-clause-left c =
    let chip = c.self.inside.chip in
    let book = c.self.inside.chronicle.journal in
    let n = c.args.node.number in
    subst
    (λ (s : MachineState). IfNone c.overwritten_value.result
    ((before behind value : ℕ) → count_steps n (take before s.kept) ≡ c.args.at → count_steps n (take behind s.kept) ≡ c.args.at + 1
    → HoldsPlaceValue (node_record_at (chip_of_machine (earlier_state s behind)) n) c.args.what value → HoldsPlaceValue (node_record_at (chip_of_machine (earlier_state s before)) n) c.args.what value)) c.self.view_is
    (let sizes = c.has_valid_list_sizes.ensures in
    let whole = subst IsWhole c.node.ensures.value (is_whole c.node.result.now sizes.lists sizes.data_registers sizes.return_registers) in
    if_none c.overwritten_value.result _
    (λ is before behind value first second held.
    stays_there chip book n c.args.at before behind value c.args.what c.self.invariant.tied whole (sym c.overwritten_value.ensures ∙ is) first second held))
