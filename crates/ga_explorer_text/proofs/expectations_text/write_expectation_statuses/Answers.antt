use Rattle.std.proofs.Common.{◌∙◌, codes, rules}
use Rattle.ga_grid.specs.Chip.{records_of_chip}
use Rattle.ga_causal.specs.Dependence.{is_node_flagged}
use Rattle.ga_explorer_text.proofs.Statuses.{statuses_written, none_written, some_written}
use Rattle.ga_explorer_text.proofs.expectations_text.write_expectation_statuses.Goals as goal

pub returns-then-is_empty : goal.returns-then-is_empty
returns-then-is_empty g c = (
  search rules,
  λ before said h.
      let marks = is_node_flagged c.find_deadlocked_nodes-stuck.result in
      let is_quiet = c.is_quiescent-is_quiet.result in (
        codes "none\n",
        statuses_written c.args.lab.now (records_of_chip c.chip-chip.result.now) marks is_quiet c.args.expectations.now (codes "none\n") c.chip-chip.ensures.value c.find_deadlocked_nodes-stuck.ensures.stuck
            c.find_deadlocked_nodes-stuck.ensures.greatest c.is_quiescent-is_quiet.ensures (none_written marks is_quiet c.args.lab.now c.args.expectations.now c.if-is_empty.ensures),
        c.write_text.ensures.1 before said h,
      ),
)

pub returns : goal.returns
returns g c = (
  search rules,
  λ before said h.
      let done = c.write_lines.ensures.1 before said h in
      let marks = is_node_flagged c.find_deadlocked_nodes-stuck.result in
      let is_quiet = c.is_quiescent-is_quiet.result in (
        done.0,
        statuses_written c.args.lab.now (records_of_chip c.chip-chip.result.now) marks is_quiet c.args.expectations.now done.0 c.chip-chip.ensures.value c.find_deadlocked_nodes-stuck.ensures.stuck
            c.find_deadlocked_nodes-stuck.ensures.greatest c.is_quiescent-is_quiet.ensures (done.1 ∙ some_written marks is_quiet c.args.lab.now c.args.expectations.now c.if-is_empty.ensures),
        done.2,
      ),
)
