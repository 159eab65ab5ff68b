use Rattle.std.proofs.Common.{rules, ℕ, List, ◌++◌, refl, ◌∙◌}
use Rattle.ga_grid.specs.Chip.{records_of_chip}
use Rattle.ga_causal.specs.Dependence.{is_node_flagged}
use Rattle.ga_text.proofs.WriteLemmas.{truncated_here, truncated_within, cut_assoc, said_assoc}
use Rattle.ga_explorer_text.specs.Ended.{is_not_live_node}
use Rattle.ga_explorer_text.specs.Waiting.{deadlocked_nodes_text, wait_cycles_text, ended_and_idle_nodes_text}
use Rattle.ga_explorer_text.proofs.Saying.{joined_written, who_told}
use Rattle.ga_explorer_text.proofs.who_text.write_waiting_nodes.Goals as goal

pub returns-in_err-say_waiting : goal.returns-in_err-say_waiting
returns-in_err-say_waiting g c = (
  search rules,
  λ before said h.
      let done = c.in_err-say_waiting.ensures.1 before said h in
      let chip = records_of_chip c.chip-chip.result.now in
      let marks = is_node_flagged c.find_deadlocked_nodes-stuck.result in
      let over = is_node_flagged c.find_ended_marked_nodes-ended.result in
      let idle = is_node_flagged c.find_idle_nodes-idle.result in
      let second : List ℕ = deadlocked_nodes_text marks over idle in
      let third : List ℕ = wait_cycles_text chip marks in
      let last : List ℕ = ended_and_idle_nodes_text over idle in (
        done.0 ++ second ++ third ++ last,
        who_told c.args.lab.now chip marks (is_not_live_node c.find_live_nodes.result) over idle done.0 second third last c.chip-chip.ensures.value c.find_deadlocked_nodes-stuck.ensures.stuck c.find_deadlocked_nodes-stuck.ensures.greatest
            c.find_live_nodes.ensures.ended c.find_ended_marked_nodes-ended.ensures c.find_idle_nodes-idle.ensures done.1 refl refl refl,
        truncated_here c.from_residual.result _ before (said ++ (done.0 ++ second ++ third ++ last)) _ c.from_residual.ensures.0
            (truncated_within _ before said (done.0 ++ second ++ third) last (done.0 ++ second ++ third ++ last) refl
            (truncated_within _ before said (done.0 ++ second) third (done.0 ++ second ++ third) refl
            (truncated_within _ before said done.0 second (done.0 ++ second) refl done.2))),
      ),
)

pub returns-in_err-write_blocks : goal.returns-in_err-write_blocks
returns-in_err-write_blocks g c = (
  search rules,
  λ before said h.
      let done = c.in_ok-say_waiting.ensures.1 before said h in
      let chip = records_of_chip c.chip-chip.result.now in
      let marks = is_node_flagged c.find_deadlocked_nodes-stuck.result in
      let over = is_node_flagged c.find_ended_marked_nodes-ended.result in
      let idle = is_node_flagged c.find_idle_nodes-idle.result in
      let second = c.as_slice.result.now in
      let third : List ℕ = wait_cycles_text chip marks in
      let last : List ℕ = ended_and_idle_nodes_text over idle in (
        done.0 ++ second ++ third ++ last,
        who_told c.args.lab.now chip marks (is_not_live_node c.find_live_nodes.result) over idle done.0 second third last c.chip-chip.ensures.value c.find_deadlocked_nodes-stuck.ensures.stuck c.find_deadlocked_nodes-stuck.ensures.greatest
            c.find_live_nodes.ensures.ended c.find_ended_marked_nodes-ended.ensures c.find_idle_nodes-idle.ensures done.1 (c.as_slice.ensures.value ∙ c.deadlocked_nodes_line.ensures) refl refl,
        truncated_here c.from_residual-in_err-write_blocks.result _ before (said ++ (done.0 ++ second ++ third ++ last)) _ c.from_residual-in_err-write_blocks.ensures.0
            (truncated_within _ before said (done.0 ++ second ++ third) last (done.0 ++ second ++ third ++ last) refl
            (truncated_within _ before said (done.0 ++ second) third (done.0 ++ second ++ third) refl
            (cut_assoc _ before said done.0 second (c.in_err-write_blocks.ensures.1 before (said ++ done.0) done.2)))),
      ),
)

pub returns-in_err-write_wait_cycles : goal.returns-in_err-write_wait_cycles
returns-in_err-write_wait_cycles g c = (
  search rules,
  λ before said h.
      let done = c.in_ok-say_waiting.ensures.1 before said h in
      let chip = records_of_chip c.chip-chip.result.now in
      let marks = is_node_flagged c.find_deadlocked_nodes-stuck.result in
      let over = is_node_flagged c.find_ended_marked_nodes-ended.result in
      let idle = is_node_flagged c.find_idle_nodes-idle.result in
      let second = c.as_slice.result.now in
      let both = said_assoc _ before said done.0 second _ (c.in_ok-write_blocks.ensures.1 before (said ++ done.0) done.2) in
      let third = c.in_err-write_wait_cycles.ensures.1 before (said ++ (done.0 ++ second)) both in
      let last : List ℕ = ended_and_idle_nodes_text over idle in (
        done.0 ++ second ++ third.0 ++ last,
        who_told c.args.lab.now chip marks (is_not_live_node c.find_live_nodes.result) over idle done.0 second third.0 last c.chip-chip.ensures.value c.find_deadlocked_nodes-stuck.ensures.stuck c.find_deadlocked_nodes-stuck.ensures.greatest
            c.find_live_nodes.ensures.ended c.find_ended_marked_nodes-ended.ensures c.find_idle_nodes-idle.ensures done.1 (c.as_slice.ensures.value ∙ c.deadlocked_nodes_line.ensures) third.1 refl,
        truncated_here c.from_residual-in_err-write_wait_cycles.result _ before (said ++ (done.0 ++ second ++ third.0 ++ last)) _ c.from_residual-in_err-write_wait_cycles.ensures.0
            (truncated_within _ before said (done.0 ++ second ++ third.0) last (done.0 ++ second ++ third.0 ++ last) refl
            (cut_assoc _ before said (done.0 ++ second) third.0 third.2)),
      ),
)

pub returns : goal.returns
returns g c = (
  search rules,
  λ before said h.
      let done = c.in_ok-say_waiting.ensures.1 before said h in
      let chip = records_of_chip c.chip-chip.result.now in
      let marks = is_node_flagged c.find_deadlocked_nodes-stuck.result in
      let over = is_node_flagged c.find_ended_marked_nodes-ended.result in
      let idle = is_node_flagged c.find_idle_nodes-idle.result in
      let second = c.as_slice.result.now in
      let both = said_assoc _ before said done.0 second _ (c.in_ok-write_blocks.ensures.1 before (said ++ done.0) done.2) in
      let third = c.in_ok-write_wait_cycles.ensures.1 before (said ++ (done.0 ++ second)) both in
      let all = said_assoc _ before said (done.0 ++ second) third.0 _ third.2 in
      let last = c.as_slice-2.result.now in (
        done.0 ++ second ++ third.0 ++ last,
        who_told c.args.lab.now chip marks (is_not_live_node c.find_live_nodes.result) over idle done.0 second third.0 last c.chip-chip.ensures.value c.find_deadlocked_nodes-stuck.ensures.stuck c.find_deadlocked_nodes-stuck.ensures.greatest
            c.find_live_nodes.ensures.ended c.find_ended_marked_nodes-ended.ensures c.find_idle_nodes-idle.ensures done.1 (c.as_slice.ensures.value ∙ c.deadlocked_nodes_line.ensures) third.1 (c.as_slice-2.ensures.value ∙ c.rest_lines.ensures),
        joined_written c.write_blocks-2.result _ before said (done.0 ++ second ++ third.0) last _ (c.write_blocks-2.ensures.1 before (said ++ (done.0 ++ second ++ third.0)) all),
      ),
)
