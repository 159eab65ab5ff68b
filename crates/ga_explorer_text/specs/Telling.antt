-- What `who` prints (docs/REFERENCE.md, "Exploring"; this project's own).
use Rattle.std.specs.Prelude.{◌≡◌, ℕ, ◌<◌, Bool, ◌&&◌}
use Rattle.ga_text.specs.Lines.{Text}
use Rattle.ga_lab.specs.Machine.{MachineState, chip_of_machine}
use Rattle.ga_races.specs.Acts.{AreDeadlocked, IsMarkedSubset}
use Rattle.ga_scheduler.specs.Idle.{AreIdleNodeFlags}
use Rattle.ga_explorer_text.specs.Ended.{AreEndedNodes}
use Rattle.ga_explorer_text.specs.Waiting.{waiting_nodes_answer_text}

-- For each node that waits, unless it is idle, the answer has for whom it waits; which nodes are deadlocked: the greatest set of
-- such nodes; and which of these have ended.
pub record IsWaitingNodesAnswer (s : MachineState) (answer : Text) : Type 0 where
  pub marks : ℕ → Bool
  pub stuck : AreDeadlocked (chip_of_machine s) marks
  pub greatest : (others : ℕ → Bool) → AreDeadlocked (chip_of_machine s) others → IsMarkedSubset others marks
  pub ended : ℕ → Bool
  pub done : AreEndedNodes (chip_of_machine s) ended
  pub over : ℕ → Bool
  pub both : (n : ℕ) → n < 144 → over n ≡ (marks n && ended n)
  pub idle : ℕ → Bool
  pub silent : AreIdleNodeFlags s idle
  pub text : answer ≡ waiting_nodes_answer_text (chip_of_machine s) marks over idle
