-- The conditions on a node for an event or for half of a transfer: it runs and can carry this out, it waits to write or to
-- read.
use Rattle.std.specs.Prelude.{◌<◌, ◌%◌, ◌≡◌}
use Rattle.ga_slots.specs.Codes.{code_of_opcode}
use Rattle.ga_node.specs.Record.{NodeRecord}
use Rattle.ga_node.specs.declared.wait.Wait.{Wait}
use Rattle.ga_node.specs.declared.wait.Wait.TheVariants.{Nothing, Read, Write, Fetch as FetchWait}
use Rattle.ga_node.specs.declared.due.NextAction.{NextAction}
use Rattle.ga_node.specs.declared.due.NextAction.TheVariants as due

-- the node runs: it neither waits nor is stopped
abbrev pub IsRunning : NodeRecord → Type 0
IsRunning n = (n.wait ≡ Nothing) × (n.stop ≡ 0)

-- whether the node runs and can carry this out: an opcode is in a slot, and in the last slot its code is a multiple of 4
abbrev pub CanExecuteAction : NextAction → NodeRecord → Type 0
CanExecuteAction due.Fetch n = IsRunning n
CanExecuteAction (due.Run op) n = IsRunning n × (n.slot < 4) × (n.slot ≡ 3 → code_of_opcode op % 4 ≡ 0)

-- a wait to write, and in `IsReadWait` a wait to read
abbrev pub IsWriteWait : Wait → Type 0
IsWriteWait (Write side) = Unit {0}
IsWriteWait Nothing = ⊥
IsWriteWait (FetchWait sides) = ⊥
IsWriteWait (Read sides) = ⊥

abbrev pub IsReadWait : Wait → Type 0
IsReadWait (FetchWait sides) = Unit {0}
IsReadWait (Read sides) = Unit {0}
IsReadWait Nothing = ⊥
IsReadWait (Write side) = ⊥
