-- Nodes that have ended: each waits for code, or to read from such nodes alone (F18A Technology Reference DB001, ports and port
-- execution; G144A12 Chip Reference DB002, links).
use Rattle.std.specs.Prelude.{◌≡◌, ℕ, ◌<◌, Bool, true, false, not, ◌&&◌, ◌||◌, List, Option, Some, None}
use Rattle.ga_ports.specs.declared.side.Side.{Side}
use Rattle.ga_ports.specs.declared.side.Side.TheVariants.{Right, Down, Left, Up}
use Rattle.ga_node.specs.Record.{NodeRecord}
use Rattle.ga_node.specs.declared.wait.Wait.{Wait}
use Rattle.ga_node.specs.declared.wait.Wait.TheVariants as wait
use Rattle.ga_grid.specs.Grid.{neighbour_number}
use Rattle.ga_grid.specs.Chip.{node_record_at}
use Rattle.ga_causal.specs.Dependence.{is_node_flagged}
use Rattle.ga_races.specs.Acts.{awaits_side, IsMarkedSubset}

-- whether the node on a side is marked, if there is one
abbrev pub is_absent_or_ended : (ℕ → Bool) → Option ℕ → Bool
is_absent_or_ended marks None = true
is_absent_or_ended marks (Some m) = marks m

-- the node awaits no neighbour on this side but a marked one
abbrev pub awaits_only_ended_on_side : List NodeRecord → (ℕ → Bool) → ℕ → Side → Bool
awaits_only_ended_on_side chip marks n side = not (awaits_side (node_record_at chip n).wait side) || is_absent_or_ended marks (neighbour_number n side)

-- the node awaits a neighbour on this side
abbrev pub has_awaited_neighbour : Option ℕ → Bool → Bool
has_awaited_neighbour None awaited = false
has_awaited_neighbour (Some m) awaited = awaited

abbrev pub awaits_neighbour_on_side : List NodeRecord → ℕ → Side → Bool
awaits_neighbour_on_side chip n side = has_awaited_neighbour (neighbour_number n side) (awaits_side (node_record_at chip n).wait side)

-- the node awaits a neighbour
abbrev pub awaits_any_neighbour : List NodeRecord → ℕ → Bool
awaits_any_neighbour chip n = awaits_neighbour_on_side chip n Right || (awaits_neighbour_on_side chip n Down || (awaits_neighbour_on_side chip n Left || awaits_neighbour_on_side chip n Up))

-- the node awaits marked neighbours, and no other
abbrev pub awaits_only_ended_nodes : List NodeRecord → (ℕ → Bool) → ℕ → Bool
awaits_only_ended_nodes chip marks n =
    awaits_any_neighbour chip n && (awaits_only_ended_on_side chip marks n Right && (awaits_only_ended_on_side chip marks n Down && (awaits_only_ended_on_side chip marks n Left && awaits_only_ended_on_side chip marks n Up)))

-- the node has ended if the marked ones have: it waits for code, or to read from marked nodes alone
abbrev pub is_ended_wait : Wait → Bool → Bool
is_ended_wait (wait.Fetch sides) ended = true
is_ended_wait (wait.Read sides) ended = ended
is_ended_wait (wait.Write side) ended = false
is_ended_wait wait.Nothing ended = false

unfoldable pub has_node_ended : List NodeRecord → (ℕ → Bool) → ℕ → Bool
has_node_ended chip marks n = is_ended_wait (node_record_at chip n).wait (awaits_only_ended_nodes chip marks n)

-- each node is marked that has ended if the marked ones have
abbrev pub AreMarksClosedUnderEnding : List NodeRecord → (ℕ → Bool) → Type 0
AreMarksClosedUnderEnding chip marks = (n : ℕ) → n < 144 → has_node_ended chip marks n ≡ true → marks n ≡ true

-- The marked nodes have ended: the least set of this kind, in which no nodes wait for one another alone.
pub record AreEndedNodes (chip : List NodeRecord) (marks : ℕ → Bool) : Type 0 where
  pub closed : AreMarksClosedUnderEnding chip marks
  pub least : (others : ℕ → Bool) → AreMarksClosedUnderEnding chip others → IsMarkedSubset marks others

-- all nodes but the live ones
abbrev pub is_not_live_node : List Bool → ℕ → Bool
is_not_live_node live n = not (is_node_flagged live n)
