-- In what order the nodes make their events: rounds, each node until it has no event, or nodes that are drawn. Which of several
-- nodes comes first is this project's own choice: the chip has no clock.
use Rattle.std.specs.Prelude.{ℕ, zero, suc, ◌+◌, ◌%◌, Bool, if◌then◌else◌, List, [], ◌∷◌, ◌++◌, length, Option, option_map}
use Rattle.std.specs.List.{slice_get}
use Rattle.rand_xoshiro.specs.SplitMix64.{mix_u64}
use Rattle.ga_grid.specs.declared.node_id.NodeId.{NodeId}
use Rattle.ga_grid.specs.Grid.{node_id}
use Rattle.ga_races.specs.Orders.{first_node_from_that_passes_test}
use Rattle.ga_scheduler.specs.declared.schedule.ScheduleOrder.{ScheduleOrder}
use Rattle.ga_scheduler.specs.declared.schedule.ScheduleOrder.TheVariants.{Rounds, Greedy, Random}
use Rattle.ga_scheduler.specs.declared.schedule.Schedule.{Schedule}

-- the numbers below one that pass a test, in their order
unfoldable pub passing_numbers_below : (ℕ → Bool) → ℕ → List ℕ
passing_numbers_below test zero = []
passing_numbers_below test (suc n) = if test n then passing_numbers_below test n ++ n ∷ [] else passing_numbers_below test n

-- the node that is drawn, of those that pass a test: its place among them is a word modulo their number
abbrev pub random_node : (ℕ → Bool) → ℕ → Option NodeId
random_node test word = option_map node_id (slice_get (passing_numbers_below test 144) (word % length (passing_numbers_below test 144)))

-- the node, of those that pass a test, that makes the next event
abbrev pub next_node_by_order : ScheduleOrder → Schedule → (ℕ → Bool) → Option NodeId
next_node_by_order Rounds schedule test = first_node_from_that_passes_test test schedule.turn.number 144
next_node_by_order Greedy schedule test = first_node_from_that_passes_test test schedule.turn.number 144
next_node_by_order Random schedule test = random_node test (mix_u64 schedule.generator).0

abbrev pub next_scheduled_node : Schedule → (ℕ → Bool) → Option NodeId
next_scheduled_node schedule test = next_node_by_order schedule.order schedule test

-- the schedule after an event that this node made
abbrev pub advanced_schedule : ScheduleOrder → Schedule → NodeId → Schedule
advanced_schedule Rounds schedule node = record schedule { turn = node_id (node.number + 1) }
advanced_schedule Greedy schedule node = record schedule { turn = node }
advanced_schedule Random schedule node = record schedule { generator = (mix_u64 schedule.generator).1 }

abbrev pub schedule_after_event : Schedule → NodeId → Schedule
schedule_after_event schedule node = advanced_schedule schedule.order schedule node

-- where a schedule of each order begins
abbrev pub round_robin_schedule : Schedule
round_robin_schedule = record { order = Rounds; turn = node_id 0; generator = 0 }

abbrev pub greedy_schedule : Schedule
greedy_schedule = record { order = Greedy; turn = node_id 0; generator = 0 }

abbrev pub random_schedule : ℕ → Schedule
random_schedule seed = record { order = Random; turn = node_id 0; generator = seed }
