-- What private contracts, invariants and bridges cite.
use Rattle.std.specs.Prelude.{ℕ, zero, suc, ◌+◌, ◌&&◌, if◌then◌else◌, max, List, [], ◌∷◌, Bool, false, Option, Some, None, ◌≡◌, ◌-◌, length, slice_index, ◌/◌, ◌%◌, ◌==◌, ◌≢◌, ◌<◌, true, ◌⊎◌, ◌≤◌, nat_lt, not, IfSome}
use Rattle.ga_grid.specs.declared.node_id.NodeId.{NodeId}
use Rattle.ga_grid.specs.Grid.{node_id, neighbour_number}
use Rattle.ga_event.specs.Told.{made_event_at_place}
use Rattle.ga_event.specs.declared.made.MadeEvent.{MadeEvent}
use Rattle.ga_lab.specs.Machine.{MachineState, machine_events_with_outcomes, earlier_state}
use Rattle.ga_scheduler.specs.declared.condition.Condition.{Condition}
use Rattle.ga_scheduler.specs.declared.condition.Condition.TheVariants.{HoldsPlaceValue, ReachesAddress, WritesRamCell, PassesNthWord, PassesWord, MakesNumberedStep, AnyNodeStops, GivenNodeStops, GivenNodeWaits, Never, Broken}
use Rattle.ga_scheduler.specs.Conditions.{holds_after_made_event, passes_matching_word, is_numbered_step_of_node, is_own_event_of_kind, is_node_own_event_of_kind, is_stop_event_kind, is_wait_event_kind}
use Rattle.ga_scheduler.specs.Backward.{is_step_of_optional_node}
use Rattle.std.specs.List.{slice_get}
use Rattle.ga_scheduler.specs.Words.{is_transfer_over_link, transfers_over_link_by_event, link_transfer_count}
use Rattle.std.specs.Int.{bit_at}
use Rattle.ga_scheduler.specs.declared.numbers.NumberSet.{NumberSet}
use Rattle.ga_scheduler.specs.declared.drawing.Known.{Known}
use Rattle.ga_scheduler.specs.Schedules.{passing_numbers_below}
use Rattle.ga_scheduler.specs.declared.schedule.ScheduleOrder.{ScheduleOrder}
use Rattle.ga_scheduler.specs.declared.schedule.ScheduleOrder.TheVariants.{Rounds, Greedy, Random}
use Rattle.ga_ports.specs.declared.side.Side.{Side}
use Rattle.ga_node.specs.Record.{NodeRecord}
use Rattle.ga_node.specs.Table.{refusal_of_own_event}
use Rattle.ga_grid.specs.Chip.{node_record_at}
use Rattle.ga_event.specs.declared.made.MadeEvent.TheVariants.{Own, Pass}
use Rattle.ga_races.specs.Orders.{node_has_event}
use Rattle.ga_node.specs.declared.kind.OwnEventKind.TheVariants as kind
use Rattle.ga_scheduler.specs.declared.running.RunEnd.TheVariants as the_end
use Rattle.ga_node.specs.declared.kind.OwnEventKind.{OwnEventKind}
use Rattle.ga_scheduler.specs.declared.watching.Needs.{Needs}
use Rattle.ga_scheduler.specs.declared.running.RunEnd.{RunEnd}
use Rattle.ga_scheduler.specs.Running.{ScheduledMachine, next_run_event, run_after_next_event, condition_held_after_next_event, IsRunEndWithoutNextEvent}

-- ---- what the search back for a condition cites

-- the node whose registers or memory a condition asks for, and node 000 where it asks for none
abbrev pub condition_node_or_zero : Condition → NodeId
condition_node_or_zero (HoldsPlaceValue node test) = node
condition_node_or_zero (ReachesAddress node address) = node
condition_node_or_zero (WritesRamCell node address word) = node
condition_node_or_zero other = node_id 0

-- a condition held after the event with this report
abbrev pub holds_after_optional_event : Condition → Option MadeEvent → MachineState → Bool
holds_after_optional_event until None s = false
holds_after_optional_event until (Some told) s = holds_after_made_event until told s

abbrev pub holds_at_considered_event : Condition → Option NodeId → MachineState → ℕ → Bool
holds_at_considered_event until only s place = is_step_of_optional_node only (made_event_at_place (machine_events_with_outcomes s) place) && holds_after_optional_event until (made_event_at_place (machine_events_with_outcomes s) place) (earlier_state s (place + 1))

-- the length of the prefix of events up to the newest that is considered and after which a condition held; 0 if there is none
abbrev pub newest_held_prefix_length : Condition → Option NodeId → MachineState → ℕ → ℕ
newest_held_prefix_length until only s zero = 0
newest_held_prefix_length until only s (suc place) = if holds_at_considered_event until only s place then suc place else newest_held_prefix_length until only s place

-- the length of the prefix of events up to the newest that is considered and after which one of some conditions held; 0 if
-- there is none
abbrev pub longest_held_prefix_length : List Condition → Option NodeId → MachineState → ℕ → ℕ
longest_held_prefix_length [] only s count = 0
longest_held_prefix_length (until ∷ others) only s count = max (newest_held_prefix_length until only s count) (longest_held_prefix_length others only s count)

-- the place of the last of `n` events
abbrev pub last_event_position : ℕ → Option ℕ
last_event_position zero = None
last_event_position (suc place) = Some place

-- ---- what private contracts, invariants and bridges cite

-- the link whose words a condition counts
abbrev pub counted_link : Condition → Option (NodeId × NodeId)
counted_link (PassesNthWord writer reader number) = Some (writer, reader)
counted_link other = None

-- how many words of a link are kept, and none where there is no link
abbrev pub optional_link_transfer_count : Option (NodeId × NodeId) → MachineState → ℕ
optional_link_transfer_count None s = 0
optional_link_transfer_count (Some link) s = link_transfer_count s link.0.number link.1.number

abbrev pub condition_transfer_count : Condition → MachineState → ℕ
condition_transfer_count until s = optional_link_transfer_count (counted_link until) s

-- how many words of a link an event carried, and none where there is no link
abbrev pub transfers_added_by_event : Option (NodeId × NodeId) → MadeEvent → ℕ
transfers_added_by_event None told = 0
transfers_added_by_event (Some link) told = transfers_over_link_by_event link.0.number link.1.number told

abbrev pub condition_transfers_added : Condition → MadeEvent → ℕ
condition_transfers_added until told = transfers_added_by_event (counted_link until) told

-- of each of some conditions it is known how many words of its link are kept; and how many were before an event
abbrev pub AreLinkCountsKnown : List Condition → MachineState → List ℕ → Type 0
AreLinkCountsKnown until s words = (k : ℕ) (one : Condition) → slice_get until k ≡ Some one → condition_transfer_count one s ≡ slice_index words k

abbrev pub WereLinkCountsKnownBeforeEvent : List Condition → MachineState → MadeEvent → List ℕ → Type 0
WereLinkCountsKnownBeforeEvent until s told words = (k : ℕ) (one : Condition) → slice_get until k ≡ Some one → condition_transfer_count one s ≡ slice_index words k + condition_transfers_added one told

-- whether a condition holds by the event itself, given how many words of its link are in the history; what it requires of a
-- node is not considered
abbrev pub holds_by_event_alone : Condition → MadeEvent → ℕ → Bool
holds_by_event_alone (PassesWord writer reader comparison word) told words = passes_matching_word writer.number reader.number comparison word told
holds_by_event_alone (PassesNthWord writer reader number) told words = is_transfer_over_link writer.number reader.number told && (words == number)
holds_by_event_alone (MakesNumberedStep node step) told words = is_numbered_step_of_node node.number step told
holds_by_event_alone AnyNodeStops told words = is_own_event_of_kind is_stop_event_kind told
holds_by_event_alone (GivenNodeStops node) told words = is_node_own_event_of_kind node.number is_stop_event_kind told
holds_by_event_alone (GivenNodeWaits node) told words = is_node_own_event_of_kind node.number is_wait_event_kind told
holds_by_event_alone other told words = false

-- the report of the newest event in the history
abbrev pub newest_event_report : MachineState → Option MadeEvent
newest_event_report s = made_event_at_place (machine_events_with_outcomes s) (length s.kept - 1)

-- ---- whether nodes are drawn

abbrev pub is_random_order : ScheduleOrder → Bool
is_random_order Rounds = false
is_random_order Greedy = false
is_random_order Random = true

-- ---- A set of numbers below 192, a bit for each

-- the number is in the set
unfoldable pub is_number_in_set : NumberSet → ℕ → Bool
is_number_in_set numbers n = bit_at (slice_index numbers.words (n / 64)) (n % 64) == 1

-- ---- where a set of numbers is right about the nodes that have an event

-- the set is right about the number
abbrev pub IsReadinessCorrectInSet : List NodeRecord → NumberSet → ℕ → Type 0
IsReadinessCorrectInSet chip ready n = n < 192 → is_number_in_set ready n ≡ node_has_event chip n

-- the set holds the nodes that have an event, and nothing else
abbrev pub HoldsExactlyReadyNodes : List NodeRecord → NumberSet → Type 0
HoldsExactlyReadyNodes chip ready = (n : ℕ) → IsReadinessCorrectInSet chip ready n

-- the node is in the set, and no other node is
pub record IsOnlyReadyNode (ready : NumberSet) (node : NodeId) : Type 0 where
  pub here : is_number_in_set ready node.number ≡ true
  pub others : (n : ℕ) → n < 144 → n ≢ node.number → is_number_in_set ready n ≡ false

-- what is known of a set of nodes is so
pub record IsReadySetKnowledgeTrue (ready : NumberSet) (known : Known) : Type 0 where
  pub alone : IfSome known.alone (IsOnlyReadyNode ready)
  pub listed : known.is_listed ≡ true → known.numbers.items ≡ passing_numbers_below (is_number_in_set ready) 144

-- a set stays right about each number about which it was right
abbrev pub KeepsReadySetRight : List NodeRecord → NumberSet → NumberSet → Type 0
KeepsReadySetRight chip old new = (n : ℕ) → IsReadinessCorrectInSet chip old n → IsReadinessCorrectInSet chip new n

-- the set is right about a node and its neighbours
pub record IsReadySetRightAround (chip : List NodeRecord) (ready : NumberSet) (n : ℕ) : Type 0 where
  pub here : IsReadinessCorrectInSet chip ready n
  pub beside : (side : Side) (m : ℕ) → neighbour_number n side ≡ Some m → IsReadinessCorrectInSet chip ready m

-- the set is right where waits and stops changed: around the node of an own event, unless that runs on, and around both nodes of a pass
abbrev pub IsReadySetRefreshed : List NodeRecord → MadeEvent → NumberSet → Type 0
IsReadySetRefreshed chip (Own node step kind) ready = (refusal_of_own_event (node_record_at chip node.number) ≡ None) ⊎ IsReadySetRightAround chip ready node.number
IsReadySetRefreshed chip (Pass writer from reader to word) ready = IsReadySetRightAround chip ready writer.number × IsReadySetRightAround chip ready reader.number

-- ---- what an own event needs so that one of the conditions of a run can hold right after it

-- one of `opcodes` opcodes from `!p` on, with the last code of a byte followed by the first one: of four those that store, of
-- 256 all
abbrev pub is_needed_opcode : ℕ → ℕ → Bool
is_needed_opcode opcodes code = nat_lt ((code + 244) % 256) opcodes

-- the slot that is needed is next in the node, as an event left it: slot 4, where it fetches
abbrev pub is_needed_slot_next : Needs → NodeRecord → Bool
is_needed_slot_next needs n = n.slot == needs.slot

-- an own event of this kind, which left its node so, lacks what it needs
abbrev pub event_lacks_needs : Needs → NodeRecord → OwnEventKind → Bool
event_lacks_needs needs n kind.Fetch = nat_lt needs.opcodes 256 && not (is_needed_slot_next needs n)
event_lacks_needs needs n (kind.Run code) = not (is_needed_opcode needs.opcodes code) && not (is_needed_slot_next needs n)
event_lacks_needs needs n kind.Wait = false
event_lacks_needs needs n (kind.Stop code) = false

-- what a condition needs is among the needs
abbrev pub NeedsCoverCondition : Needs → Condition → Type 0
NeedsCoverCondition needs Never = Unit
NeedsCoverCondition needs Broken = Unit
NeedsCoverCondition needs (PassesWord writer reader comparison word) = Unit
NeedsCoverCondition needs (PassesNthWord writer reader number) = Unit
NeedsCoverCondition needs (MakesNumberedStep node step) = 256 ≤ needs.opcodes
NeedsCoverCondition needs AnyNodeStops = Unit
NeedsCoverCondition needs (GivenNodeStops node) = Unit
NeedsCoverCondition needs (GivenNodeWaits node) = Unit
NeedsCoverCondition needs (HoldsPlaceValue node test) = 256 ≤ needs.opcodes
NeedsCoverCondition needs (ReachesAddress node address) = needs.slot ≡ 4
NeedsCoverCondition needs (WritesRamCell node address word) = 4 ≤ needs.opcodes

-- what each of some conditions needs is among the needs
abbrev pub NeedsCoverConditions : Needs → List Condition → Type 0
NeedsCoverConditions needs until = (k : ℕ) (one : Condition) → slice_get until k ≡ Some one → NeedsCoverCondition needs one

-- ---- how a run is over

-- a run is over with its next event, which led here, or no event follows
abbrev pub IsRunEndByNextEventAtLatest : List Condition → ScheduledMachine → ScheduledMachine → RunEnd → Type 0
IsRunEndByNextEventAtLatest until r next (the_end.ConditionHeld made which) = (next_run_event r ≡ Some made) × (condition_held_after_next_event until r ≡ Some which) × (next ≡ run_after_next_event r)
IsRunEndByNextEventAtLatest until r next the_end.MadeRequestedEvents = ⊥
IsRunEndByNextEventAtLatest until r next the_end.Quiet = IsRunEndWithoutNextEvent r the_end.Quiet × (next ≡ r)
IsRunEndByNextEventAtLatest until r next (the_end.Refused why) = IsRunEndWithoutNextEvent r (the_end.Refused why) × (next ≡ r)

-- how many events there were at the end of a run, if `before` were made before it
abbrev pub event_count_at_end : ℕ → RunEnd → ℕ
event_count_at_end n (the_end.ConditionHeld made which) = n + 1
event_count_at_end n the_end.MadeRequestedEvents = n
event_count_at_end n the_end.Quiet = n
event_count_at_end n (the_end.Refused why) = n
