-- Other orders of the same steps, and steps that race: which the order in which nodes happened to run decided (after Netzer and
-- Miller, "Optimal tracing and replay for debugging message-passing parallel programs", 1992, who speak of messages; that a
-- look races too is this project's own, as looks are).
use Rattle.std.specs.Prelude.{ℕ, zero, suc, ◌+◌, ◌%◌, nat_lt, Bool, ◌&&◌, if◌then◌else◌, List, Option, Some, None, is_ok, ◌≡◌, ◌≢◌, true, false, ◌∷◌, ◌++◌}
use Rattle.ga_node.specs.Record.{NodeRecord}
use Rattle.ga_grid.specs.declared.node_id.NodeId.{NodeId}
use Rattle.ga_grid.specs.Grid.{node_id}
use Rattle.ga_event.specs.Next.{next_event_of_node}
use Rattle.ga_ports.specs.declared.side.Side.{Side}
use Rattle.ga_event.specs.declared.event.Event.{Event}
use Rattle.ga_event.specs.declared.event.Event.TheVariants.{Pass}
use Rattle.ga_event.specs.Touches.{touches}
use Rattle.ga_event.specs.Apply.{event_refusal, event_result, replay}
use Rattle.ga_causal.specs.Words.{outside_word_of_event}

-- ---- A set of nodes that holds those that have an event

-- the node of this number has an event
abbrev pub node_has_event : List NodeRecord → ℕ → Bool
node_has_event chip n = nat_lt n 144 && is_ok (next_event_of_node chip (node_id n))

-- the first of k numbers from this one on, round the chip, that passes a test
abbrev pub first_node_from_that_passes_test : (ℕ → Bool) → ℕ → ℕ → Option NodeId
first_node_from_that_passes_test test n zero = None
first_node_from_that_passes_test test n (suc k) = if test (n % 144) then Some (node_id n) else first_node_from_that_passes_test test (n + 1) k

-- whether the event is enabled on the chip
abbrev pub IsEnabled : List NodeRecord → Event → Type 0
IsEnabled chip event = event_refusal chip event ≡ None

-- whether no event is enabled on the chip
abbrev pub IsTerminalChip : List NodeRecord → Type 0
IsTerminalChip chip = (event : Event) → IsEnabled chip event → ⊥

-- Two events touch no common node, and to each comes the same word from outside (in a pass, in `io`) where the other is made first.
pub record AreIndependentOnChip (chip : List NodeRecord) (e f : Event) : Type 0 where
  pub apart : (n : ℕ) → touches e n ≡ true → touches f n ≡ false
  pub first : outside_word_of_event (event_result chip f).0 e ≡ outside_word_of_event chip e
  pub second : outside_word_of_event (event_result chip e).0 f ≡ outside_word_of_event chip f

-- On a chip, the one list is the other in another order: they differ by swaps of neighbours that are independent where they
-- are.
pub data AreReorderings : List NodeRecord → List Event → List Event → Type 0 where
  same : {chip : List NodeRecord} {xs : List Event} → AreReorderings chip xs xs
  swapped : {chip : List NodeRecord} {e f : Event} {xs : List Event}
      → IsEnabled chip e → IsEnabled chip f → AreIndependentOnChip chip e f → AreReorderings chip (e ∷ f ∷ xs) (f ∷ e ∷ xs)
  later : {chip : List NodeRecord} {e : Event} {xs ys : List Event}
      → IsEnabled chip e → AreReorderings (event_result chip e).0 xs ys → AreReorderings chip (e ∷ xs) (e ∷ ys)
  joined : {chip : List NodeRecord} {xs ys zs : List Event}
      → AreReorderings chip xs ys → AreReorderings chip ys zs → AreReorderings chip xs zs

-- A step of the list races with another event: in some order of the list the step comes next where the other event is enabled
-- too, and the two are not independent.
pub record IsRace (chip : List NodeRecord) (events : List Event) (step other : Event) : Type 0 where
  pub before : List Event
  pub later : List Event
  pub now : List NodeRecord
  pub order : AreReorderings chip events (before ++ step ∷ later)
  pub led : replay chip before ≡ Some now
  pub can : IsEnabled now other
  pub differ : step ≢ other
  pub bound : AreIndependentOnChip now step other → ⊥

abbrev pub HasNoRace : List NodeRecord → List Event → Type 0
HasNoRace chip events = (step other : Event) → IsRace chip events step other → ⊥

-- two passes to one reader, from two writers, over two sides
pub record AreConflictingPasses (e f : Event) : Type 0 where
  pub first : NodeId
  pub second : NodeId
  pub reader : NodeId
  pub side : Side
  pub other : Side
  pub one : e ≡ Pass first reader side
  pub two : f ≡ Pass second reader other
  pub writers : first.number ≢ second.number
  pub sides : side ≢ other
