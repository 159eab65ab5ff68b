-- What a picture shows of a list of events, and which nodes it leaves out (docs/REFERENCE.md, "Pictures"; this project's own). Places count from 0.
use Rattle.std.specs.Prelude.{◌≡◌, ℕ, ◌<◌, true, false, List, length, map, Option, Some, None, slice_get, ◌≢◌, ◌==◌, Bool, ◌&&◌, not, if◌then◌else◌}
use Rattle.std.specs.List.{All, count_by, filter, range_with_len}
use Rattle.ga_event.specs.declared.event.EventWithLook.{EventWithLook}
use Rattle.ga_event.specs.declared.event.Event.TheVariants.{Own, Pass}
use Rattle.ga_grid.specs.declared.node_id.NodeId.{NodeId}
use Rattle.ga_ports.specs.declared.side.Side.{Side}
use Rattle.ga_causal.specs.Dependence.{event_with_look_touches_node, DependsOn}
use Rattle.ga_picture.specs.declared.shade.Shade.{Shade}
use Rattle.ga_picture.specs.declared.shade.Shade.TheVariants.{Black, Grey, Red}
use Rattle.ga_picture.specs.declared.placing.DrawnShape.{DrawnShape}
use Rattle.ga_picture.specs.declared.placing.DrawnShape.TheVariants.{Mark, Arrow}
use Rattle.ga_picture.specs.declared.placing.PictureRow.{PictureRow}
use Rattle.ga_picture.specs.declared.placing.Drawing.{Drawing}
use Rattle.ga_picture.specs.declared.item.PictureItem.{PictureItem}
use Rattle.ga_picture.specs.Items.{picture_item_at_index, folded_event_count_at, row_event_positions, acting_node_of_event}
use Rattle.ga_grid.specs.Grid.{node_id}
use Rattle.ga_causal.specs.Equivalence.{AreIndependentEvents}
use Rattle.ga_picture.specs.declared.independent.IndependentNode.{IndependentNode}

-- ---- what is drawn

-- a rollback of the step removes the event at the place; without such a step none is removed
abbrev pub IsRemovedByRollback : List EventWithLook → Option ℕ → ℕ → Type 0
IsRemovedByRollback events None place = ⊥
IsRemovedByRollback events (Some step) place = DependsOn events step place

-- the step depends on the event at the place; without such a step all are as good
abbrev pub IsCauseOfStep : List EventWithLook → Option ℕ → ℕ → Type 0
IsCauseOfStep events None place = Unit {0}
IsCauseOfStep events (Some step) place = DependsOn events place step

-- the colour of the event at a place, where the causes of one step were asked for, and what a rollback of another takes
abbrev pub IsShadeOfEvent : List EventWithLook → Option ℕ → Option ℕ → ℕ → Shade → Type 0
IsShadeOfEvent events cause rewind place Red = IsRemovedByRollback events rewind place
IsShadeOfEvent events cause rewind place Black = (¬ IsRemovedByRollback events rewind place) × IsCauseOfStep events cause place
IsShadeOfEvent events cause rewind place Grey = (¬ IsRemovedByRollback events rewind place) × (¬ IsCauseOfStep events cause place)

-- one colour for each event
pub record AreShadesOfEvents (events : List EventWithLook) (cause rewind : Option ℕ) (shades : List Shade) : Type 0 where
  pub size : length shades ≡ length events
  pub exact : (place : ℕ) (shade : Shade) → slice_get shades place ≡ Some shade → IsShadeOfEvent events cause rewind place shade

-- the line at this index is that of the node
pub record IsLineOfNode (lines : List NodeId) (line node : ℕ) : Type 0 where
  pub at : NodeId
  pub found : slice_get lines line ≡ Some at
  pub is : at.number ≡ node

-- an own event is drawn as a mark on the line of its node
pub record IsMarkOfOwnEvent (event : EventWithLook) (lines : List NodeId) (line : ℕ) : Type 0 where
  pub node : NodeId
  pub own : event.event ≡ Own node
  pub on : IsLineOfNode lines line node.number

-- a pass is drawn as an arrow from the line of its writer to that of its reader
pub record IsArrowOfTransfer (event : EventWithLook) (lines : List NodeId) (from to : ℕ) : Type 0 where
  pub writer : NodeId
  pub reader : NodeId
  pub side : Side
  pub pass : event.event ≡ Pass writer reader side
  pub start : IsLineOfNode lines from writer.number
  pub head : IsLineOfNode lines to reader.number

-- the event is drawn so on these lines
abbrev pub IsShapeOfEvent : EventWithLook → List NodeId → DrawnShape → Type 0
IsShapeOfEvent event lines (Mark line look steps shade) = IsMarkOfOwnEvent event lines line × (event.look ≡ look)
IsShapeOfEvent event lines (Arrow from to shade) = IsArrowOfTransfer event lines from to

abbrev pub shade_of_shape : DrawnShape → Shade
shade_of_shape (Mark line look steps shade) = shade
shade_of_shape (Arrow from to shade) = shade

-- how many events it represents
abbrev pub event_count_of_shape : DrawnShape → ℕ
event_count_of_shape (Mark line look steps shade) = steps
event_count_of_shape (Arrow from to shade) = 1

-- an event that isn't left out touches the node
pub record IsNodeOfDrawnEvent (items : List PictureItem) (node : ℕ) : Type 0 where
  pub place : ℕ
  pub within : place < length items
  pub drawn : (picture_item_at_index items place).out ≡ false
  pub touched : event_with_look_touches_node (picture_item_at_index items place).cause node ≡ true

-- a row shows its event, in its colour, and with it the run that begins with it
pub record IsPictureRow (items : List PictureItem) (fold : ℕ) (lines : List NodeId) (row : PictureRow) : Type 0 where
  pub shape : IsShapeOfEvent (picture_item_at_index items row.place).cause lines row.shape
  pub shaded : shade_of_shape row.shape ≡ (picture_item_at_index items row.place).shade
  pub steps : event_count_of_shape row.shape ≡ folded_event_count_at items fold row.place

-- The picture of some events: a row for each that isn't left out, in their order, but one for each run that is drawn together; each on
-- the lines of its nodes. There are lines for the nodes that these events touch and for no others, by their numbers.
pub record IsDrawingOfItems (items : List PictureItem) (fold : ℕ) (drawing : Drawing) : Type 0 where
  pub places : map (λ row. row.place) drawing.rows.items ≡ row_event_positions items fold
  pub drawn : All (IsPictureRow items fold drawing.lines.items) drawing.rows.items
  pub needed : (line : ℕ) (node : NodeId) → slice_get drawing.lines.items line ≡ Some node → IsNodeOfDrawnEvent items node.number
  pub rising : (line other : ℕ) (node next : NodeId) → slice_get drawing.lines.items line ≡ Some node
      → slice_get drawing.lines.items other ≡ Some next → line < other → node.number < next.number

-- ---- nodes that work by themselves

-- Independent nodes have no line: each of their events is concurrent with each event of another node (Danos and Krivine,
-- "Reversible Communicating Systems", 2004), so the picture of the others shows as much without them.

-- the event at the place touches the node, and isn't left out
pub record IsDrawnEventOfNode (items : List PictureItem) (place node : ℕ) : Type 0 where
  pub within : place < length items
  pub drawn : (picture_item_at_index items place).out ≡ false
  pub touched : event_with_look_touches_node (picture_item_at_index items place).cause node ≡ true

-- The node has to be drawn for none of its events, and each of them is apart from each event of another node.
pub record HasIndependentEvents (items : List PictureItem) (node : ℕ) : Type 0 where
  pub loose : (place : ℕ) → IsDrawnEventOfNode items place node → (picture_item_at_index items place).holds ≡ false
  pub apart : (place by other : ℕ) → IsDrawnEventOfNode items place node → IsDrawnEventOfNode items by other → other ≢ node
      → AreIndependentEvents (picture_item_at_index items place).cause (picture_item_at_index items by).cause

-- The node is independent, and not all nodes are.
pub record IsIndependentNode (items : List PictureItem) (node : ℕ) : Type 0 where
  pub works : IsNodeOfDrawnEvent items node
  pub free : HasIndependentEvents items node
  pub other : ℕ
  pub beside : IsNodeOfDrawnEvent items other
  pub joined : ¬ HasIndependentEvents items other

-- an event of these nodes is left out
abbrev pub item_with_nodes_left_out : (ℕ → Bool) → PictureItem → PictureItem
item_with_nodes_left_out alone item =
    if alone (acting_node_of_event item.cause.event) then record { cause = item.cause; shade = item.shade; plain = false; out = true; holds = item.holds } else item

-- how many events the node makes that aren't left out
abbrev pub drawn_event_count_of_node : List PictureItem → ℕ → ℕ
drawn_event_count_of_node items n = count_by (λ (item : PictureItem). not item.out && (acting_node_of_event item.cause.event == n)) items

-- these nodes, each with how many events it makes that aren't left out
abbrev pub independent_nodes_with_counts : List PictureItem → (ℕ → Bool) → List IndependentNode
independent_nodes_with_counts items alone =
    filter (λ (it : IndependentNode). alone it.node.number) (map (λ n. record { node = node_id n; steps = drawn_event_count_of_node items n }) (range_with_len 0 144))
