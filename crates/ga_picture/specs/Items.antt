-- The kept events as a picture takes them, and which are drawn together (docs/REFERENCE.md, "Pictures"; this project's own). Places count from 0.
use Rattle.std.specs.Prelude.{ℕ, ◌+◌, ◌-◌, Bool, true, false, ◌&&◌, ◌||◌, not, if◌then◌else◌, List, [], ◌∷◌, map, drop, Option, is_some, slice_index_or, ◌≡◌, zero, suc, ◌==◌, nat_le, ◌++◌, length}
use Rattle.std.specs.List.{range_with_len}
use Rattle.ga_event.specs.declared.event.Event.{Event}
use Rattle.ga_event.specs.declared.event.Event.TheVariants.{Own, Pass}
use Rattle.ga_event.specs.declared.event.EventWithLook.{EventWithLook}
use Rattle.ga_event.specs.Apply.{equals_optional_number}
use Rattle.ga_causal.specs.Dependence.{event_with_look_touches_node, event_at, is_transfer_event, default_event_with_look}
use Rattle.ga_picture.specs.declared.shade.Shade.{Shade}
use Rattle.ga_picture.specs.declared.shade.Shade.TheVariants.{Black, Grey, Red}
use Rattle.ga_picture.specs.declared.view.PictureView.{PictureView}
use Rattle.ga_picture.specs.declared.item.PictureItem.{PictureItem}
use Rattle.ga_causal.specs.Equivalence.{event_observes_node}

-- ---- which events are left out, which may be drawn with others as one mark, and for which their nodes have to be drawn

-- the node that makes an event, of a pass the writer
abbrev pub acting_node_of_event : Event → ℕ
acting_node_of_event (Own node) = node.number
acting_node_of_event (Pass writer reader side) = writer.number

-- The node runs before these events: the next of them that touches it is one of its own; where none does, it is ready.
abbrev pub is_running_before_events : (ℕ → Bool) → List EventWithLook → ℕ → Bool
is_running_before_events ready [] n = ready n
is_running_before_events ready (e ∷ es) n = if event_with_look_touches_node e n then not (is_transfer_event e.event) else is_running_before_events ready es n

-- an own event that is no look, of a node that runs after it: a fetch or an opcode, and neither a wait nor a stop
abbrev pub is_plain_event : (ℕ → Bool) → EventWithLook → Bool
is_plain_event runs e = not (is_transfer_event e.event) && (not e.look && runs (acting_node_of_event e.event))

abbrev pub is_plain_event_at : (ℕ → Bool) → List EventWithLook → ℕ → Bool
is_plain_event_at ready events place = is_plain_event (is_running_before_events ready (drop (place + 1) events)) (event_at events place)

-- one of the requested steps
abbrev pub is_requested_step : Option ℕ → Option ℕ → ℕ → Bool
is_requested_step cause rewind place = equals_optional_number cause place || equals_optional_number rewind place

-- the colour is that of a requested event
abbrev pub is_requested_shade : PictureView → Shade → Bool
is_requested_shade view Red = true
is_requested_shade view Black = is_some view.cause
is_requested_shade view Grey = false

-- what isn't asked for is left out
abbrev pub shows_only_requested_events : PictureView → Bool
shows_only_requested_events view = view.only && (is_some view.cause || is_some view.rewind)

-- an event of an idle node, or where nothing else is wanted any event, that isn't asked for
abbrev pub is_event_left_out : PictureView → Bool → Shade → Bool
is_event_left_out view idle shade = (not view.all && (idle && not (is_requested_shade view shade))) || (shows_only_requested_events view && not (is_requested_shade view shade))

-- The node of an event must be drawn for it: the event is requested, or is a pass, a wait or a stop. If races are requested, so
-- must that of a look.
abbrev pub requires_node_line : PictureView → EventWithLook → Shade → Bool → Bool
requires_node_line view e shade plain =
    view.all || (is_requested_shade view shade || (is_transfer_event e.event || not (plain || (e.look && not view.races))))

-- an event of a colour, which is plain, one of the requested steps, or of an idle node
abbrev pub picture_item : PictureView → EventWithLook → Shade → Bool → Bool → Bool → PictureItem
picture_item view e shade plain named idle =
    let out = is_event_left_out view idle shade in
    record { cause = e; shade = shade; plain = plain && (not named && not out); out = out; holds = requires_node_line view e shade plain }

-- what is known of the history: its events, their colours, the nodes that are ready after them, the idle ones, and the places
-- of the requested steps
pub record PictureFacts : Type 0 where
  pub events : List EventWithLook
  pub shades : List Shade
  pub ready : ℕ → Bool
  pub idle : ℕ → Bool
  pub cause : Option ℕ
  pub rewind : Option ℕ

-- the event at a place, and those from one place on and up to another
abbrev pub picture_item_at : PictureFacts → PictureView → ℕ → PictureItem
picture_item_at known view place =
    let e = event_at known.events place in
    picture_item view e (slice_index_or known.shades place Black) (is_plain_event_at known.ready known.events place) (is_requested_step known.cause known.rewind place)
    (known.idle (acting_node_of_event e.event))

abbrev pub picture_items : PictureFacts → PictureView → ℕ → ℕ → List PictureItem
picture_items known view from to = map (picture_item_at known view) (range_with_len from (to - from))

-- ---- runs of fetches and opcodes of a node, which are drawn as one mark

-- What happens between two events of a run doesn't involve their node, so they can be drawn together: no event there touches
-- the node or looks at it.

abbrev pub is_same_shade : Shade → Shade → Bool
is_same_shade Black Black = true
is_same_shade Grey Grey = true
is_same_shade Red Red = true
is_same_shade one other = false

-- an event that may be folded is an own one that doesn't look
abbrev pub IsOwnEventIfPlain : PictureItem → Type 0
IsOwnEventIfPlain item = item.plain ≡ true → (is_transfer_event item.cause.event ≡ false) × (item.cause.look ≡ false)

-- what is read past the end of a list
abbrev pub default_picture_item : PictureItem
default_picture_item = record { cause = default_event_with_look; shade = Black; plain = false; out = true; holds = false }

abbrev pub picture_item_at_index : List PictureItem → ℕ → PictureItem
picture_item_at_index items place = slice_index_or items place default_picture_item

-- how many events a run of the node in this colour has with this one, if it had `n` without it
abbrev pub run_length_with_event : ℕ → Shade → PictureItem → ℕ → ℕ
run_length_with_event n shade item count =
    if item.plain && (event_with_look_touches_node item.cause n && is_same_shade item.shade shade) then count + 1
    else if event_observes_node item.cause n then 0
    else count

-- how many events of a run come right before a place, and how many are the first of these
unfoldable pub run_length_before : ℕ → Shade → List PictureItem → ℕ → ℕ
run_length_before n shade items zero = 0
run_length_before n shade items (suc place) = run_length_with_event n shade (picture_item_at_index items place) (run_length_before n shade items place)

unfoldable pub run_length_ahead : ℕ → Shade → List PictureItem → ℕ
run_length_ahead n shade [] = 0
run_length_ahead n shade (item ∷ items) = run_length_with_event n shade item (run_length_ahead n shade items)

-- how many events of the run of the event at a place come before it, and how many after it
abbrev pub run_event_count_before : List PictureItem → ℕ → ℕ
run_event_count_before items place = run_length_before (acting_node_of_event (picture_item_at_index items place).cause.event) (picture_item_at_index items place).shade items place

abbrev pub run_event_count_after : List PictureItem → ℕ → ℕ
run_event_count_after items place = run_length_ahead (acting_node_of_event (picture_item_at_index items place).cause.event) (picture_item_at_index items place).shade (drop (place + 1) items)

-- how many events are drawn together with the one at a place: its run, if that has at least `fold` events
abbrev pub folded_event_count : PictureItem → ℕ → ℕ → ℕ → ℕ
folded_event_count item before behind fold =
    let run = before + behind + 1 in if item.plain && (not (fold == 0) && nat_le fold run) then run else 1

abbrev pub folded_event_count_at : List PictureItem → ℕ → ℕ → ℕ
folded_event_count_at items fold place = folded_event_count (picture_item_at_index items place) (run_event_count_before items place) (run_event_count_after items place) fold

-- an event that isn't left out has a row, of a run that is drawn together the first alone
abbrev pub has_event_own_row : List PictureItem → ℕ → ℕ → Bool
has_event_own_row items fold place = not (picture_item_at_index items place).out && ((folded_event_count_at items fold place == 1) || (run_event_count_before items place == 0))

-- the places that have rows, of the first `n`
unfoldable pub row_event_positions_below : List PictureItem → ℕ → ℕ → List ℕ
row_event_positions_below items fold zero = []
row_event_positions_below items fold (suc place) = row_event_positions_below items fold place ++ (if has_event_own_row items fold place then place ∷ [] else [])

abbrev pub row_event_positions : List PictureItem → ℕ → List ℕ
row_event_positions items fold = row_event_positions_below items fold (length items)
