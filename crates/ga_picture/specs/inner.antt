-- What only private contracts and proofs name.
use Rattle.std.specs.Prelude.{◌≡◌, ℕ, ◌<◌, ◌≤◌, ◌^◌, Bool, true, ◌&&◌, not, List, length, slice_index, ◌⊎◌, false, [], Result, Ok, Err, ◌↔◌, map, Option, IsTrue, Some, slice_get, if◌then◌else◌, slice_index_or, ◌++◌}
use Rattle.std.specs.List.{list_any}
use Rattle.ga_event.specs.Touches.{neighbours_of_node}
use Rattle.ga_causal.specs.Dependence.{event_with_look_touches_node, is_transfer_event, is_node_flagged}
use Rattle.ga_picture.specs.declared.item.PictureItem.{PictureItem}
use Rattle.ga_picture.specs.declared.independent.NodeActivity.{NodeActivity}
use Rattle.ga_picture.specs.Drawing.{drawn_event_count_of_node, IsIndependentNode, item_with_nodes_left_out, independent_nodes_with_counts}
use Rattle.ga_text.specs.Lines.{Bytes, Text, Line}
use Rattle.ga_explorer.specs.Opening.{ExplorerState}
use Rattle.ga_lab.specs.declared.fault.LabFault.TheVariants.{Memory}
use Rattle.ga_console.specs.Run.{status_of_commands_end}
use Rattle.ga_console.specs.Session.{ServesCommands, NeverAnswersAndEnds, IsWholeOrPrefixOnWriteError}
use Rattle.ga_console.specs.declared.commands.CommandsEnd.{CommandsEnd}
use Rattle.ga_text.specs.declared.output.WriteError.{WriteError}
use Rattle.ga_console.specs.declared.run.Status.{Status}
use Rattle.ga_console.specs.declared.run.Status.TheVariants.{Done, StreamFault}
use Rattle.ga_explorer.specs.Answers.{AnswersExplorerLine}
use Rattle.ga_picture.specs.Following.{IsOutOfMemoryAnswer, IsSilentAnswer, IsCompleteSilentAnswer, WritesPictureRefusal}
use Rattle.ga_event.specs.declared.event.EventWithLook.{EventWithLook}
use Rattle.ga_picture.specs.declared.independent.IndependentNode.{IndependentNode}
use Rattle.ga_picture.specs.declared.item.EventFacts.{EventFacts}
use Rattle.ga_picture.specs.declared.shade.Shade.{Shade}
use Rattle.ga_picture.specs.declared.view.PictureView.{PictureView}
use Rattle.ga_picture.specs.Drawing.{AreShadesOfEvents, IsLineOfNode}
use Rattle.ga_picture.specs.Items.{PictureFacts, is_plain_event_at, is_same_shade}
use Rattle.ga_picture.specs.Picture.{optional_step_position, viewed_picture_items, AreSvgGroups, row_group_tags}
use Rattle.ga_grid.specs.declared.node_id.NodeId.{NodeId}
use Rattle.ga_picture.specs.declared.shade.Shade.TheVariants.{Black}
use Rattle.ga_picture.specs.declared.runs.Runs.{Runs}
use Rattle.ga_picture.specs.declared.placing.PictureRow.{PictureRow}

-- ---- what the events of each node are like, as the code keeps it

-- a pass holds its nodes
abbrev pub RequiresTransferNodeLines : PictureItem → Type 0
RequiresTransferNodeLines item = is_transfer_event item.cause.event ≡ true → item.holds ≡ true

-- an event that isn't left out touches the node
abbrev pub is_drawn_and_touches_node : PictureItem → ℕ → Bool
is_drawn_and_touches_node item n = not item.out && event_with_look_touches_node item.cause n

abbrev pub is_look_item : PictureItem → Bool
is_look_item item = not (is_transfer_event item.cause.event) && item.cause.look

abbrev pub is_node_touched_by_drawn_item : List PictureItem → ℕ → Bool
is_node_touched_by_drawn_item items n = list_any (λ item. is_drawn_and_touches_node item n) items

abbrev pub is_node_line_required : List PictureItem → ℕ → Bool
is_node_line_required items n = list_any (λ (item : PictureItem). is_drawn_and_touches_node item n && item.holds) items

abbrev pub is_node_looking : List PictureItem → ℕ → Bool
is_node_looking items n = list_any (λ item. is_drawn_and_touches_node item n && is_look_item item) items

-- what was taken in of these events
pub record IsActivityOfItems (items : List PictureItem) (tally : NodeActivity) : Type 0 where
  pub steps : (n : ℕ) → n < 144 → slice_index tally.steps n ≡ drawn_event_count_of_node items n
  pub touched : (n : ℕ) → is_node_flagged tally.touched n ≡ is_node_touched_by_drawn_item items n
  pub held : (n : ℕ) → is_node_flagged tally.held n ≡ is_node_line_required items n
  pub looking : (n : ℕ) → is_node_flagged tally.looking n ≡ is_node_looking items n

-- no node has more steps than the bound
pub record HasNodeStepsWithinBound (tally : NodeActivity) (bound : ℕ) : Type 0 where
  pub size : length tally.steps ≡ 144
  pub few : (n : ℕ) → slice_index tally.steps n ≤ bound

-- nothing holds the node, and no look joins it to another, by what is marked
abbrev pub is_independent_by_marks : (ℕ → Bool) → (ℕ → Bool) → (ℕ → Bool) → ℕ → Bool
is_independent_by_marks touched held looking n =
    not (held n) && (not (looking n && list_any touched (neighbours_of_node n)) && not (list_any looking (neighbours_of_node n)))

abbrev pub is_independent_by_activity : NodeActivity → ℕ → Bool
is_independent_by_activity tally n = is_independent_by_marks (is_node_flagged tally.touched) (is_node_flagged tally.held) (is_node_flagged tally.looking) n

abbrev pub works_independently : NodeActivity → ℕ → Bool
works_independently tally n = is_node_flagged tally.touched n && is_independent_by_activity tally n

abbrev pub works_joined_to_others : NodeActivity → ℕ → Bool
works_joined_to_others tally n = is_node_flagged tally.touched n && not (is_independent_by_activity tally n)

-- something holds a node that works, or joins it to another
pub record HasJoinedWorkingNode (tally : NodeActivity) : Type 0 where
  pub node : ℕ
  pub joined : works_joined_to_others tally node ≡ true

-- ---- what private contracts, invariants and bridges cite

-- if no failed allocation is noted afterwards, none was before, nor for this answer
abbrev pub NotesFailedAllocation : Bool → Text → Bool → Type 0
NotesFailedAllocation before answer after = after ≡ false → (before ≡ false) × (¬ IsOutOfMemoryAnswer answer)

-- exploring may answer the line so, nothing is written here, and it is noted whether an allocation failed
abbrev pub ExecutesLineSilently : ExplorerState → Bool → Line → Text → ExplorerState → Bool → Type 0
ExecutesLineSilently s before line said new after = (said ≡ []) × (answer : Text) × AnswersExplorerLine s line answer new × NotesFailedAllocation before answer after

-- From this machine the commands are executed, up to `room` bytes of them.
abbrev pub ExecutesCommandsSilently : ℕ → ExplorerState → Bytes → Bytes → Text → Result ExplorerState Status → Type 0
ExecutesCommandsSilently room s read rest text (Ok last) =
    (text ≡ []) × (ending : Result CommandsEnd WriteError) × (status_of_commands_end ending ≡ Done) × ServesCommands IsCompleteSilentAnswer NeverAnswersAndEnds room s read rest [] last ending
ExecutesCommandsSilently room s read rest text (Err status) = (last : ExplorerState) × (ending : Result CommandsEnd WriteError)
    × (((status_of_commands_end ending ≡ StreamFault) × (status ≡ StreamFault) × (said : Text) × ServesCommands IsSilentAnswer NeverAnswersAndEnds room s read rest said last ending × IsWholeOrPrefixOnWriteError ending said text)
    ⊎ ((status_of_commands_end ending ≡ Done) × ServesCommands IsSilentAnswer NeverAnswersAndEnds room s read rest [] last ending × WritesPictureRefusal Memory text status))

-- What comes of a machine that was reached.
abbrev pub YieldsStateOrMemoryRefusal : ExplorerState → Bool → Text → Result ExplorerState Status → Type 0
YieldsStateOrMemoryRefusal s short text (Ok last) = (last ≡ s) × (short ≡ false) × (text ≡ [])
YieldsStateOrMemoryRefusal s short text (Err status) = WritesPictureRefusal Memory text status

-- ---- what is known of events, as the code has it

abbrev pub picture_facts_with_step_positions : List EventWithLook → List Shade → (ℕ → Bool) → (ℕ → Bool) → Option ℕ → Option ℕ → PictureFacts
picture_facts_with_step_positions events shades ready idle cause rewind =
    record { events = events; shades = shades; ready = ready; idle = idle; cause = cause; rewind = rewind }

abbrev pub picture_facts_of_events : EventFacts → (ℕ → Bool) → PictureFacts
picture_facts_of_events facts ready = picture_facts_with_step_positions facts.events.now facts.shades.now ready (is_node_flagged facts.idle.now) facts.cause facts.rewind

-- There are few events, each with its colour and whether it is plain; `from` is not after `to`, and `to` not past them all.
pub record AreEventFactsKnownBetween (facts : EventFacts) (from to : ℕ) : Type 0 where
  pub order : from ≤ to
  pub within : to ≤ length facts.events.now
  pub few : length facts.events.now < 2 ^ 32
  pub shades : length facts.shades.now ≡ length facts.events.now
  pub plain : length facts.plain.now ≡ length facts.events.now

-- the events that are plain are those that are so if these nodes are ready after the events
abbrev pub ArePlainEventsByReadyNodes : (ℕ → Bool) → EventFacts → Type 0
ArePlainEventsByReadyNodes ready facts =
    (place : ℕ) → place < length facts.events.now → slice_index_or facts.plain.now place false ≡ is_plain_event_at ready facts.events.now place

-- what is drawn of events in view, and which nodes are listed at the foot
pub record AreItemsAndIndependentNodes (looked items : List PictureItem) (told : List IndependentNode) : Type 0 where
  pub alone : ℕ → Bool
  pub are_alone : (n : ℕ) → IsTrue (alone n) ↔ IsIndependentNode looked n
  pub tells : told ≡ independent_nodes_with_counts looked alone
  pub are : items ≡ map (item_with_nodes_left_out alone) looked

-- the events that are looked at, as the picture takes them
pub record AreItemsOfEvents (events : List EventWithLook) (ready idle : ℕ → Bool) (view : PictureView) (items : List PictureItem) (told : List IndependentNode) : Type 0 where
  pub shades : List Shade
  pub shaded : AreShadesOfEvents events (optional_step_position events view.cause) (optional_step_position events view.rewind) shades
  pub listed : AreItemsAndIndependentNodes (viewed_picture_items events ready idle view shades) items told

-- ---- the lines of the first nodes, as they are appended one after another

-- Of the nodes below a number, those that are used have lines, and no others, by their numbers; and each has its index noted.
pub record AreLinesOfNodes (used : ℕ → Bool) (lines : List NodeId) (columns : List ℕ) (bound : ℕ) : Type 0 where
  pub size : length columns ≡ 144
  pub few : length lines ≤ bound
  pub found : (n : ℕ) → n < bound → used n ≡ true → IsLineOfNode lines (slice_index columns n) n
  pub below : (line : ℕ) (node : NodeId) → slice_get lines line ≡ Some node → node.number < bound
  pub needed : (line : ℕ) (node : NodeId) → slice_get lines line ≡ Some node → used node.number ≡ true
  pub rising : (line other : ℕ) (node next : NodeId) → slice_get lines line ≡ Some node → slice_get lines other ≡ Some next
      → line < other → node.number < next.number

-- ---- runs of the nodes, as they are kept while a list is gone through

-- how many events the run of a node has in a colour
abbrev pub run_length_in_shade : Runs → ℕ → Shade → ℕ
run_length_in_shade runs n shade = if is_same_shade (slice_index_or runs.shades n Black) shade then slice_index runs.counts n else 0

abbrev pub HasOneRunPerNode : Runs → Type 0
HasOneRunPerNode runs = (length runs.counts ≡ 144) × (length runs.shades ≡ 144)

-- no run has more events than the bound
abbrev pub AreRunsWithinBound : Runs → ℕ → Type 0
AreRunsWithinBound runs bound = (n : ℕ) → slice_index runs.counts n ≤ bound

-- ---- the front of a picture's text

-- a head and the groups of the rows
abbrev pub BeginsSvgText : List PictureRow → List ℕ → Type 0
BeginsSvgText rows text = (head : List ℕ) × (groups : List ℕ) × AreSvgGroups (row_group_tags rows) groups × (text ≡ head ++ groups)
