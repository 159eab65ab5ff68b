-- What answers a line of a session is JSON on a line.
use Rattle.std.proofs.Common.{◌≡◌, ℕ, zero, suc, ◌+◌, List, [], ◌∷◌, ◌++◌, length, Bool, true, false, codes, inl, inr, refl, sym, subst}
use Rattle.std.specs.Prelude.{◌&&◌, pos, nat_eq, Option, Some, None, Result, Ok, Err, option_and_then}
use Rattle.std.specs.Str.{IsUtf8}
use Rattle.std.specs.Cmp.Lexicographic.{pointwise}
use Rattle.std.proofs.lemmas.Bool.{cond_both, and_parts}
use Rattle.ga_text.specs.Lines.{Text, Line}
use Rattle.ga_text.specs.Digits.{name_of_node}
use Rattle.ga_text.specs.Parsing.{split_at_space}
use Rattle.ga_parser.specs.Nearness.{is_within_one_edit}
use Rattle.ga_node.specs.Record.{NodeRecord}
use Rattle.ga_grid.specs.Chip.{node_record_at}
use Rattle.ga_grid.specs.declared.node_id.NodeId.{NodeId}
use Rattle.ga_event.specs.Flow.{node_part_value}
use Rattle.ga_event.specs.Told.{count_steps}
use Rattle.ga_event.specs.declared.made.MadeEvent.{MadeEvent}
use Rattle.ga_causal.specs.declared.chain.ChainLink.{ChainLink}
use Rattle.ga_image.specs.Printing.{printed_image}
use Rattle.ga_lab.specs.Machine.{MachineState, chip_of_machine, history_of_node, step_answer, undo_answer, rewind_answer, why_answer}
use Rattle.ga_lab.specs.declared.fault.LabFault.{LabFault}
use Rattle.ga_lab.specs.declared.fault.LabFault.TheVariants.{Memory as NoMemory}
use Rattle.ga_scheduler.specs.declared.running.RunEnd.{RunEnd}
use Rattle.ga_scheduler.specs.declared.running.RunEnd.TheVariants.{ConditionHeld, MadeRequestedEvents as AllMade, Quiet, Refused}
use Rattle.ga_display.specs.Texts.{worded_long_line_refusal}
use Rattle.ga_display.specs.declared.wording.RefusalWording.TheVariants.{Advised}
use Rattle.ga_console.specs.Replies.{first_node_lacking_step}
use Rattle.ga_console.specs.Commands.{SpellsCommand}
use Rattle.ga_console.specs.declared.command.DebuggerCommand.{DebuggerCommand}
use Rattle.ga_console.specs.declared.command.DebuggerCommand.TheVariants.{Step, Back, Rewind, Node, Memory, Trace, Why, Count, Dump, Quit}
use Rattle.ga_explorer.specs.Forms.{CommandEntry}
use Rattle.ga_explorer.specs.NoCommand.{command_usage_of_name, usage_of_similar_command, command_usage_or_default, suggested_command_usage, command_word, begins_with_byte_order_mark, ends_with_carriage_return, has_leading_or_trailing_blank, has_upper_case_letter, command_suggestion}
use Rattle.ga_explorer.specs.Commands.{command_table, text_query_name, text_query_text}
use Rattle.ga_explorer.specs.Opening.{ExplorerState}
use Rattle.ga_console.specs.Selectors.{selected_step_number}
use Rattle.ga_explorer.specs.Reading.{part_of_node_value}
use Rattle.ga_explorer.specs.Changes.{change_name}
use Rattle.ga_explorer.specs.declared.changes.Change.{Change}
use Rattle.ga_explorer.specs.declared.changes.Change.TheVariants.{Run, BackUntil}
use Rattle.ga_explorer.specs.declared.changes.ChangeResult.{ChangeResult}
use Rattle.ga_explorer.specs.declared.changes.ChangeResult.TheVariants.{RunEnded, EventsRemoved, Refused as ChangeRefused}
use Rattle.ga_explorer.specs.declared.expecting.ExpectingRefusal.{ExpectingRefusal}
use Rattle.ga_explorer.specs.declared.expecting.ExpectingRefusal.TheVariants.{NothingExpected, Memory as NoMemoryForExpectations}
use Rattle.ga_explorer.specs.Expecting.{expecting_refusal_text}
use Rattle.ga_debug_info.specs.declared.notes.DebugInfo.{DebugInfo}
use Rattle.ga_explorer.specs.declared.commands.ExplorerCommand.{ExplorerCommand}
use Rattle.ga_explorer.specs.declared.commands.ExplorerCommand.TheVariants as asked
use Rattle.ga_explorer.specs.declared.commands.Query.{Query}
use Rattle.ga_explorer.specs.declared.commands.Query.TheVariants as query
use Rattle.ga_json.specs.Values.{JsonValue, number, string}
use Rattle.ga_json.specs.Fields.{NamedValue}
use Rattle.ga_json.specs.Compact.{IsWritableValue, AreWritableItems}
use Rattle.ga_explorer_json.specs.Answers.{AnswersCommandJson, AnswersQueryJson, AnswersExplorerJson, IsRequestOfLine, AnswersLineRequest, AnswersJsonLine}
use Rattle.ga_explorer_json.specs.Changes.{expecting_refusal_json, step_answer_json, IsStepJson, removal_counts_json, undo_json, rewind_json, held_condition_fields, run_end_fields, run_json, change_result_json}
use Rattle.ga_explorer_json.specs.Events.{made_event_fields}
use Rattle.ga_explorer_json.specs.JsonLines.{IsValidJsonLine, IsJsonLineUnlessQuit}
use Rattle.ga_explorer_json.specs.NodeState.{node_status_fields, node_register_fields, node_fields, stack_part_at_index, stack_rows, node_json}
use Rattle.ga_explorer_json.specs.Parts.{part_word_fields}
use Rattle.ga_explorer_json.specs.Readings.{memory_word_json, history_counts_json}
use Rattle.ga_explorer_json.specs.Refusals.{hint_of_refusal}
use Rattle.ga_explorer_json.specs.Rows.{json_rows_of_items, IsJsonLine}
use Rattle.ga_explorer_json.specs.Steps.{event_json, trace_head_fields, trace_json, IsTraceJson, chain_head_fields, chain_json, IsChainJson, IsWhyJson, IsDumpJson}
use Rattle.ga_explorer_json.specs.Texts.{text_answer_json, line_refusal_json, long_line_refusal_json, syntax_refusal_of_line}
use Rattle.ga_explorer_json.specs.declared.answers.LineRequest.{LineRequest}
use Rattle.ga_explorer_json.specs.declared.answers.LineRequest.TheVariants as request
use Rattle.ga_explorer_json.proofs.Utf8Values.{IsLow, is_low, low, low_utf8, plain, node_name, is_json_line, checked_text, optional_number, number_if_any, AreUtf8Fields, are_named, fields, fields_append, json_object_of_member, report_of, rows_of, members_of, have_low_names, object_by}
use Rattle.ga_explorer_json.proofs.Utf8Rows.{hint_utf8, fault_word_utf8, fault_hint_utf8, lab_refusal, step_refusal, made_event, value}
use Rattle.ga_explorer_json.proofs.Utf8Expected.{expectations_utf8}
use Rattle.ga_explorer_json.proofs.Utf8Queries.{effects_utf8, words_utf8, writes_utf8, at_utf8, whence_utf8, because_utf8, races_utf8, activity_utf8, who_utf8}

-- the same value
as_value : (value other : JsonValue) → value ≡ other → IsWritableValue other → IsWritableValue value
as_value value other e h = subst IsWritableValue (sym e) h

-- ---- changes

step_utf8 : (answer : Result MadeEvent LabFault) → IsWritableValue (step_answer_json answer)
unfolding is_low are_named
step_utf8 (Ok made) =
    let first : List NamedValue = (codes "command", string (codes "step")) ∷ [] in
    json_object_of_member (first ++ made_event_fields made) (fields_append first (made_event_fields made) (fields first refl (plain (codes "step") refl, tt)) (made_event made))
step_utf8 (Err why) = lab_refusal (codes "step") why (plain (codes "step") refl)

stepped_utf8 : (s : MachineState) (node : NodeId) (new : MachineState) (answer : JsonValue) → IsStepJson s node new answer → IsWritableValue answer
unfolding is_low
stepped_utf8 s node new answer (inl h) = as_value answer (step_answer_json (step_answer s node)) h.0 (step_utf8 (step_answer s node))
stepped_utf8 s node new answer (inr h) = as_value answer _ h.1 (lab_refusal (codes "step") NoMemory (plain (codes "step") refl))

removed_utf8 : (command : Text) (removed : Option ℕ) (kept : ℕ) → IsUtf8 command → IsWritableValue (removal_counts_json command removed kept)
unfolding is_low have_low_names
removed_utf8 command removed kept h = object_by (members_of (removal_counts_json command removed kept)) refl (h, (optional_number removed, (tt, tt)))

undo_utf8 : (answer : Result (Unit {0}) LabFault) (kept : ℕ) → IsWritableValue (undo_json answer kept)
unfolding is_low
undo_utf8 (Ok done) kept = removed_utf8 (codes "back") (Some 1) kept (plain (codes "back") refl)
undo_utf8 (Err why) kept = lab_refusal (codes "back") why (plain (codes "back") refl)

rewind_utf8 : (node : NodeId) (count : ℕ) (answer : Result ℕ LabFault) (kept : ℕ) → IsWritableValue (rewind_json node count answer kept)
unfolding is_low
rewind_utf8 node count (Ok removed) kept = removed_utf8 (codes "rewind") (Some removed) kept (plain (codes "rewind") refl)
rewind_utf8 node count (Err why) kept = step_refusal (codes "rewind") node count why (plain (codes "rewind") refl)

run_end_utf8 : (end : RunEnd) → AreUtf8Fields (run_end_fields end)
unfolding is_low are_named
run_end_utf8 (ConditionHeld made which) =
    fields_append (held_condition_fields which) (made_event_fields made) (fields (held_condition_fields which) refl (plain (codes "reached") refl, (tt, tt))) (made_event made)
run_end_utf8 AllMade = fields (run_end_fields AllMade) refl (plain (codes "made") refl, tt)
run_end_utf8 Quiet = fields (run_end_fields Quiet) refl (plain (codes "quiet") refl, tt)
run_end_utf8 (Refused why) = fields (run_end_fields (Refused why)) refl (fault_word_utf8 why, (fault_hint_utf8 why, tt))

run_utf8 : (command : Text) (events : ℕ) (end : RunEnd) → IsUtf8 command → IsWritableValue (run_json command events end)
unfolding is_low are_named
run_utf8 command events end h =
    let first : List NamedValue = (codes "command", string command) ∷ (codes "events", number (pos events)) ∷ [] in
    json_object_of_member (first ++ run_end_fields end) (fields_append first (run_end_fields end) (fields first refl (h, (tt, tt))) (run_end_utf8 end))

change_name_utf8 : (change : Change) → IsUtf8 (change_name change)
unfolding is_low
change_name_utf8 (Run schedule most until) = plain (codes "run") refl
change_name_utf8 (BackUntil only until) = plain (codes "back") refl

expecting_refusal_utf8 : (command : Text) (why : ExpectingRefusal) → IsUtf8 command → IsWritableValue (expecting_refusal_json command why)
unfolding is_low have_low_names
expecting_refusal_utf8 command NothingExpected h =
    let line : Text = expecting_refusal_text NothingExpected in
    object_by (members_of (expecting_refusal_json command NothingExpected)) refl (h, (tt, (plain (codes "noexpect") refl, (hint_utf8 line (low line refl), tt))))
expecting_refusal_utf8 command NoMemoryForExpectations h = lab_refusal command NoMemory h

change_result_utf8 : (command : Text) (came : ChangeResult) → IsUtf8 command → IsWritableValue (change_result_json command came)
change_result_utf8 command (RunEnded ran conditions) h = run_utf8 command ran.events ran.end h
change_result_utf8 command (EventsRemoved removed kept) h = removed_utf8 command removed kept h
change_result_utf8 command (ChangeRefused why) h = expecting_refusal_utf8 command why h

-- ---- readings

stack_from : (at : NodeRecord) (k more : ℕ) → AreWritableItems (stack_rows at k more)
unfolding stack_rows
stack_from at k zero = tt
stack_from at k (suc more) =
    (json_object_of_member (part_word_fields (stack_part_at_index k) (node_part_value 0 at (stack_part_at_index k))) (value (stack_part_at_index k) (node_part_value 0 at (stack_part_at_index k))), stack_from at (k + 1) more)

node_utf8 : (s : MachineState) (node : NodeId) → IsWritableValue (node_json s node)
unfolding is_low are_named
node_utf8 s node =
    let at = node_record_at (chip_of_machine s) node.number in
    let first : List NamedValue = (codes "command", string (codes "node")) ∷ (codes "node", string (name_of_node node)) ∷ [] in
    report_of (node_fields node at) (stack_rows at 0 19)
    (fields_append first (node_status_fields at ++ node_register_fields at) (fields first refl (plain (codes "node") refl, (node_name node, tt)))
    (fields_append (node_status_fields at) (node_register_fields at)
    (fields (node_status_fields at) refl (activity_utf8 at.wait at.stop, (tt, (tt, (tt, (tt, (number_if_any at.stop, tt)))))))
    (fields (node_register_fields at) refl (tt, (tt, (tt, (tt, (tt, (tt, (tt, tt)))))))))) (stack_from at 0 19)

memory_utf8 : (s : MachineState) (node : NodeId) (address : ℕ) → IsWritableValue (memory_word_json s node address)
unfolding is_low have_low_names
memory_utf8 s node address = object_by (members_of (memory_word_json s node address)) refl (plain (codes "mem") refl, (node_name node, (tt, (tt, tt))))

counts_utf8 : (s : MachineState) → IsWritableValue (history_counts_json s)
unfolding is_low have_low_names
counts_utf8 s = object_by (members_of (history_counts_json s)) refl (plain (codes "count") refl, (tt, (tt, (tt, tt))))

event_utf8 : (made : MadeEvent) → IsWritableValue (event_json made)
event_utf8 made = json_object_of_member (made_event_fields made) (made_event made)

trace_utf8 : (s : MachineState) (node : NodeId) (answer : JsonValue) → IsTraceJson s node answer → IsWritableValue answer
unfolding is_low are_named
trace_utf8 s node answer (inl e) =
    as_value answer (trace_json node (history_of_node s node.number)) e
    (report_of (trace_head_fields node) (json_rows_of_items event_json (history_of_node s node.number)) (fields (trace_head_fields node) refl (plain (codes "trace") refl, (node_name node, tt)))
    (rows_of event_json event_utf8 (history_of_node s node.number)))
trace_utf8 s node answer (inr e) = as_value answer _ e (lab_refusal (codes "trace") NoMemory (plain (codes "trace") refl))

chain_utf8 : (leads : Bool) (events : List MadeEvent) → IsWritableValue (chain_json leads events)
unfolding is_low are_named
chain_utf8 leads events =
    report_of (chain_head_fields leads) (json_rows_of_items event_json events) (fields (chain_head_fields leads) refl (plain (codes "why") refl, (tt, tt))) (rows_of event_json event_utf8 events)

linked_utf8 : (s : MachineState) (node : NodeId) (links : Result (Option (List ChainLink)) LabFault) (answer : JsonValue) → IsChainJson s node links answer → IsWritableValue answer
unfolding is_low
linked_utf8 s node (Ok None) answer e = as_value answer (chain_json false []) e (chain_utf8 false [])
linked_utf8 s node (Ok (Some links)) answer h = as_value answer (chain_json true h.0) h.2 (chain_utf8 true h.0)
linked_utf8 s node (Err why) answer e = as_value answer _ e (step_refusal (codes "why") node (count_steps node.number s.kept) why (plain (codes "why") refl))

why_utf8 : (s : MachineState) (from : NodeId) (k : ℕ) (to : NodeId) (j : ℕ) (answer : JsonValue) → IsWhyJson s from k to j answer → IsWritableValue answer
unfolding is_low
why_utf8 s from k to j answer (inl h) = linked_utf8 s (first_node_lacking_step s from k to) (why_answer s from.number k to.number j) answer h
why_utf8 s from k to j answer (inr h) = as_value answer _ h.1 (lab_refusal (codes "why") NoMemory (plain (codes "why") refl))

-- ---- texts

text_utf8 : (command text : Text) → IsWritableValue (text_answer_json command text)
unfolding is_low have_low_names
text_utf8 command text = object_by (members_of (text_answer_json command text)) refl (checked_text command, (checked_text text, tt))

dump_utf8 : (s : MachineState) (answer : JsonValue) → IsDumpJson s answer → IsWritableValue answer
unfolding is_low
dump_utf8 s answer (inl e) = as_value answer _ e (text_utf8 (codes "dump") (printed_image (chip_of_machine s)))
dump_utf8 s answer (inr e) = as_value answer _ e (lab_refusal (codes "dump") NoMemory (plain (codes "dump") refl))

line_refusal : (code : ℕ) (why hint : Text) → IsUtf8 why → IsUtf8 hint → IsWritableValue (line_refusal_json code why hint)
unfolding is_low have_low_names
line_refusal code why hint a b = object_by (members_of (line_refusal_json code why hint)) refl (tt, (tt, (a, (b, tt))))

long_utf8 : IsWritableValue long_line_refusal_json
unfolding is_low
long_utf8 = line_refusal 32 (codes "long") (hint_of_refusal (worded_long_line_refusal Advised)) (plain (codes "long") refl) (hint_utf8 (worded_long_line_refusal Advised) (low (worded_long_line_refusal Advised) refl))

-- the forms of these commands are ASCII
unfoldable have_low_forms : List CommandEntry → Bool
have_low_forms [] = true
have_low_forms (row ∷ rows) = is_low row.form && have_low_forms rows

abbrev IsLowIfAny : Option Text → Type 0
IsLowIfAny None = Unit {0}
IsLowIfAny (Some form) = IsLow form

form_low : (word : Line) (rows : List CommandEntry) → have_low_forms rows ≡ true → IsLowIfAny (command_usage_of_name word rows)
unfolding have_low_forms command_usage_of_name
form_low word [] h = tt
form_low word (row ∷ rows) h =
    let parts = and_parts (is_low row.form) (have_low_forms rows) h in
    cond_both (pointwise nat_eq row.name word) (Some row.form) (command_usage_of_name word rows) IsLowIfAny (λ _. low row.form parts.0) (λ _. form_low word rows parts.1)

near_low : (word : Line) (rows : List CommandEntry) → have_low_forms rows ≡ true → IsLowIfAny (usage_of_similar_command word rows)
unfolding have_low_forms usage_of_similar_command
near_low word [] h = tt
near_low word (row ∷ rows) h =
    let parts = and_parts (is_low row.form) (have_low_forms rows) h in
    cond_both (is_within_one_edit word row.name) (Some row.form) (usage_of_similar_command word rows) IsLowIfAny (λ _. low row.form parts.0) (λ _. near_low word rows parts.1)

or_low : (form : Option Text) (other : Text) → IsLowIfAny form → IsLow other → IsLow (command_usage_or_default form other)
or_low None other h k = k
or_low (Some form) other h k = h

suggested_low : (word : Line) → IsLow (suggested_command_usage word)
unfolding is_low have_low_forms command_table
suggested_low word =
    or_low (command_usage_of_name word command_table) (command_usage_or_default (usage_of_similar_command word command_table) (codes "help")) (form_low word command_table refl)
    (or_low (usage_of_similar_command word command_table) (codes "help") (near_low word command_table refl) (low (codes "help") refl))

suggestion_low : (line : Line) → IsLow (command_suggestion line)
unfolding is_low
suggestion_low line =
    let mark = codes "a byte order mark stands before the command; leave it out" in
    let returned = codes "a carriage return ends the line; end it with a line feed alone" in
    let blank = codes "a blank stands at an end of the line; leave it out" in
    let upper = codes "the command is in upper case; write it in lower case" in
    let word = command_word (split_at_space line) line in
    cond_both (begins_with_byte_order_mark line) mark _ IsLow (λ _. low mark refl)
    (λ _. cond_both (ends_with_carriage_return line) returned _ IsLow (λ _. low returned refl)
    (λ _. cond_both (has_leading_or_trailing_blank line) blank _ IsLow (λ _. low blank refl)
    (λ _. cond_both (has_upper_case_letter word) upper (suggested_command_usage word) IsLow (λ _. low upper refl) (λ _. suggested_low word))))

syntax_utf8 : (line : Line) → IsWritableValue (syntax_refusal_of_line line)
unfolding is_low
syntax_utf8 line = line_refusal 31 (codes "syntax") (command_suggestion line) (plain (codes "syntax") refl) (low_utf8 (command_suggestion line) (suggestion_low line))

-- ---- an answer

-- the text is the line of a value of which this holds
line_of : (IsAnswer : JsonValue → Type 0) (answer : Text) → ((value : JsonValue) → IsAnswer value → IsWritableValue value) → IsJsonLine IsAnswer answer → IsValidJsonLine answer
line_of IsAnswer answer each h = is_json_line h.0 answer h.2 (each h.0 h.1)

command_answer : (s : MachineState) (command : DebuggerCommand) (line answer : Text) (new : MachineState) → SpellsCommand command line → AnswersCommandJson s command answer new → IsJsonLineUnlessQuit line answer
command_answer s (Step node) line answer new is h = inr (line_of (IsStepJson s node new) answer (stepped_utf8 s node new) h)
command_answer s Back line answer new is h = inr (is_json_line (undo_json (undo_answer s) (length new.kept)) answer h.0 (undo_utf8 (undo_answer s) (length new.kept)))
command_answer s (Rewind node k) line answer new is h =
    let count = count_steps node.number s.kept in
    inr (is_json_line (rewind_json node count (rewind_answer s node.number k) (length new.kept)) answer h.0 (rewind_utf8 node count (rewind_answer s node.number k) (length new.kept)))
command_answer s (Node node) line answer new is h = inr (is_json_line (node_json s node) answer h.0 (node_utf8 s node))
command_answer s (Memory node address) line answer new is h = inr (is_json_line (memory_word_json s node address) answer h.0 (memory_utf8 s node address))
command_answer s (Trace node) line answer new is h = inr (line_of (IsTraceJson s node) answer (trace_utf8 s node) h.0)
command_answer s (Why from k to j) line answer new is h = inr (line_of (IsWhyJson s from k to j) answer (why_utf8 s from k to j) h.0)
command_answer s Count line answer new is h = inr (is_json_line (history_counts_json s) answer h.0 (counts_utf8 s))
command_answer s Dump line answer new is h = inr (line_of (IsDumpJson s) answer (dump_utf8 s) h.0)
command_answer s Quit line answer new is h = inl (is, h.0)

query_utf8 : (e : ExplorerState) (asked : Query) (answer : JsonValue) → AnswersQueryJson e asked answer → IsWritableValue answer
unfolding is_low
query_utf8 e (query.Effects node which) answer h = effects_utf8 e.notes e.lab node (selected_step_number e.lab node which) answer h
query_utf8 e (query.Words from to) answer h = as_value answer _ h (words_utf8 e.lab from to)
query_utf8 e (query.Writes node address) answer h = as_value answer _ h (writes_utf8 e.lab node address)
query_utf8 e (query.StepsAround node which around) answer h = as_value answer _ h (at_utf8 e.notes e.lab node (selected_step_number e.lab node which) around)
query_utf8 e (query.Whence node which queried first) answer h =
    whence_utf8 e.notes e.lab node (selected_step_number e.lab node which) (option_and_then part_of_node_value queried) first answer h
query_utf8 e (query.Because node which most) answer h = as_value answer _ h (because_utf8 e.notes e.lab node (selected_step_number e.lab node which) most)
query_utf8 e (query.Races only) answer h = races_utf8 e.lab only answer h
query_utf8 e query.Expectations answer h = expectations_utf8 e.notes e.lab answer h
query_utf8 e query.WaitingNodes answer h = who_utf8 e.lab answer h
query_utf8 e (query.Text asked) answer h = as_value answer _ h (text_utf8 (text_query_name asked) (text_query_text e.lab asked))

explorer_answer : (e : ExplorerState) (command : ExplorerCommand) (answer : Text) (new : ExplorerState) → AnswersExplorerJson e command answer new → IsValidJsonLine answer
explorer_answer e (asked.Change change) answer new h =
    is_json_line (change_result_json (change_name change) h.0) answer h.2 (change_result_utf8 (change_name change) h.0 (change_name_utf8 change))
explorer_answer e (asked.AnswerQuery question) answer new h = line_of (AnswersQueryJson e question) answer (query_utf8 e question) h.0

request_answer : (e : ExplorerState) (line : Line) (asked : LineRequest) (answer : Text) (new : ExplorerState) → IsRequestOfLine e.notes line asked
    → AnswersLineRequest e line asked answer new → IsJsonLineUnlessQuit line answer
request_answer e line (request.Explore command) answer new is h = inr (explorer_answer e command answer new h)
request_answer e line (request.Debug command) answer new is h = command_answer e.lab command line answer new.lab is.1 h.0
request_answer e line request.TooLongLine answer new is h = inr (is_json_line long_line_refusal_json answer h.0 long_utf8)
request_answer e line request.Unknown answer new is h = inr (is_json_line (syntax_refusal_of_line line) answer h.0 (syntax_utf8 line))

pub line_answer : (e new : ExplorerState) (line : Line) (answer : Text) → AnswersJsonLine e line answer new → IsJsonLineUnlessQuit line answer
line_answer e new line answer h = request_answer e line h.0 answer new h.1 h.2
