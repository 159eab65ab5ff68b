-- What the arguments of a request ask for (Debug Adapter Protocol, "StackTraceArguments", "ScopesArguments", "VariablesArguments").
use Rattle.std.specs.Prelude.{◌≡◌, ◌≢◌, ◌<◌, ℕ, Bool, List, [], ◌∷◌, codes, Option, Some, None, option_and_then, unwrap_or}
use Rattle.serde_json.specs.Data.{Data, Items, no_items, item}
use Rattle.serde_json.specs.Find.{get, as_bool, as_array}
use Rattle.ga_text.specs.Lines.{Text}
use Rattle.ga_grid.specs.declared.node_id.NodeId.{NodeId}
use Rattle.ga_dap_protocol.specs.Messages.{member_as_number}
use Rattle.ga_dap_views.specs.Numbers.{thread_id, frame_id, variables_reference}
use Rattle.ga_dap_views.specs.declared.scope.Scope.{Scope}

-- the flag of a member
abbrev pub parse_boolean_member : Text → Data → Option Bool
parse_boolean_member name d = option_and_then as_bool (get name d)

-- the number of a member, and another where it has none
abbrev pub number_member_or_default : Text → ℕ → Data → ℕ
number_member_or_default name other d = unwrap_or (member_as_number name d) other

-- the values of a member that is a list; none where it is no list
abbrev pub values_of_items : Items → List Data
values_of_items no_items = []
values_of_items (item d rest) = d ∷ values_of_items rest

abbrev pub items_or_empty : Option Items → List Data
items_or_empty None = []
items_or_empty (Some items) = values_of_items items

abbrev pub member_list_values : Text → Data → List Data
member_list_values name d = items_or_empty (option_and_then as_array (get name d))

-- the node of the requested thread, or that there is none
abbrev pub IsThreadArgument : Data → Option NodeId → Type 0
IsThreadArgument d (Some node) = member_as_number (codes "threadId") d ≡ Some (thread_id node.number)
IsThreadArgument d None = (n : ℕ) → n < 144 → member_as_number (codes "threadId") d ≢ Some (thread_id n)

-- the node of the requested frame, or that there is none
abbrev pub IsFrameArgument : Data → Option NodeId → Type 0
IsFrameArgument d (Some node) = (level : ℕ) × (level < 16) × (member_as_number (codes "frameId") d ≡ Some (frame_id node.number level))
IsFrameArgument d None = (n level : ℕ) → n < 144 → level < 16 → member_as_number (codes "frameId") d ≢ Some (frame_id n level)

-- the node and the scope of the requested variables, or none
abbrev pub IsVariablesReferenceArgument : Data → Option (NodeId × Scope) → Type 0
IsVariablesReferenceArgument d (Some at) = member_as_number (codes "variablesReference") d ≡ Some (variables_reference at.0.number at.1)
IsVariablesReferenceArgument d None = (n : ℕ) (scope : Scope) → n < 144 → member_as_number (codes "variablesReference") d ≢ Some (variables_reference n scope)
