-- `dataBreakpointInfo` (Debug Adapter Protocol, "DataBreakpointInfoRequest"): cells of RAM are watched, for what is written into them.
use Rattle.std.specs.Prelude.{◌≡◌, ℕ, nat_lt, true, if◌then◌else◌, ◌++◌, codes, Option, Some, None, option_and_then}
use Rattle.serde_json.specs.Data.{Data, string, boolean, null, object, array, no_members, member, item, no_items}
use Rattle.serde_json.specs.View.{view}
use Rattle.ga_text.specs.Lines.{Text}
use Rattle.ga_text.specs.Digits.{name_of_node, two_hex_digits_text}
use Rattle.ga_grid.specs.declared.node_id.NodeId.{NodeId}
use Rattle.ga_dap_queries.specs.Evaluating.{cell_variable_in_brackets}
use Rattle.ga_dap_views.specs.Numbers.{chip_address}
use Rattle.ga_dap_views.specs.Variables.{memory_reference}
use Rattle.ga_dap_views.specs.declared.scope.Scope.{Scope}
use Rattle.ga_dap_views.specs.declared.scope.Scope.TheVariants.{Ram}
use Rattle.ga_dap_views.specs.declared.variable.Variable.{Variable}
use Rattle.ga_dap_views.specs.declared.variable.Variable.TheVariants.{Cell}
use Rattle.ga_dap_protocol.specs.Messages.{member_as_text}
use Rattle.ga_dap_protocol.specs.declared.request.ClientRequest.{ClientRequest}
use Rattle.ga_dap_queries.specs.Arguments.{IsVariablesReferenceArgument}
use Rattle.ga_dap_queries.specs.Sending.{Message, success_response}

unfoldable pub data_breakpoint_info_object : Text → Text → Data
data_breakpoint_info_object id description =
    object (member (codes "accessTypes") (array (item (string (codes "write")) no_items)) (member (codes "canPersist") (boolean true)
    (member (codes "dataId") (string id) (member (codes "description") (string description) no_members))))

unfoldable pub no_data_breakpoint_info_object : Data
no_data_breakpoint_info_object = object (member (codes "dataId") null (member (codes "description") (string (codes "only cells of RAM are watched")) no_members))

-- a cell of a node, by its address on the chip
abbrev pub cell_description : NodeId → ℕ → Text
cell_description node cell = codes "node " ++ name_of_node node ++ codes ", cell " ++ two_hex_digits_text cell

-- the cell of RAM of a name
abbrev pub ram_cell_of_variable : Variable → Option ℕ
ram_cell_of_variable (Cell cell) = if nat_lt cell 128 then Some cell else None
ram_cell_of_variable other = None

abbrev pub ram_cell_of_name : Text → Option ℕ
ram_cell_of_name name = option_and_then ram_cell_of_variable (cell_variable_in_brackets name)

abbrev pub data_breakpoint_info_of_cell : NodeId → Option ℕ → Data
data_breakpoint_info_of_cell node None = no_data_breakpoint_info_object
data_breakpoint_info_of_cell node (Some cell) = data_breakpoint_info_object (memory_reference (chip_address node.number cell)) (cell_description node cell)

abbrev pub data_breakpoint_info_in_scope : Scope → NodeId → Option Text → Data
data_breakpoint_info_in_scope Ram node name = data_breakpoint_info_of_cell node (option_and_then ram_cell_of_name name)
data_breakpoint_info_in_scope other node name = no_data_breakpoint_info_object

abbrev pub data_breakpoint_info_body : Option (NodeId × Scope) → Option Text → Data
data_breakpoint_info_body None name = no_data_breakpoint_info_object
data_breakpoint_info_body (Some at) name = data_breakpoint_info_in_scope at.1 at.0 name

abbrev pub AnswersDataBreakpointInfo : ClientRequest → Message → Type 0
AnswersDataBreakpointInfo request message = (asked : Option (NodeId × Scope)) × IsVariablesReferenceArgument (view request.arguments) asked
    × (message ≡ success_response request (data_breakpoint_info_body asked (member_as_text (codes "name") (view request.arguments))))
