-- The response to `evaluate` (Debug Adapter Protocol, "EvaluateRequest") where it asks for a register or a cell: its value, in the node of the
-- frame.
use Rattle.std.specs.Prelude.{◌≡◌, ◌≢◌, ◌<◌, ◌⊎◌, ◌==◌, ◌&&◌, if◌then◌else◌, ℕ, Bool, length, slice_index, slice_range, codes, Option, Some, None, option_map}
use Rattle.serde_json.specs.Data.{Data, string, object, no_members, member}
use Rattle.ga_text.specs.Digits.{hex_byte_value}
use Rattle.ga_text.specs.Lines.{Text}
use Rattle.ga_lab.specs.Machine.{MachineState}
use Rattle.ga_dap_views.specs.Json.{json_whole_number}
use Rattle.ga_dap_views.specs.Shown.{scope_variable_at_index, variable_count, variable_name}
use Rattle.ga_dap_views.specs.Variables.{variable_value_text}
use Rattle.ga_dap_views.specs.declared.scope.Scope.TheVariants.{Registers}
use Rattle.ga_dap_views.specs.declared.variable.Variable.{Variable}
use Rattle.ga_dap_views.specs.declared.variable.Variable.TheVariants.{Cell}

-- a cell, by two hexadecimal digits in brackets
abbrev pub cell_variable_in_brackets : Text → Option Variable
cell_variable_in_brackets text =
    if length text == 4 && slice_index text 0 == 91 && slice_index text 3 == 93 then option_map (λ address. Cell address) (hex_byte_value (slice_range text 1 3)) else None

-- a text asks for a register by its name, or for a cell
abbrev pub DenotesVariable : Text → Variable → Type 0
DenotesVariable text one = (variable_name one ≡ text) ⊎ (cell_variable_in_brackets text ≡ Some one)

-- a text asks for neither a register nor a cell
abbrev pub DenotesNoVariable : Text → Type 0
DenotesNoVariable text = ((k : ℕ) → k < variable_count Registers → variable_name (scope_variable_at_index Registers k) ≢ text) × (cell_variable_in_brackets text ≡ None)

unfoldable pub evaluate_result_object : Text → Data
evaluate_result_object value = object (member (codes "result") (string value) (member (codes "variablesReference") (json_whole_number 0) no_members))

abbrev pub evaluate_body : MachineState → Bool → ℕ → Variable → Data
evaluate_body s stuck n one = evaluate_result_object (variable_value_text s stuck n one)
