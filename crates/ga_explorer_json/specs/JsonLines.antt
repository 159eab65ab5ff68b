-- Lines that are JSON texts (RFC 8259), and what may be written of them.
use Rattle.std.specs.Prelude.{◌≡◌, ◌⊎◌, List, [], flat_map}
use Rattle.std.specs.List.{AllByRecursion}
use Rattle.ga_text.specs.Lines.{Text, Line}
use Rattle.ga_text.specs.Output.{TextHasPrefix}
use Rattle.ga_console.specs.Session.{quit_line}
use Rattle.ga_console.specs.declared.run.Status.{Status}
use Rattle.ga_console.specs.declared.run.Status.TheVariants.{StreamFault}
use Rattle.ga_json.specs.Values.{JsonValue}
use Rattle.ga_json.specs.Grammar.{IsJsonText}
use Rattle.ga_json.specs.Compact.{json_line}

-- The line of a value is a JSON text of it.
abbrev pub IsPrintedAsValidJson : JsonValue → Type 0
IsPrintedAsValidJson value = IsJsonText (json_line value) value

-- the text is such a line
abbrev pub IsValidJsonLine : Text → Type 0
IsValidJsonLine text = (value : JsonValue) × (text ≡ json_line value) × IsPrintedAsValidJson value

-- the text is such lines, one after another
abbrev pub AreValidJsonLines : Text → Type 0
AreValidJsonLines text = (values : List JsonValue) × (text ≡ flat_map json_line values) × AllByRecursion IsPrintedAsValidJson values

-- nothing is answered to `quit`, and to any other line such a line
abbrev pub IsJsonLineUnlessQuit : Line → Text → Type 0
IsJsonLineUnlessQuit line answer = ((line ≡ quit_line) × (answer ≡ [])) ⊎ IsValidJsonLine answer

-- such lines were written, or where a write failed a front of them
abbrev pub WritesValidJsonLines : Text → Status → Type 0
WritesValidJsonLines written status = AreValidJsonLines written ⊎ ((status ≡ StreamFault) × (whole : Text) × AreValidJsonLines whole × TextHasPrefix whole written)
