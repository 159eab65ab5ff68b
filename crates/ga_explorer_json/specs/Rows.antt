-- The rows of an answer as JSON values (this project's own).
use Rattle.std.specs.Prelude.{◌≡◌, List, [], ◌∷◌, Option, Some, None}
use Rattle.ga_text.specs.Lines.{Text}
use Rattle.ga_json.specs.Values.{JsonValue, JsonItems, no_items, item}
use Rattle.ga_json.specs.Compact.{json_line}

-- a value for each of these
abbrev pub json_rows_of_items : {A : Type 0} → (A → JsonValue) → List A → JsonItems
json_rows_of_items row [] = no_items
json_rows_of_items row (x ∷ xs) = item (row x) (json_rows_of_items row xs)

-- the text is the line of such a value
abbrev pub IsJsonLine : (JsonValue → Type 0) → Text → Type 0
IsJsonLine IsAnswer text = (answer : JsonValue) × IsAnswer answer × (text ≡ json_line answer)

-- a row before others; without one there are none
abbrev pub rows_if_first_present : Option JsonValue → JsonItems → JsonItems
rows_if_first_present None rest = no_items
rows_if_first_present (Some row) rest = item row rest
