-- Values of JSON (RFC 8259), as the responses hold them.
use Rattle.std.specs.Prelude.{ℕ, List, map}
use Rattle.serde_json.specs.Data.{Data, number, unsigned, array, object, no_members, member}
use Rattle.serde_json.specs.View.{items_of}

abbrev pub json_whole_number : ℕ → Data
json_whole_number n = number (unsigned n)

-- the list of what each of some things is
abbrev pub json_array_of_mapped_items : {A : Type 0} → (A → Data) → List A → Data
json_array_of_mapped_items f xs = array (items_of (map f xs))

-- an object of one member
abbrev pub json_object_of_member : List ℕ → Data → Data
json_object_of_member key value = object (member key value no_members)
