-- The names of fields (docs/JSON.md; this project's own).
use Rattle.std.specs.Prelude.{ℕ, Bool, true, ◌&&◌, ◌||◌, ◌==◌, nat_le, [], ◌∷◌, length}
use Rattle.ga_text.specs.Lines.{Text}

-- a lower case letter, a digit or `_`
abbrev pub is_field_name_byte : ℕ → Bool
is_field_name_byte b = (nat_le 97 b && nat_le b 122) || ((nat_le 48 b && nat_le b 57) || (b == 95))

abbrev pub are_field_name_bytes : Text → Bool
are_field_name_bytes [] = true
are_field_name_bytes (b ∷ bs) = is_field_name_byte b && are_field_name_bytes bs

-- a name of a field: at most 24 such bytes
abbrev pub is_field_name : Text → Bool
is_field_name text = nat_le (length text) 24 && are_field_name_bytes text
