-- The texts of a JSON value (RFC 8259, sections 2 to 8.1). Of numbers (section 6) the fraction and the exponent are left out.
use Rattle.std.specs.Prelude.{◌≡◌, ℕ, zero, suc, ℤ, pos, negsuc, ◌+◌, ◌-◌, ◌*◌, Bool, ◌&&◌, ◌||◌, ◌==◌, nat_le, if◌then◌else◌, ◌⊎◌, List, [], ◌∷◌, ◌++◌, slice_index, flat_map, codes, Option, Some, None, IsTrue}
use Rattle.std.specs.List.{AllByRecursion}
use Rattle.std.specs.Str.{IsUtf8}
use Rattle.std.specs.Str.Parse.{IsNumeral, digits_value}
use Rattle.std.specs.Char.{encode_utf8}
use Rattle.hex.specs.Hex.{hex_digit_value}
use Rattle.ga_ports.specs.Steps.{◌>>=◌}
use Rattle.ga_text.specs.Lines.{Text}
use Rattle.ga_json.specs.Values.{JsonValue, null, boolean, number, string, array, object, JsonItems, no_items, item, JsonMembers, no_members, member}

-- ---- section 2: white space, and structural characters between white space

abbrev pub is_json_space : ℕ → Bool
is_json_space b = b == 32 || (b == 9 || (b == 10 || b == 13))

abbrev pub IsJsonSpace : Text → Type 0
IsJsonSpace text = AllByRecursion (λ b. IsTrue (is_json_space b)) text

abbrev pub IsJsonStructuralCharacter : ℕ → Text → Type 0
IsJsonStructuralCharacter mark text = (before after : Text) × IsJsonSpace before × IsJsonSpace after × (text ≡ before ++ mark ∷ after)

-- ---- section 6: numbers

-- `0`, or digits of which the first is not `0`
abbrev pub IsJsonInt : Text → ℕ → Type 0
IsJsonInt text n = IsNumeral 10 text × (digits_value 10 text ≡ n) × (slice_index text 0 ≡ 48 → text ≡ 48 ∷ [])

abbrev pub negated_integer : ℕ → ℤ
negated_integer zero = pos zero
negated_integer (suc n) = negsuc n

-- an int, or a minus and an int
abbrev pub IsJsonNumber : Text → ℤ → Type 0
IsJsonNumber text z =
    ((n : ℕ) × IsJsonInt text n × (z ≡ pos n))
    ⊎ ((digits : Text) × (n : ℕ) × (text ≡ 45 ∷ digits) × IsJsonInt digits n × (z ≡ negated_integer n))

-- ---- section 7: strings

-- a byte of a character that is not escaped: neither a control character nor a quotation mark nor a reverse solidus
abbrev pub is_unescaped_byte : ℕ → Bool
is_unescaped_byte b = (nat_le 32 b && nat_le b 33) || ((nat_le 35 b && nat_le b 91) || nat_le 93 b)

-- the character that a letter denotes after a reverse solidus: `"` `\` `/` `b` `f` `n` `r` `t`
abbrev pub escape_letter_code : ℕ → Option ℕ
escape_letter_code b =
    if b == 34 then Some 34
    else if b == 92 then Some 92
    else if b == 47 then Some 47
    else if b == 98 then Some 8
    else if b == 102 then Some 12
    else if b == 110 then Some 10
    else if b == 114 then Some 13
    else if b == 116 then Some 9
    else None

-- the number of exactly four hexadecimal digits, in either case
abbrev pub hex_escape_code : Text → Option ℕ
hex_escape_code (a ∷ b ∷ c ∷ d ∷ []) = do
  first ← hex_digit_value a
  second ← hex_digit_value b
  third ← hex_digit_value c
  last ← hex_digit_value d
  Some (((first * 16 + second) * 16 + third) * 16 + last)
hex_escape_code _ = None

-- the first and the second half of a character above 65535, as UTF-16 has them
abbrev pub is_high_surrogate : ℕ → Bool
is_high_surrogate code = nat_le 55296 code && nat_le code 56319

abbrev pub is_low_surrogate : ℕ → Bool
is_low_surrogate code = nat_le 56320 code && nat_le code 57343

abbrev pub surrogate_pair_code : ℕ → ℕ → ℕ
surrogate_pair_code high low = 65536 + (high - 55296) * 1024 + (low - 56320)

-- A character of a string: a byte of one that is not escaped, a letter or four digits after a reverse solidus, or two halves of one.
pub data JsonChar : Type 0 where
  unescaped : ℕ → JsonChar
  letter : ℕ → JsonChar
  unicode_escape : Text → JsonChar
  surrogate_pair : Text → Text → JsonChar

abbrev pub json_char_text : JsonChar → Text
json_char_text (unescaped b) = b ∷ []
json_char_text (letter b) = 92 ∷ b ∷ []
json_char_text (unicode_escape digits) = 92 ∷ 117 ∷ digits
json_char_text (surrogate_pair high low) = 92 ∷ 117 ∷ (high ++ 92 ∷ 117 ∷ low)

-- the bytes that a character denotes; half a character alone denotes none (section 8.2)
abbrev pub code_point_bytes : ℕ → Option Text
code_point_bytes code = if is_high_surrogate code || is_low_surrogate code then None else Some (encode_utf8 code)

abbrev pub surrogate_pair_bytes : ℕ → ℕ → Option Text
surrogate_pair_bytes high low = if is_high_surrogate high && is_low_surrogate low then Some (encode_utf8 (surrogate_pair_code high low)) else None

abbrev pub decoded_json_char : JsonChar → Option Text
decoded_json_char (unescaped b) = if is_unescaped_byte b then Some (b ∷ []) else None
decoded_json_char (letter b) = do
  code ← escape_letter_code b
  Some (code ∷ [])
decoded_json_char (unicode_escape digits) = do
  code ← hex_escape_code digits
  code_point_bytes code
decoded_json_char (surrogate_pair high low) = do
  first ← hex_escape_code high
  second ← hex_escape_code low
  surrogate_pair_bytes first second

abbrev pub decoded_json_chars : List JsonChar → Option Text
decoded_json_chars [] = Some []
decoded_json_chars (char ∷ chars) = do
  first ← decoded_json_char char
  more ← decoded_json_chars chars
  Some (first ++ more)

-- a text between quotation marks, that denotes these bytes
abbrev pub IsJsonString : Text → Text → Type 0
IsJsonString text bytes = (chars : List JsonChar) × (text ≡ 34 ∷ (flat_map json_char_text chars ++ 34 ∷ [])) × (decoded_json_chars chars ≡ Some bytes)

-- ---- sections 3 to 5: values, objects, arrays

abbrev mutual
  pub IsJsonValue : Text → JsonValue → Type 0
  IsJsonValue text null = text ≡ codes "null"
  IsJsonValue text (boolean b) = text ≡ (if b then codes "true" else codes "false")
  IsJsonValue text (number z) = IsJsonNumber text z
  IsJsonValue text (string bytes) = IsJsonString text bytes
  IsJsonValue text (array items) =
      (begin values end : Text) × IsJsonStructuralCharacter 91 begin × IsArrayItems values items × IsJsonStructuralCharacter 93 end × (text ≡ begin ++ (values ++ end))
  IsJsonValue text (object members) =
      (begin values end : Text) × IsJsonStructuralCharacter 123 begin × IsObjectMembers values members × IsJsonStructuralCharacter 125 end × (text ≡ begin ++ (values ++ end))

  -- nothing, or values with a comma between two
  pub IsArrayItems : Text → JsonItems → Type 0
  IsArrayItems text no_items = text ≡ []
  IsArrayItems text (item value items) = (first more : Text) × IsJsonValue first value × IsMoreArrayItems more items × (text ≡ first ++ more)

  pub IsMoreArrayItems : Text → JsonItems → Type 0
  IsMoreArrayItems text no_items = text ≡ []
  IsMoreArrayItems text (item value items) =
      (comma first more : Text) × IsJsonStructuralCharacter 44 comma × IsJsonValue first value × IsMoreArrayItems more items × (text ≡ comma ++ (first ++ more))

  -- a name, a colon and a value
  pub IsObjectMembers : Text → JsonMembers → Type 0
  IsObjectMembers text no_members = text ≡ []
  IsObjectMembers text (member name value members) =
      (quoted_text colon first more : Text) × IsJsonString quoted_text name × IsJsonStructuralCharacter 58 colon × IsJsonValue first value × IsMoreObjectMembers more members
      × (text ≡ quoted_text ++ (colon ++ (first ++ more)))

  pub IsMoreObjectMembers : Text → JsonMembers → Type 0
  IsMoreObjectMembers text no_members = text ≡ []
  IsMoreObjectMembers text (member name value members) =
      (comma quoted_text colon first more : Text) × IsJsonStructuralCharacter 44 comma × IsJsonString quoted_text name × IsJsonStructuralCharacter 58 colon × IsJsonValue first value
      × IsMoreObjectMembers more members × (text ≡ comma ++ (quoted_text ++ (colon ++ (first ++ more))))

-- ---- sections 2 and 8.1: a value between white space, in UTF-8

pub record IsJsonText (text : Text) (value : JsonValue) : Type 0 where
  pub before : Text
  pub inner : Text
  pub after : Text
  pub parts : text ≡ before ++ (inner ++ after)
  pub space_before : IsJsonSpace before
  pub space_after : IsJsonSpace after
  pub is_value : IsJsonValue inner value
  pub is_utf8 : IsUtf8 text
