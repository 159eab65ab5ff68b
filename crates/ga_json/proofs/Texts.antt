-- The text of fields, rows and answers, part by part.
use Rattle.std.proofs.Common.{◌≡◌, ◌≢◌, ℕ, zero, suc, ◌≤◌, ◌<◌, List, [], ◌∷◌, ◌++◌, Bool, true, false, codes, ap, ◌∙◌, refl, append_assoc, arith}
use Rattle.std.specs.Prelude.{map, ◌==◌, nat_le}
use Rattle.std.proofs.lemmas.List.{append-nil}
use Rattle.std.proofs.lemmas.Bool.{and_parts}
use Rattle.std.proofs.lemmas.Bool.Decides.{nat_tests}
use Rattle.ga_text.specs.Lines.{Text}
use Rattle.ga_json.specs.Values.{JsonItems, no_items, item, array, JsonMembers, no_members, member}
use Rattle.ga_json.specs.Names.{is_field_name, is_field_name_byte, are_field_name_bytes}
use Rattle.ga_json.specs.Compact.{escaped_byte_text, escaped_text, quoted_text, optional_comma, compact_json_text, array_items_text, object_members_text, json_line}
use Rattle.ga_json.specs.FieldValues.{field_value_json}
use Rattle.ga_json.specs.Fields.{named_field_value, members_with_named_values, row_json, report_json}
use Rattle.ga_json.specs.inner.{json_fields_text, text_before_rows, text_before_row}
use Rattle.ga_json.specs.declared.field.Field.{Field}

-- ---- a name needs no escape

pub escape_plain : (b : ℕ) → 32 ≤ b → b ≢ 34 → b ≢ 92 → escaped_byte_text b ≡ b ∷ []
escape_plain b low not_quote not_solidus =
    let e : b == 34 ≡ false = grind (arith, nat_tests) in
    let f : b == 92 ≡ false = grind (arith, nat_tests) in
    let g : nat_le 32 b ≡ true = grind (arith, nat_tests) in
    rw (e, f, g) refl

pub name_byte : (b : ℕ) → is_field_name_byte b ≡ true → (32 ≤ b) × (b < 128) × (b ≢ 34) × (b ≢ 92)
name_byte b is = (grind (arith, nat_tests), grind (arith, nat_tests), grind (arith, nat_tests), grind (arith, nat_tests))

escaped_name : (name : Text) → are_field_name_bytes name ≡ true → escaped_text name ≡ name
escaped_name [] is = refl
escaped_name (b ∷ bs) is =
    let parts = and_parts (is_field_name_byte b) (are_field_name_bytes bs) is in
    let (low, high, not_quote, not_solidus) = name_byte b parts.0 in
    ap (λ (z : Text). z ++ escaped_text bs) (escape_plain b low not_quote not_solidus) ∙ ap (λ (z : Text). b ∷ z) (escaped_name bs parts.1)

-- a field, after its name
pub field_splits : (later : Bool) (name value : Text) → is_field_name name ≡ true
    → optional_comma later ++ (quoted_text name ++ 58 ∷ value) ≡ (optional_comma later ++ (34 ∷ (name ++ 34 ∷ 58 ∷ []))) ++ value
field_splits later name value is =
    ap (λ (z : Text). optional_comma later ++ ((34 ∷ (z ++ 34 ∷ [])) ++ 58 ∷ value)) (escaped_name name (and_parts (nat_le _ 24) (are_field_name_bytes name) is).1)
    ∙ simp append_assoc

-- ---- fields and what comes after them

ends_later : Bool → List Field → Bool
ends_later later [] = later
ends_later later (field ∷ fields) = true

ends_true : (fields : List Field) → ends_later true fields ≡ true
unfolding ends_later
ends_true [] = refl
ends_true (field ∷ fields) = refl

members_fields : (later : Bool) (fields : List Field) (more : JsonMembers)
    → object_members_text later (members_with_named_values (map named_field_value fields) more) ≡ json_fields_text later fields ++ object_members_text (ends_later later fields) more
unfolding ends_later
members_fields later [] more = refl
members_fields later (field ∷ fields) more =
    ap (λ (z : Text). optional_comma later ++ (quoted_text field.name.now ++ 58 ∷ (compact_json_text (field_value_json field.value) ++ z)))
    (members_fields true fields more ∙ ap (λ (b : Bool). json_fields_text true fields ++ object_members_text b more) (ends_true fields))
    ∙ simp append_assoc

members_all : (fields : List Field) → object_members_text false (members_with_named_values (map named_field_value fields) no_members) ≡ json_fields_text false fields
members_all fields = members_fields false fields no_members ∙ append-nil (json_fields_text false fields)

pub object_splits : (fields : List Field) → json_line (row_json fields) ≡ codes "{" ++ (json_fields_text false fields ++ codes "}\n")
object_splits fields = ap (λ (z : Text). (123 ∷ (z ++ 125 ∷ [])) ++ 10 ∷ []) (members_all fields) ∙ simp append_assoc

-- ---- the rows of an answer

rows_member : Bool → Text
rows_member later = optional_comma later ++ codes "\"rows\":["

lead_is : (head : List Field) → rows_member (ends_later false head) ≡ text_before_rows head
unfolding ends_later rows_member
lead_is [] = refl
lead_is (field ∷ fields) = refl

rows_text : (later : Bool) (rows : JsonItems) → object_members_text later (member (codes "rows") (array rows) no_members) ≡ rows_member later ++ (array_items_text false rows ++ codes "]")
unfolding rows_member
rows_text later rows = simp (append_assoc, append-nil)

pub report_splits : (head : List Field) (rows : JsonItems)
    → json_line (report_json head rows) ≡ (codes "{" ++ (json_fields_text false head ++ text_before_rows head)) ++ (array_items_text false rows ++ codes "]}\n")
report_splits head rows =
    ap (λ (z : Text). (123 ∷ (z ++ 125 ∷ [])) ++ 10 ∷ [])
    (members_fields false head (member (codes "rows") (array rows) no_members) ∙ ap (λ (z : Text). json_fields_text false head ++ z)
    (rows_text (ends_later false head) rows ∙ ap (λ (z : Text). z ++ (array_items_text false rows ++ codes "]")) (lead_is head)))
    ∙ simp append_assoc

row_splits : (later : Bool) (fields : List Field) → optional_comma later ++ compact_json_text (row_json fields) ≡ text_before_row later ++ (json_fields_text false fields ++ codes "}")
row_splits true fields = ap (λ (z : Text). 44 ∷ 123 ∷ (z ++ 125 ∷ [])) (members_all fields)
row_splits false fields = ap (λ (z : Text). 123 ∷ (z ++ 125 ∷ [])) (members_all fields)

regroup : (a b c d : Text) → (a ++ (b ++ c)) ++ d ≡ (a ++ b) ++ (c ++ d)
regroup a b c d = simp append_assoc

pub next_row : (later : Bool) (fields : List Field) (rows : JsonItems) (end : Text)
    → array_items_text later (item (row_json fields) rows) ++ end ≡ (text_before_row later ++ (json_fields_text false fields ++ codes "}")) ++ (array_items_text true rows ++ end)
next_row later fields rows end =
    regroup (optional_comma later) (compact_json_text (row_json fields)) (array_items_text true rows) end
    ∙ ap (λ (z : Text). z ++ (array_items_text true rows ++ end)) (row_splits later fields)

-- how many rows
abbrev pub count_items : JsonItems → ℕ
count_items no_items = zero
count_items (item value items) = suc (count_items items)
