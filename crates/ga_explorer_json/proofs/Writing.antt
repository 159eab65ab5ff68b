-- An answer that is written by its fields.
use Rattle.std.proofs.Common.{◌≡◌, List, Bool, true, false, ap, sym, ◌∙◌, refl, Option, Some, None, Result}
use Rattle.std.specs.Prelude.{map, if◌then◌else◌, option_map}
use Rattle.arrayvec.specs.ArrayVec.{ArrayVec}
use Rattle.ga_text.specs.Lines.{Bytes}
use Rattle.ga_text.specs.Output.{WritesExactly, WritesSomeText}
use Rattle.ga_text.specs.declared.output.WriteError.{WriteError}
use Rattle.ga_text.specs.declared.output.Writer.{Writer}
use Rattle.ga_json.specs.Values.{JsonValue, JsonItems}
use Rattle.ga_json.specs.Compact.{json_line}
use Rattle.ga_json.specs.Fields.{NamedValue, named_field_value, row_json, report_json, json_report}
use Rattle.ga_json.specs.declared.field.Field.{Field}
use Rattle.ga_json.specs.inner.{rows_from_first_row}
use Rattle.ga_explorer_json.specs.Rows.{IsJsonLine, rows_if_first_present}
use Rattle.ga_json.proofs.Says.{says_as}

pub object_as : {T W : Type 0} (contents : W → Option Bytes) (result : Result T WriteError) (old new : Writer W) (fields : List Field) (value : JsonValue) → row_json fields ≡ value
    → WritesExactly result (json_line (row_json fields)) contents old new → WritesExactly result (json_line value) contents old new
object_as contents result old new fields value e h = says_as contents result old new (json_line (row_json fields)) (json_line value) (ap json_line e) h

pub report_as : {T W : Type 0} (contents : W → Option Bytes) (result : Result T WriteError) (old new : Writer W) (head : List Field) (named : List NamedValue) (rows others : JsonItems)
    → map named_field_value head ≡ named → rows ≡ others
    → WritesExactly result (json_line (report_json head rows)) contents old new → WritesExactly result (json_line (json_report named others)) contents old new
report_as contents result old new head named rows others e f h =
    says_as contents result old new (json_line (report_json head rows)) (json_line (json_report named others))
    (ap (λ z. json_line (json_report z rows)) e ∙ ap (λ z. json_line (json_report named z)) f) h

-- an answer by a test
pub answer_as : {T W : Type 0} (contents : W → Option Bytes) (result : Result T WriteError) (old new : Writer W) (value other : JsonValue) → value ≡ other
    → WritesExactly result (json_line value) contents old new → WritesExactly result (json_line other) contents old new
answer_as contents result old new value other e h = says_as contents result old new (json_line value) (json_line other) (ap json_line e) h

pub by_true : (test : Bool) (value other : JsonValue) → test ≡ true → value ≡ (if test then value else other)
by_true test value other e = ap (λ (b : Bool). if b then value else other) (sym e)

pub by_false : (test : Bool) (other value : JsonValue) → test ≡ false → value ≡ (if test then other else value)
by_false test other value e = ap (λ (b : Bool). if b then other else value) (sym e)

-- the line of a value of some kind
pub line_of : {T W : Type 0} (contents : W → Option Bytes) (result : Result T WriteError) (old new : Writer W) (IsAnswer : JsonValue → Type 0) (value : JsonValue) → IsAnswer value
    → WritesExactly result (json_line value) contents old new → WritesSomeText result (IsJsonLine IsAnswer) contents old new
line_of contents result old new IsAnswer value is h = (h.0, λ before said s. (json_line value, (value, is, refl), h.1 before said s))

-- rows by a test
pub items_by_true : (test : Bool) (rows other : JsonItems) → test ≡ true → rows ≡ (if test then rows else other)
items_by_true test rows other e = ap (λ (b : Bool). if b then rows else other) (sym e)

pub items_by_false : (test : Bool) (other rows : JsonItems) → test ≡ false → rows ≡ (if test then other else rows)
items_by_false test other rows e = ap (λ (b : Bool). if b then other else rows) (sym e)

-- a row that is taken
pub row_from : (taken : Option (ArrayVec Field)) (row : Option JsonValue) (rest : JsonItems) → option_map (λ (fields : ArrayVec Field). row_json fields.items) taken ≡ row
    → rows_if_first_present row rest ≡ rows_from_first_row (option_map (λ (fields : ArrayVec Field). fields.items) taken) rest
row_from (Some fields) row rest e = ap (λ z. rows_if_first_present z rest) (sym e)
row_from None row rest e = ap (λ z. rows_if_first_present z rest) (sym e)

-- the line of a value of another kind
pub line_as : {T W : Type 0} (contents : W → Option Bytes) (result : Result T WriteError) (old new : Writer W) (IsAnswer IsOther : JsonValue → Type 0)
    → ((answer : JsonValue) → IsAnswer answer → IsOther answer) → WritesSomeText result (IsJsonLine IsAnswer) contents old new → WritesSomeText result (IsJsonLine IsOther) contents old new
line_as contents result old new IsAnswer IsOther f h = (
  h.0,
  λ before said written.
      let done = h.1 before said written in (done.0, (done.1.0, f done.1.0 done.1.1, done.1.2), done.2),
)
