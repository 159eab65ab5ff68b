-- The values of JSON (RFC 8259, section 1), with integers as the only numbers.
use Rattle.std.specs.Prelude.{ℤ, Bool}
use Rattle.ga_text.specs.Lines.{Text}

mutual
  -- a string is the bytes of its characters in UTF-8
  pub data JsonValue : Type 0 where
    null : JsonValue
    boolean : Bool → JsonValue
    number : ℤ → JsonValue
    string : Text → JsonValue
    array : JsonItems → JsonValue
    object : JsonMembers → JsonValue

  pub data JsonItems : Type 0 where
    no_items : JsonItems
    item : JsonValue → JsonItems → JsonItems

  -- names with their values, in the order of the text
  pub data JsonMembers : Type 0 where
    no_members : JsonMembers
    member : Text → JsonValue → JsonMembers → JsonMembers
