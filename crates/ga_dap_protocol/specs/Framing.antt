-- How messages are framed: the Debug Adapter Protocol's "Base protocol". A header part, whose one field `Content-Length` has
-- the number of bytes of the content part, and the content part.
use Rattle.std.specs.Prelude.{◌≡◌, ◌≤◌, ◌<◌, ◌+◌, ◌*◌, ◌-◌, ◌++◌, ℕ, List, [], ◌∷◌, length, take, drop, min, codes, decimal}
use Rattle.std.specs.List.{All}
use Rattle.ga_dap_protocol.specs.declared.broken.FrameError.{FrameError}
use Rattle.ga_dap_protocol.specs.declared.broken.FrameError.TheVariants.{WrongHeaderField, NoDigit, TooLong, TooManyDigits, MissingHeaderEnd, CutShort}
use Rattle.ga_dap_protocol.specs.declared.framing.FramePrefix.{FramePrefix}
use Rattle.ga_dap_protocol.specs.declared.framing.FramePrefix.TheVariants.{Message, PartialMessage, NoMessage}

-- the most bytes of a content part
abbrev pub content_limit : ℕ
content_limit = 131072

-- the most digits that the length of a content part is written with
abbrev pub content_length_digit_limit : ℕ
content_length_digit_limit = 7

-- the field's name, and the separator before its value
abbrev pub content_length_field : List ℕ
content_length_field = codes "Content-Length: "

-- the end of the field, and that of the header part
abbrev pub header_terminator : List ℕ
header_terminator = codes "\r\n\r\n"

-- a header part whose field has this value
abbrev pub header_part : List ℕ → List ℕ
header_part digits = content_length_field ++ digits ++ header_terminator

abbrev pub IsDigit : ℕ → Type 0
IsDigit byte = (48 ≤ byte) × (byte ≤ 57)

-- the number of digits that follow those of a number
abbrev pub decimal_value_of_digits : ℕ → List ℕ → ℕ
decimal_value_of_digits n [] = n
decimal_value_of_digits n (byte ∷ rest) = decimal_value_of_digits (10 * n + (byte - 48)) rest

-- whether the digits are those of the length of a content part
abbrev pub IsContentLength : List ℕ → ℕ → Type 0
IsContentLength digits n = (1 ≤ length digits) × (length digits ≤ content_length_digit_limit) × All IsDigit digits × (decimal_value_of_digits 0 digits ≡ n) × (n ≤ content_limit)

-- a text is the message with this content part
abbrev pub IsMessage : List ℕ → List ℕ → Type 0
IsMessage content text = (digits : List ℕ) × IsContentLength digits (length content) × (text ≡ header_part digits ++ content)

-- the message with a content part, as it is written
unfoldable pub framed_message : List ℕ → List ℕ
framed_message content = header_part (decimal (length content)) ++ content

-- bytes are the beginning of a message: more of them make it whole
abbrev pub IsMessagePrefix : List ℕ → Type 0
IsMessagePrefix bytes = (content more : List ℕ) × (1 ≤ length more) × IsMessage content (bytes ++ more)

-- whether no message is first, whatever follows these bytes
abbrev pub CanBeginNoMessage : List ℕ → Type 0
CanBeginNoMessage bytes = (content text more after : List ℕ) → IsMessage content text → bytes ++ more ≡ text ++ after → ⊥

-- one of two texts is the beginning of the other
abbrev pub IsOnePrefixOfOther : List ℕ → List ℕ → Type 0
IsOnePrefixOfOther xs ys = take (min (length xs) (length ys)) xs ≡ take (min (length xs) (length ys)) ys

-- whether bytes are the field's name, digits, and the rest after them
abbrev pub HasHeaderDigits : List ℕ → List ℕ → List ℕ → Type 0
HasHeaderDigits bytes digits rest = (bytes ≡ content_length_field ++ digits ++ rest) × All IsDigit digits

-- why the bytes begin with no message
abbrev pub IsFrameErrorOf : FrameError → List ℕ → Type 0
IsFrameErrorOf WrongHeaderField bytes = IsOnePrefixOfOther bytes content_length_field → ⊥
IsFrameErrorOf NoDigit bytes = (byte : ℕ) × (rest : List ℕ) × HasHeaderDigits bytes [] (byte ∷ rest) × (IsDigit byte → ⊥)
IsFrameErrorOf TooLong bytes = (digits rest : List ℕ) × HasHeaderDigits bytes digits rest × (length digits ≤ content_length_digit_limit + 1) × (content_limit < decimal_value_of_digits 0 digits)
IsFrameErrorOf TooManyDigits bytes = (digits rest : List ℕ) × HasHeaderDigits bytes digits rest × (length digits ≡ content_length_digit_limit + 1) × (decimal_value_of_digits 0 digits ≤ content_limit)
IsFrameErrorOf MissingHeaderEnd bytes = (digits : List ℕ) × (byte : ℕ) × (rest : List ℕ) × HasHeaderDigits bytes digits (byte ∷ rest) × IsContentLength digits (decimal_value_of_digits 0 digits) × (IsDigit byte → ⊥) × (IsOnePrefixOfOther (byte ∷ rest) header_terminator → ⊥)
IsFrameErrorOf CutShort bytes = ⊥

-- the front of some bytes: a message, up to its end, with its content part from a place on; the beginning of one; or neither
abbrev pub IsFramePrefix : List ℕ → FramePrefix → Type 0
IsFramePrefix bytes (Message start end) = (start ≤ end) × (end ≤ length bytes) × IsMessage (drop start (take end bytes)) (take end bytes)
IsFramePrefix bytes PartialMessage = IsMessagePrefix bytes
IsFramePrefix bytes (NoMessage why) = CanBeginNoMessage bytes × IsFrameErrorOf why bytes
