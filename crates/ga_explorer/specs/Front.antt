-- An image or source in a file that is read before standard input (docs/REFERENCE.md, "Files"; this project's own).
use Rattle.std.specs.Prelude.{ℕ, nat_eq, Bool, true, false, not, ◌==◌, ◌&&◌, ◌||◌, if◌then◌else◌, [], ◌∷◌, ◌++◌, length, codes}
use Rattle.std.specs.Cmp.Lexicographic.{pointwise}
use Rattle.std.specs.List.{starts_with, ends_with}
use Rattle.ga_text.specs.Lines.{Text}
use Rattle.ga_explorer.specs.Opening.{begins_as_image}

-- a line `end` with its line feed follows another line
unfoldable pub has_end_line : Text → Bool
has_end_line [] = false
has_end_line (b ∷ text) = if starts_with nat_eq (b ∷ text) (codes "\nend\n") then true else has_end_line text

-- the text has a line `end` with its line feed
abbrev pub contains_end_line : Text → Bool
contains_end_line text = starts_with nat_eq text (codes "end\n") || has_end_line text

-- the text ends in a line `end` without its line feed
abbrev pub ends_with_bare_end_line : Text → Bool
ends_with_bare_end_line text = pointwise nat_eq text (codes "end") || ends_with nat_eq text (codes "\nend")

-- the text is an image that has no line `end`
abbrev pub is_image_lacking_end_line : Text → Bool
is_image_lacking_end_line text = begins_as_image text && (not (contains_end_line text) && not (ends_with_bare_end_line text))

-- the last line, if there is one, has its line feed
abbrev pub has_whole_lines : Text → Bool
has_whole_lines text = (length text == 0) || ends_with nat_eq text (codes "\n")

-- what a text needs so that commands can follow it: a line `end`, if it has none, and the line feed of its last line
abbrev pub end_line_completion : Text → Text
end_line_completion text =
    if contains_end_line text || ends_with_bare_end_line text then (if has_whole_lines text then [] else codes "\n")
    else if has_whole_lines text then codes "end\n"
    else codes "\nend\n"

-- the text with what it needs so that commands can follow it
abbrev pub text_with_end_line : Text → Text
text_with_end_line text = text ++ end_line_completion text
