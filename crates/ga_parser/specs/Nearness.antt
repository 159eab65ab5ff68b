-- Words that are nearly the same (this project's own).
use Rattle.std.specs.Prelude.{nat_eq, nat_le, Bool, false, ◌==◌, ◌&&◌, ◌||◌, if◌then◌else◌, [], ◌∷◌, length}
use Rattle.std.specs.Cmp.Lexicographic.{pointwise}
use Rattle.ga_text.specs.Lines.{Text}

-- the first two letters are exchanged, and the others the same
unfoldable pub are_first_letters_exchanged : Text → Text → Bool
are_first_letters_exchanged (first ∷ second ∷ rest) (other ∷ letter ∷ more) = (first == letter) && (second == other) && pointwise nat_eq rest more
are_first_letters_exchanged _ _ = false

-- The word is the name but for one letter, which is missing, too much or another; or but for two that stand together and are
-- exchanged. So their distance is one at most, where it counts insertions, deletions, substitutions and transpositions of
-- neighbours (Damerau 1964).
unfoldable pub is_within_one_edit : Text → Text → Bool
is_within_one_edit [] name = nat_le (length name) 1
is_within_one_edit (first ∷ rest) [] = length rest == 0
is_within_one_edit (first ∷ rest) (letter ∷ more) =
    if first == letter then is_within_one_edit rest more
    else pointwise nat_eq rest more || (pointwise nat_eq rest (letter ∷ more) || (pointwise nat_eq (first ∷ rest) more || are_first_letters_exchanged (first ∷ rest) (letter ∷ more)))
