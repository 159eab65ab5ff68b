-- The rows of tables of words.
use Rattle.std.specs.Prelude.{ℕ, nat_le, Bool, List, length}
use Rattle.ga_parser.specs.declared.hint_words.ForeignWord.{ForeignWord}
use Rattle.ga_parser.specs.declared.hint_words.KnownWord.{KnownWord}

abbrev pub row_of : ForeignWord → List ℕ × List ℕ
row_of row = (row.word.now, row.here.now)

abbrev pub name_of_known_word : KnownWord → List ℕ
name_of_known_word known = known.name.now

-- what a hint has beside a part of the word is of 64 bytes at most
abbrev pub has_short_hint : ForeignWord → Bool
has_short_hint row = nat_le (length row.here.now) 64

abbrev pub is_short_name : KnownWord → Bool
is_short_name known = nat_le (length known.name.now) 64
