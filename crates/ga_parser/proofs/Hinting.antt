-- Words that are looked for row by row.
use Rattle.std.proofs.Common.{◌≡◌, ◌∙◌, ℕ, ◌+◌, ◌<◌, ◌≤◌, inl, inr, List, [], ◌++◌, length, drop, get_or, Bool, true, false, if◌then◌else◌, Some, sym, ap}
use Rattle.std.specs.Prelude.{map, bytes_eq}
use Rattle.std.proofs.lemmas.List.{drop_more, append-nil}
use Rattle.ga_parser.specs.Vocabulary.{find_in_table}
use Rattle.ga_parser.specs.Hints.{first_probable_name, is_probable_misspelling}
use Rattle.ga_parser.specs.inner.Hinting.{row_of, name_of_known_word, has_short_hint, is_short_name}
use Rattle.std.specs.List.{list_all}
use Rattle.std.proofs.lemmas.List.Folds.{list_all_at}
use Rattle.std.proofs.lemmas.Bool.{cases_Bool, leb-true, true≢false}
use Rattle.ga_parser.specs.declared.hint_words.ForeignWord.{ForeignWord}
use Rattle.ga_parser.specs.declared.hint_words.KnownWord.{KnownWord}

pub text_alone : (text : List ℕ) → text ++ ([] ++ []) ≡ text
text_alone text = append-nil text

pub short_row : (rows : List ForeignWord) (i : ℕ) (d : ForeignWord) → i < length rows → list_all has_short_hint rows ≡ true → length (get_or rows i d).here.now ≤ 64
short_row rows i d within all = elim (cases_Bool (has_short_hint (get_or rows i d))) [
  | inl is ↦ leb-true (length (get_or rows i d).here.now) 64 is
  | inr isnt ↦ absurd (true≢false (sym all ∙ list_all_at has_short_hint rows i d within isnt))
]

pub short_name : (names : List KnownWord) (i : ℕ) (d : KnownWord) → i < length names → list_all is_short_name names ≡ true → length (get_or names i d).name.now ≤ 64
short_name names i d within all = elim (cases_Bool (is_short_name (get_or names i d))) [
  | inl is ↦ leb-true (length (get_or names i d).name.now) 64 is
  | inr isnt ↦ absurd (true≢false (sym all ∙ list_all_at is_short_name names i d within isnt))
]

row : (word : List ℕ) (rows : List ForeignWord) (i : ℕ) (d : ForeignWord) → i < length rows → (b : Bool) → b ≡ bytes_eq word (get_or rows i d).word.now
    → find_in_table (map row_of (drop i rows)) word ≡ (if b then Some (get_or rows i d).here.now else find_in_table (map row_of (drop (i + 1) rows)) word)
row word rows i d within b e =
    ap (λ z. find_in_table (map row_of z) word) (drop_more rows i d within)
    ∙ ap (λ (z : Bool). if z then Some (get_or rows i d).here.now else find_in_table (map row_of (drop (i + 1) rows)) word) (sym e)

pub row_here : (word : List ℕ) (rows : List ForeignWord) (i : ℕ) (d : ForeignWord) → i < length rows → (b : Bool) → b ≡ true → b ≡ bytes_eq word (get_or rows i d).word.now
    → Some (get_or rows i d).here.now ≡ find_in_table (map row_of (drop i rows)) word
row_here word rows i d within b is e =
    sym (row word rows i d within b e ∙ ap (λ (z : Bool). if z then Some (get_or rows i d).here.now else find_in_table (map row_of (drop (i + 1) rows)) word) is)

pub row_behind : (word : List ℕ) (rows : List ForeignWord) (i : ℕ) (d : ForeignWord) → i < length rows → (b : Bool) → b ≡ false → b ≡ bytes_eq word (get_or rows i d).word.now
    → find_in_table (map row_of (drop (i + 1) rows)) word ≡ find_in_table (map row_of (drop i rows)) word
row_behind word rows i d within b is e =
    sym (row word rows i d within b e ∙ ap (λ (z : Bool). if z then Some (get_or rows i d).here.now else find_in_table (map row_of (drop (i + 1) rows)) word) is)

meant : (word : List ℕ) (names : List KnownWord) (i : ℕ) (d : KnownWord) → i < length names → (b : Bool) → b ≡ is_probable_misspelling word (get_or names i d).name.now
    → first_probable_name word (map name_of_known_word (drop i names)) ≡ (if b then Some (get_or names i d).name.now else first_probable_name word (map name_of_known_word (drop (i + 1) names)))
unfolding first_probable_name
meant word names i d within b e =
    ap (λ z. first_probable_name word (map name_of_known_word z)) (drop_more names i d within)
    ∙ ap (λ (z : Bool). if z then Some (get_or names i d).name.now else first_probable_name word (map name_of_known_word (drop (i + 1) names))) (sym e)

pub meant_here : (word : List ℕ) (names : List KnownWord) (i : ℕ) (d : KnownWord) → i < length names → (b : Bool) → b ≡ true → b ≡ is_probable_misspelling word (get_or names i d).name.now
    → Some (get_or names i d).name.now ≡ first_probable_name word (map name_of_known_word (drop i names))
meant_here word names i d within b is e =
    sym (meant word names i d within b e ∙ ap (λ (z : Bool). if z then Some (get_or names i d).name.now else first_probable_name word (map name_of_known_word (drop (i + 1) names))) is)

pub meant_behind : (word : List ℕ) (names : List KnownWord) (i : ℕ) (d : KnownWord) → i < length names → (b : Bool) → b ≡ false → b ≡ is_probable_misspelling word (get_or names i d).name.now
    → first_probable_name word (map name_of_known_word (drop (i + 1) names)) ≡ first_probable_name word (map name_of_known_word (drop i names))
meant_behind word names i d within b is e =
    sym (meant word names i d within b e ∙ ap (λ (z : Bool). if z then Some (get_or names i d).name.now else first_probable_name word (map name_of_known_word (drop (i + 1) names))) is)
