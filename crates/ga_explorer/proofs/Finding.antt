-- A command that is looked for row by row, and a letter byte by byte.
use Rattle.std.proofs.Common.{◌≡◌, ℕ, ◌+◌, ◌<◌, ◌≤◌, ◌++◌, [], ◌||◌, ◌&&◌, List, length, drop, get_or, Bool, true, false, nat_eq, nat_le, if◌then◌else◌, Some, sym, ap, ◌∙◌}
use Rattle.std.specs.Prelude.{map}
use Rattle.std.specs.Cmp.Lexicographic.{pointwise}
use Rattle.std.proofs.lemmas.List.{drop_more, drop_all}
use Rattle.ga_explorer.specs.Forms.{command_index_from_place, command_row_text, command_rows_text}
use Rattle.ga_explorer.specs.NoCommand.{command_usage_of_name, usage_of_similar_command, has_upper_case_letter}
use Rattle.ga_parser.specs.Nearness.{is_within_one_edit}
use Rattle.ga_explorer.specs.inner.{command_entry_of_row}
use Rattle.ga_explorer.specs.declared.forms.Row.{Row}

named : (word : List ℕ) (rows : List Row) (i : ℕ) (d : Row) → i < length rows → (b : Bool) → b ≡ pointwise nat_eq (get_or rows i d).name.now word
    → command_usage_of_name word (map command_entry_of_row (drop i rows)) ≡ (if b then Some (get_or rows i d).form.now else command_usage_of_name word (map command_entry_of_row (drop (i + 1) rows)))
unfolding command_usage_of_name
named word rows i d within b e =
    ap (λ z. command_usage_of_name word (map command_entry_of_row z)) (drop_more rows i d within)
    ∙ ap (λ (z : Bool). if z then Some (get_or rows i d).form.now else command_usage_of_name word (map command_entry_of_row (drop (i + 1) rows))) (sym e)

pub named_here : (word : List ℕ) (rows : List Row) (i : ℕ) (d : Row) → i < length rows → (b : Bool) → b ≡ true → b ≡ pointwise nat_eq (get_or rows i d).name.now word
    → Some (get_or rows i d).form.now ≡ command_usage_of_name word (map command_entry_of_row (drop i rows))
named_here word rows i d within b is e =
    sym (named word rows i d within b e ∙ ap (λ (z : Bool). if z then Some (get_or rows i d).form.now else command_usage_of_name word (map command_entry_of_row (drop (i + 1) rows))) is)

pub named_behind : (word : List ℕ) (rows : List Row) (i : ℕ) (d : Row) → i < length rows → (b : Bool) → b ≡ false → b ≡ pointwise nat_eq (get_or rows i d).name.now word
    → command_usage_of_name word (map command_entry_of_row (drop (i + 1) rows)) ≡ command_usage_of_name word (map command_entry_of_row (drop i rows))
named_behind word rows i d within b is e =
    sym (named word rows i d within b e ∙ ap (λ (z : Bool). if z then Some (get_or rows i d).form.now else command_usage_of_name word (map command_entry_of_row (drop (i + 1) rows))) is)

near : (word : List ℕ) (rows : List Row) (i : ℕ) (d : Row) → i < length rows → (b : Bool) → b ≡ is_within_one_edit word (get_or rows i d).name.now
    → usage_of_similar_command word (map command_entry_of_row (drop i rows)) ≡ (if b then Some (get_or rows i d).form.now else usage_of_similar_command word (map command_entry_of_row (drop (i + 1) rows)))
unfolding usage_of_similar_command
near word rows i d within b e =
    ap (λ z. usage_of_similar_command word (map command_entry_of_row z)) (drop_more rows i d within)
    ∙ ap (λ (z : Bool). if z then Some (get_or rows i d).form.now else usage_of_similar_command word (map command_entry_of_row (drop (i + 1) rows))) (sym e)

pub near_here : (word : List ℕ) (rows : List Row) (i : ℕ) (d : Row) → i < length rows → (b : Bool) → b ≡ true → b ≡ is_within_one_edit word (get_or rows i d).name.now
    → Some (get_or rows i d).form.now ≡ usage_of_similar_command word (map command_entry_of_row (drop i rows))
near_here word rows i d within b is e =
    sym (near word rows i d within b e ∙ ap (λ (z : Bool). if z then Some (get_or rows i d).form.now else usage_of_similar_command word (map command_entry_of_row (drop (i + 1) rows))) is)

pub near_behind : (word : List ℕ) (rows : List Row) (i : ℕ) (d : Row) → i < length rows → (b : Bool) → b ≡ false → b ≡ is_within_one_edit word (get_or rows i d).name.now
    → usage_of_similar_command word (map command_entry_of_row (drop (i + 1) rows)) ≡ usage_of_similar_command word (map command_entry_of_row (drop i rows))
near_behind word rows i d within b is e =
    sym (near word rows i d within b e ∙ ap (λ (z : Bool). if z then Some (get_or rows i d).form.now else usage_of_similar_command word (map command_entry_of_row (drop (i + 1) rows))) is)

pub upper_at : (word : List ℕ) (i d : ℕ) → i < length word → has_upper_case_letter (drop i word) ≡ ((nat_le 65 (get_or word i d) && nat_le (get_or word i d) 90) || has_upper_case_letter (drop (i + 1) word))
unfolding has_upper_case_letter
upper_at word i d within = ap has_upper_case_letter (drop_more word i d within)

pub next_row : (rows : List Row) (i : ℕ) (d : Row) → i < length rows
    → command_rows_text (map command_entry_of_row (drop i rows)) ≡ command_row_text (command_entry_of_row (get_or rows i d)) ++ command_rows_text (map command_entry_of_row (drop (i + 1) rows))
next_row rows i d within = ap (λ z. command_rows_text (map command_entry_of_row z)) (drop_more rows i d within)

pub no_row : (rows : List Row) (i : ℕ) → length rows ≤ i → command_rows_text (map command_entry_of_row (drop i rows)) ≡ []
no_row rows i past = ap (λ z. command_rows_text (map command_entry_of_row z)) (drop_all i rows past)

placed : (word : List ℕ) (rows : List Row) (i : ℕ) (d : Row) → i < length rows → (b : Bool) → b ≡ pointwise nat_eq (get_or rows i d).name.now word
    → command_index_from_place word i (map command_entry_of_row (drop i rows)) ≡ (if b then Some i else command_index_from_place word (i + 1) (map command_entry_of_row (drop (i + 1) rows)))
unfolding command_index_from_place
placed word rows i d within b e =
    ap (λ z. command_index_from_place word i (map command_entry_of_row z)) (drop_more rows i d within)
    ∙ ap (λ (z : Bool). if z then Some i else command_index_from_place word (i + 1) (map command_entry_of_row (drop (i + 1) rows))) (sym e)

pub place_here : (word : List ℕ) (rows : List Row) (i : ℕ) (d : Row) → i < length rows → (b : Bool) → b ≡ true → b ≡ pointwise nat_eq (get_or rows i d).name.now word
    → Some i ≡ command_index_from_place word i (map command_entry_of_row (drop i rows))
place_here word rows i d within b is e =
    sym (placed word rows i d within b e ∙ ap (λ (z : Bool). if z then Some i else command_index_from_place word (i + 1) (map command_entry_of_row (drop (i + 1) rows))) is)

pub place_behind : (word : List ℕ) (rows : List Row) (i : ℕ) (d : Row) → i < length rows → (b : Bool) → b ≡ false → b ≡ pointwise nat_eq (get_or rows i d).name.now word
    → command_index_from_place word (i + 1) (map command_entry_of_row (drop (i + 1) rows)) ≡ command_index_from_place word i (map command_entry_of_row (drop i rows))
place_behind word rows i d within b is e =
    sym (placed word rows i d within b e ∙ ap (λ (z : Bool). if z then Some i else command_index_from_place word (i + 1) (map command_entry_of_row (drop (i + 1) rows))) is)
