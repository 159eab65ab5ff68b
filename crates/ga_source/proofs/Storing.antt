-- Stores over code, item by item, group by group and request by request.
use Rattle.std.proofs.Common.{◌≡◌, ◌∙◌, ℕ, ◌+◌, ◌<◌, List, [], ◌∷◌, ◌++◌, length, drop, get_or, if◌then◌else◌, sym, ap, Option, Some, None, append_assoc}
use Rattle.std.specs.Prelude.{slice_index}
use Rattle.std.proofs.lemmas.List.{drop_more}
use Rattle.ga_parser.specs.declared.item.AssemblyItem.{AssemblyItem}
use Rattle.ga_parser.specs.declared.item.LocatedRequest.{LocatedRequest}
use Rattle.ga_source.specs.Reading.{p_after_item, is_data_cell}
use Rattle.ga_source.specs.declared.group.CellGroup.{CellGroup}
use Rattle.ga_source.specs.declared.program.Program.{Program}
use Rattle.ga_source.specs.declared.stores.StoreOverCode.{StoreOverCode}
use Rattle.ga_source.specs.declared.stores.Known.{Known}
use Rattle.ga_source.specs.Stores.{code_lines_with_literal, code_lines_with_literals, code_lines_with_groups, code_lines_with_word, code_stores_of_requests, store_over_code_of_request, stores_with_optional_store, known_values_after_request}

pub literals_more : (code lines : List ℕ) (p i : ℕ) (items : List AssemblyItem) (d : AssemblyItem) → i < length items
    → code_lines_with_literals code lines p i (drop i items) ≡ code_lines_with_literals (code_lines_with_literal code p (slice_index lines i) (get_or items i d)) lines (p_after_item p (get_or items i d)) (i + 1) (drop (i + 1) items)
unfolding code_lines_with_literals
literals_more code lines p i items d within = ap (code_lines_with_literals code lines p i) (drop_more items i d within)

pub literals_all : (code lines : List ℕ) (p i : ℕ) (items : List AssemblyItem) → items ≡ [] → code_lines_with_literals code lines p i items ≡ code
unfolding code_lines_with_literals
literals_all code lines p i items none = ap (code_lines_with_literals code lines p i) none

pub groups_more : (code : List ℕ) (groups : List CellGroup) (i : ℕ) (d : CellGroup) → i < length groups
    → code_lines_with_groups code (drop i groups) ≡ code_lines_with_groups (if is_data_cell (get_or groups i d).items.items then code else code_lines_with_word code (get_or groups i d)) (drop (i + 1) groups)
unfolding code_lines_with_groups
groups_more code groups i d within = ap (code_lines_with_groups code) (drop_more groups i d within)

pub groups_all : (code : List ℕ) (groups : List CellGroup) → groups ≡ [] → code_lines_with_groups code groups ≡ code
unfolding code_lines_with_groups
groups_all code groups none = ap (code_lines_with_groups code) none

pub stores_more : (program : Program) (code : List ℕ) (known : Known) (asked : List LocatedRequest) (i : ℕ) (d : LocatedRequest) → i < length asked
    → code_stores_of_requests program code known (drop i asked)
    ≡ stores_with_optional_store (store_over_code_of_request code known (get_or asked i d).line (get_or asked i d).request) (code_stores_of_requests program code (known_values_after_request program known (get_or asked i d).request) (drop (i + 1) asked))
unfolding code_stores_of_requests
stores_more program code known asked i d within = ap (code_stores_of_requests program code known) (drop_more asked i d within)

pub stores_all : (program : Program) (code : List ℕ) (known : Known) (asked : List LocatedRequest) → asked ≡ [] → code_stores_of_requests program code known asked ≡ []
unfolding code_stores_of_requests
stores_all program code known asked none = ap (code_stores_of_requests program code known) none

put_in_front : (stores rest : List StoreOverCode) (store : Option StoreOverCode) → (stores ++ stores_with_optional_store store []) ++ rest ≡ stores ++ stores_with_optional_store store rest
put_in_front stores rest None = append_assoc stores [] rest
put_in_front stores rest (Some store) = append_assoc stores (store ∷ []) rest

pub store_step : (program : Program) (code : List ℕ) (known behind : Known) (asked : List LocatedRequest) (i : ℕ) (d : LocatedRequest) (stores after whole : List StoreOverCode) (store : Option StoreOverCode) → i < length asked
    → store ≡ store_over_code_of_request code known (get_or asked i d).line (get_or asked i d).request → after ≡ stores ++ stores_with_optional_store store [] → behind ≡ known_values_after_request program known (get_or asked i d).request
    → stores ++ code_stores_of_requests program code known (drop i asked) ≡ whole → after ++ code_stores_of_requests program code behind (drop (i + 1) asked) ≡ whole
store_step program code known behind asked i d stores after whole store within is added next all =
    let rest = code_stores_of_requests program code (known_values_after_request program known (get_or asked i d).request) (drop (i + 1) asked) in
    ap (λ (list : List StoreOverCode). list ++ code_stores_of_requests program code behind (drop (i + 1) asked)) added
    ∙ (ap (λ (k : Known). (stores ++ stores_with_optional_store store []) ++ code_stores_of_requests program code k (drop (i + 1) asked)) next
    ∙ (put_in_front stores rest store
    ∙ (ap (λ (one : Option StoreOverCode). stores ++ stores_with_optional_store one rest) is
    ∙ (ap (λ (list : List StoreOverCode). stores ++ list) (sym (stores_more program code known asked i d within)) ∙ all))))
