-- How the words over a link break an expectation, as fields of an object (docs/JSON.md; this project's own).
use Rattle.std.specs.Prelude.{ℕ, ◌+◌, pos, List, [], ◌∷◌, codes}
use Rattle.ga_text.specs.Lines.{Text}
use Rattle.ga_json.specs.Values.{number}
use Rattle.ga_json.specs.Fields.{NamedValue}
use Rattle.ga_state_links.specs.declared.expectation.LinkFault.{LinkFault}
use Rattle.ga_state_links.specs.declared.expectation.LinkFault.TheVariants.{OtherWord, ExtraWord, MissingWord}

-- how they do, in a word
abbrev pub link_fault_keyword : LinkFault → Text
link_fault_keyword (OtherWord word) = codes "word"
link_fault_keyword (ExtraWord word) = codes "further word"
link_fault_keyword MissingWord = codes "no word"

-- the number of the word, from 1 on, and the word that came, if one did
abbrev pub link_fault_detail_fields : ℕ → LinkFault → List NamedValue
link_fault_detail_fields place (OtherWord word) = (codes "place", number (pos (place + 1))) ∷ (codes "value", number (pos word)) ∷ []
link_fault_detail_fields place (ExtraWord word) = (codes "place", number (pos (place + 1))) ∷ (codes "value", number (pos word)) ∷ []
link_fault_detail_fields place MissingWord = (codes "place", number (pos (place + 1))) ∷ []
