-- A listing that grows, with the lines of faults among its text.
use Rattle.std.proofs.Common.{◌≡◌, ◌∙◌, ℕ, ◌+◌, ◌<◌, ◌≤◌, Bool, true, false, true≢false, List, [], ◌∷◌, ◌++◌, length, get_or, drop, map, cond, Option, Some, None, refl, sym, ap, subst, append_assoc, append-nil}
use Rattle.std.proofs.lemmas.List.{drop_more, drop_all}
use Rattle.std.specs.List.{dedup_from}
use Rattle.ga_parser.specs.declared.fault.SourceFault.{SourceFault}
use Rattle.ga_parser.specs.contracts.fault.SourceFaultPartialEq.TheImpl.{ghosts as faults_compare}
use Rattle.ga_parser.specs.declared.scan.Token.{Token}
use Rattle.ga_source.specs.Recovery.{fault_at_line_of_word, faults_at_lines_of_words, faults_or_first_fault}
use Rattle.ga_asm_text.specs.Source.{listed_fault_text, HasTextPartsInOrder}
use Rattle.ga_asm_text.specs.inner.{is_repeated_fault, faults_without_repeats, fault_lines_of_tokens, IsTextExtended, IsListingExtended}

-- ---- texts that grow

pub grows : (old new part : List ℕ) → new ≡ old ++ part → IsTextExtended old new
grows old new part pushed = record { added = part; text = pushed }

pub grows_none : (old : List ℕ) → IsTextExtended old old
grows_none old = record { added = []; text = sym (append-nil old) }

pub grows_both : (a b c : List ℕ) → IsTextExtended a b → IsTextExtended b c → IsTextExtended a c
grows_both a b c first second = record { added = first.added ++ second.added; text = second.text ∙ (ap (λ (l : List ℕ). l ++ second.added) first.text ∙ append_assoc a first.added second.added) }

-- ---- parts among a text

among_front : (parts : List (List ℕ)) (front text : List ℕ) → HasTextPartsInOrder parts text → HasTextPartsInOrder parts (front ++ text)
unfolding HasTextPartsInOrder
among_front [] front text are = tt
among_front (part ∷ parts) front text are =
    (front ++ are.0, are.1, ap (λ (l : List ℕ). front ++ l) are.2 ∙ (sym (append_assoc front (are.0 ++ part) are.1) ∙ ap (λ (l : List ℕ). l ++ are.1) (sym (append_assoc front are.0 part))), are.3)

among_both : (parts others : List (List ℕ)) (text after : List ℕ) → HasTextPartsInOrder parts text → HasTextPartsInOrder others after → HasTextPartsInOrder (parts ++ others) (text ++ after)
unfolding HasTextPartsInOrder
among_both [] others text after are rest = among_front others text after rest
among_both (part ∷ parts) others text after are rest =
    (are.0, are.1 ++ after, ap (λ (l : List ℕ). l ++ after) are.2 ∙ append_assoc (are.0 ++ part) are.1 after, among_both parts others are.1 after are.3 rest)

none_among : (text : List ℕ) → HasTextPartsInOrder [] text
unfolding HasTextPartsInOrder
none_among text = tt

one_among : (part : List ℕ) → HasTextPartsInOrder (part ∷ []) part
unfolding HasTextPartsInOrder
one_among part = ([], [], sym (append-nil part), tt)

-- ---- a listing

pub tells_none : (old new : List ℕ) (left : List (List ℕ)) → IsTextExtended old new → IsListingExtended old new left left
tells_none old new left grown = record { added = grown.added; lines = []; text = grown.text; told = refl; among = none_among grown.added }

pub tells_same : (text : List ℕ) (left : List (List ℕ)) → IsListingExtended text text left left
tells_same text left = tells_none text text left (grows_none text)

pub tells_skipped : (text : List ℕ) (before left : List (List ℕ)) → before ≡ left → IsListingExtended text text before left
tells_skipped text before left is = record { added = []; lines = []; text = sym (append-nil text); told = is; among = none_among [] }

pub tells_both : (a b c : List ℕ) (l m n : List (List ℕ)) → IsListingExtended a b l m → IsListingExtended b c m n → IsListingExtended a c l n
tells_both a b c l m n first second = record {
  added = first.added ++ second.added;
  lines = first.lines ++ second.lines;
  text = second.text ∙ (ap (λ (t : List ℕ). t ++ second.added) first.text ∙ append_assoc a first.added second.added);
  told = first.told ∙ (ap (λ (t : List (List ℕ)). first.lines ++ t) second.told ∙ sym (append_assoc first.lines second.lines n));
  among = among_both first.lines second.lines first.added second.added first.among second.among;
}

pub tells_one : (old new part : List ℕ) (before left : List (List ℕ)) → new ≡ old ++ part → before ≡ part ∷ left → IsListingExtended old new before left
tells_one old new part before left pushed is = record { added = part; lines = part ∷ []; text = pushed; told = is; among = one_among part }

-- all lines are written
pub all_told : (text : List ℕ) (before : List (List ℕ)) → IsListingExtended [] text before [] → HasTextPartsInOrder before text
all_told text before tells =
    subst (λ (l : List (List ℕ)). HasTextPartsInOrder l text) (sym (tells.told ∙ append-nil tells.lines)) (subst (HasTextPartsInOrder tells.lines) (sym tells.text) tells.among)

-- ---- faults that are new

first_by : (b : Bool) (fault next : SourceFault) (faults : List SourceFault) → dedup_from faults_compare.eq fault faults ≡ fault ∷ drop 1 (dedup_from faults_compare.eq fault faults)
    → cond b (dedup_from faults_compare.eq fault faults) (fault ∷ dedup_from faults_compare.eq next faults) ≡ fault ∷ drop 1 (cond b (dedup_from faults_compare.eq fault faults) (fault ∷ dedup_from faults_compare.eq next faults))
first_by true fault next faults before = before
first_by false fault next faults before = refl

first_of : (fault : SourceFault) (faults : List SourceFault) → dedup_from faults_compare.eq fault faults ≡ fault ∷ drop 1 (dedup_from faults_compare.eq fault faults)
first_of fault [] = refl
first_of fault (next ∷ faults) = first_by (faults_compare.eq next fault) fault next faults (first_of fault faults)

same_by : (b : Bool) (last next : SourceFault) (faults : List SourceFault) → b ≡ true
    → drop 1 (cond b (dedup_from faults_compare.eq last faults) (last ∷ dedup_from faults_compare.eq next faults)) ≡ drop 1 (dedup_from faults_compare.eq last faults)
same_by true last next faults is = refl
same_by false last next faults is = absurd (true≢false (sym is))

other_by : (b : Bool) (last next : SourceFault) (faults : List SourceFault) → b ≡ false
    → drop 1 (cond b (dedup_from faults_compare.eq last faults) (last ∷ dedup_from faults_compare.eq next faults)) ≡ dedup_from faults_compare.eq next faults
other_by false last next faults is = refl
other_by true last next faults is = absurd (true≢false is)

news_same : (last : Option SourceFault) (next : SourceFault) (faults : List SourceFault) → is_repeated_fault last next ≡ true → faults_without_repeats last (next ∷ faults) ≡ faults_without_repeats last faults
news_same None next faults is = absurd (true≢false (sym is))
news_same (Some last) next faults is = same_by (faults_compare.eq next last) last next faults is

news_other : (last : Option SourceFault) (next : SourceFault) (faults : List SourceFault) → is_repeated_fault last next ≡ false → faults_without_repeats last (next ∷ faults) ≡ next ∷ faults_without_repeats (Some next) faults
news_other None next faults is = first_of next faults
news_other (Some last) next faults is = other_by (faults_compare.eq next last) last next faults is ∙ first_of next faults

-- the next fault is repeated, or it is listed
next_is : (words : List Token) (faults : List SourceFault) (told : ℕ) (d fault : SourceFault) → told < length faults → fault ≡ fault_at_line_of_word words (get_or faults told d) → map (fault_at_line_of_word words) (drop told faults) ≡ fault ∷ map (fault_at_line_of_word words) (drop (told + 1) faults)
next_is words faults told d fault within is =
    ap (map (fault_at_line_of_word words)) (drop_more faults told d within) ∙ ap (λ (f : SourceFault). f ∷ map (fault_at_line_of_word words) (drop (told + 1) faults)) (sym is)

pub left_repeated : (source : List ℕ) (words : List Token) (last : Option SourceFault) (faults : List SourceFault) (told : ℕ) (d fault : SourceFault) → told < length faults → fault ≡ fault_at_line_of_word words (get_or faults told d) → is_repeated_fault last fault ≡ true
    → fault_lines_of_tokens source words last (drop told faults) ≡ fault_lines_of_tokens source words last (drop (told + 1) faults)
left_repeated source words last faults told d fault within is repeated =
    ap (λ (l : List SourceFault). map (listed_fault_text source) (faults_without_repeats last l)) (next_is words faults told d fault within is)
    ∙ ap (map (listed_fault_text source)) (news_same last fault (map (fault_at_line_of_word words) (drop (told + 1) faults)) repeated)

pub left_listed : (source : List ℕ) (words : List Token) (last : Option SourceFault) (faults : List SourceFault) (told : ℕ) (d fault : SourceFault) → told < length faults → fault ≡ fault_at_line_of_word words (get_or faults told d) → is_repeated_fault last fault ≡ false
    → fault_lines_of_tokens source words last (drop told faults) ≡ listed_fault_text source fault ∷ fault_lines_of_tokens source words (Some fault) (drop (told + 1) faults)
left_listed source words last faults told d fault within is other =
    ap (λ (l : List SourceFault). map (listed_fault_text source) (faults_without_repeats last l)) (next_is words faults told d fault within is)
    ∙ ap (map (listed_fault_text source)) (news_other last fault (map (fault_at_line_of_word words) (drop (told + 1) faults)) other)

-- none is left
news_none : (last : Option SourceFault) → faults_without_repeats last [] ≡ []
news_none None = refl
news_none (Some last) = refl

pub left_none : (source : List ℕ) (words : List Token) (last : Option SourceFault) (faults : List SourceFault) (told : ℕ) → length faults ≤ told → fault_lines_of_tokens source words last (drop told faults) ≡ []
left_none source words last faults told end =
    ap (λ (l : List SourceFault). map (listed_fault_text source) (faults_without_repeats last (map (fault_at_line_of_word words) l))) (drop_all told faults end) ∙ ap (map (listed_fault_text source)) (news_none last)

-- the first fault alone, if there is no other
pub first_alone : (words : List Token) (faults : List SourceFault) (first : SourceFault) → faults_at_lines_of_words words (faults_or_first_fault faults first) ≡ faults_or_first_fault (faults_at_lines_of_words words faults) (fault_at_line_of_word words first)
first_alone words [] first = refl
first_alone words (fault ∷ faults) first =
    let all = map (fault_at_line_of_word words) faults in
    let is = first_of (fault_at_line_of_word words fault) all in
    is ∙ ap (λ (l : List SourceFault). faults_or_first_fault l (fault_at_line_of_word words first)) (sym is)
