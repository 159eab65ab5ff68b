-- The text about ends, under other names and one kind more.
use Rattle.std.proofs.Common.{◌≡◌, ℕ, ◌+◌, ◌<◌, List, ◌++◌, length, get_or, drop, Option, None, sym, ◌∙◌, ap, subst}
use Rattle.std.proofs.lemmas.List.{drop_more}
use Rattle.ga_state_ends.specs.Decisions.{EndDecision}
use Rattle.ga_state_ends.specs.declared.end_kind.EndKind.{EndKind}
use Rattle.ga_check_report.specs.EndTexts.{end_kind_with_decision_text, end_kinds_text}
use Rattle.ga_check_report.specs.Checking.{IsWrittenWithVerdictOrFails}
use Rattle.ga_check_report.specs.declared.report.Verdict.{Verdict}

pub out_as : (whole text : List ℕ) (verdict its end : Verdict) → verdict ≡ its → IsWrittenWithVerdictOrFails whole verdict text end → IsWrittenWithVerdictOrFails whole its text end
out_as whole text verdict its end f h = let Q : Verdict → Type 0 = λ v. IsWrittenWithVerdictOrFails whole v text end in subst Q f h

pub next_kind : (decisions : List (Option EndDecision)) (kinds : List EndKind) (i : ℕ) (default : EndKind) (decision : Option EndDecision) → i < length kinds
    → decision ≡ get_or decisions i None
    → end_kinds_text decisions i (drop i kinds) ≡ end_kind_with_decision_text (i + 1) (get_or kinds i default) decision ++ end_kinds_text decisions (i + 1) (drop (i + 1) kinds)
next_kind decisions kinds i default decision within is =
    ap (end_kinds_text decisions i) (drop_more kinds i default within)
    ∙ ap (λ (d : Option EndDecision). end_kind_with_decision_text (i + 1) (get_or kinds i default) d ++ end_kinds_text decisions (i + 1) (drop (i + 1) kinds)) (sym is)
