use Rattle.std.proofs.Common.{◌∙◌, ℕ, List, ap, drop}
use Rattle.ga_debug_info.specs.Source.{source_line_without_mark}
use Rattle.ga_debug_info.proofs.LineLemmas.{trimmed_line}
use Rattle.ga_debug_info.proofs.line.SourceLineCursor.line_from_column.Goals as goal

pub returns-clause-line : goal.returns-clause-line
returns-clause-line c =
    let left = c.past.ensures ∙ (ap (λ (text : List ℕ). drop c.saturating_sub.result text) c.bare.ensures.line ∙ ap (λ (count : ℕ). drop count (source_line_without_mark c.args.self.now c.args.number)) c.saturating_sub.ensures) in
    trimmed_line _ _ c.trim_ascii.result.now left c.trim_ascii.ensures.value
