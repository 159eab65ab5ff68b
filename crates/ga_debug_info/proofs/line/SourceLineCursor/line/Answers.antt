use Rattle.ga_debug_info.proofs.LineLemmas.{trimmed_line}
use Rattle.ga_debug_info.proofs.line.SourceLineCursor.line.Goals as goal

pub returns-clause-line : goal.returns-clause-line
returns-clause-line c = trimmed_line _ _ c.trim_ascii.result.now c.bare.ensures.line c.trim_ascii.ensures.value
