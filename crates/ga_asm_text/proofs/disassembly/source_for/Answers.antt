use Rattle.std.proofs.Common.{ℕ, List, subst}
use Rattle.ga_text.specs.Lines.{lines_of_text}
use Rattle.ga_image.specs.Grammar.{IsImage}
use Rattle.ga_asm_text.proofs.SourceNames.{is_source}
use Rattle.ga_asm_text.proofs.disassembly.source_for.Goals as goal

pub returns-in-Ok-clause-ok : goal.returns-in-Ok-clause-ok
returns-in-Ok-clause-ok g c = (
  c.in_ok-chip.chip,
  subst (λ (text : List ℕ). IsImage (lines_of_text text) c.in_ok-chip.chip) c.as_slice.ensures.value c.in_ok-chip.ensures.found,
  is_source c.in_ok-chip.chip c.in-Ok.text.items c.in-Ok.ensures.size c.in-Ok.ensures.fit c.in-Ok.ensures.says,
)
