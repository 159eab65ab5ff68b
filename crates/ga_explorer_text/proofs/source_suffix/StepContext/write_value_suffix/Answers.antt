use Rattle.std.proofs.Common.{rules, sym}
use Rattle.std.proofs.lemmas.Bool.{cond-false, ne_eqb}
use Rattle.ga_explorer_text.specs.SourceSuffix.{loaded_value_suffix_text, step_suffix_text, value_suffix_text}
use Rattle.ga_explorer_text.proofs.Saying.{text_as}
use Rattle.ga_explorer_text.proofs.source_suffix.StepContext.write_value_suffix.Goals as goal

pub returns-else-value-eq0 : goal.returns-else-value-eq0
returns-else-value-eq0 g c = (
  search rules,
  λ before said h.
      let notes = c.args.self.now.notes.now in
      let value = c.args.value in
      let loaded = loaded_value_suffix_text notes value.node value.part in
      let made = step_suffix_text notes c.args.self.now.lab.now value.node value.step in
      text_as c.write_step_suffix.result _ before said made (value_suffix_text notes c.args.self.now.lab.now value) _
      (sym (cond-false _ loaded made (ne_eqb value.step 0 c.if-value-eq0.false))) (c.write_step_suffix.ensures.1 before said h),
)
