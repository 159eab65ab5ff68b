use Rattle.std.proofs.Common.{rules, List, ℕ, ◌++◌, ◌∙◌, codes, ap}
use Rattle.ga_explorer_text.specs.SourceSuffix.{source_suffix_line, slot_before_step, step_suffix_text}
use Rattle.ga_explorer_text.proofs.Saying.{text_as}
use Rattle.ga_explorer_text.proofs.source_suffix.StepContext.write_step_suffix.Goals as goal

pub returns : goal.returns
returns g c = (
  search rules,
  λ before said h.
      let slot = slot_before_step c.args.self.now.lab.now c.args.node c.args.step in
      text_as c.say_tail.result _ before said (source_suffix_line c.args.self.now.notes.now c.args.node c.step_cell-cell.result c.step_slot-slot.result) (step_suffix_text c.args.self.now.notes.now c.args.self.now.lab.now c.args.node c.args.step) _
      (ap (λ (t : List ℕ). t ++ codes "\n") (c.step_slot-slot.ensures ∙ c.step_cell-cell.ensures slot)) (c.say_tail.ensures.1 before said h),
)
