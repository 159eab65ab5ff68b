use Rattle.std.proofs.Common.{rules, List, ℕ, ◌++◌, ◌∙◌, ap, sym, codes, append_assoc}
use Rattle.ga_text.proofs.WriteLemmas.{truncated_here, truncated_within, said_assoc, cut_assoc}
use Rattle.ga_explorer_text.specs.SourceSuffix.{cell_note_text, slot_note_text, source_suffix_line}
use Rattle.ga_explorer_text.proofs.Saying.{text_as, joined_written}
use Rattle.ga_explorer_text.proofs.source_suffix.say_tail.Goals as goal

pub returns-in_err-write_blocks : goal.returns-in_err-write_blocks
returns-in_err-write_blocks g c = (
  search rules,
  λ before said h.
      let cell = cell_note_text c.args.notes.now c.args.node c.args.cell in
      let slot = slot_note_text c.args.notes.now c.args.node c.args.cell c.args.slot in
      let more = slot ++ codes "\n" in
      let whole = source_suffix_line c.args.notes.now c.args.node c.args.cell c.args.slot in
      truncated_here c.from_residual.result _ before (said ++ whole) _ c.from_residual.ensures.0
      (truncated_within _ before said c.cell_note_text.result.now more whole (ap (λ (t : List ℕ). t ++ more) c.cell_note_text.ensures ∙ sym (append_assoc cell slot (codes "\n")))
      (c.in_err-write_blocks.ensures.1 before said h)),
)

pub returns-in_err-write_blocks-2 : goal.returns-in_err-write_blocks-2
returns-in_err-write_blocks-2 g c = (
  search rules,
  λ before said h.
      let cell = cell_note_text c.args.notes.now c.args.node c.args.cell in
      let text : List ℕ = c.cell_note_text.result.now in
      let slot : List ℕ = c.slot_note_text.result.now in
      let whole = source_suffix_line c.args.notes.now c.args.node c.args.cell c.args.slot in
      truncated_here c.from_residual-in_err-write_blocks-2.result _ before (said ++ whole) _ c.from_residual-in_err-write_blocks-2.ensures.0
      (truncated_within _ before said (text ++ slot) (codes "\n") whole
      (ap (λ (t : List ℕ). (t ++ slot) ++ codes "\n") c.cell_note_text.ensures ∙ ap (λ (t : List ℕ). (cell ++ t) ++ codes "\n") c.slot_note_text.ensures)
      (cut_assoc _ before said text slot (c.in_err-write_blocks-2.ensures.1 before (said ++ text) (c.in_ok-write_blocks.ensures.1 before said h)))),
)

pub returns : goal.returns
returns g c = (
  search rules,
  λ before said h.
      let cell = cell_note_text c.args.notes.now c.args.node c.args.cell in
      let text : List ℕ = c.cell_note_text.result.now in
      let slot : List ℕ = c.slot_note_text.result.now in
      text_as c.write_text.result _ before said ((text ++ slot) ++ codes "\n") (source_suffix_line c.args.notes.now c.args.node c.args.cell c.args.slot) _
      (ap (λ (t : List ℕ). (t ++ slot) ++ codes "\n") c.cell_note_text.ensures ∙ ap (λ (t : List ℕ). (cell ++ t) ++ codes "\n") c.slot_note_text.ensures)
      (joined_written c.write_text.result _ before said (text ++ slot) (codes "\n") _ (c.write_text.ensures.1 before (said ++ (text ++ slot))
      (said_assoc _ before said text slot _ (c.in_ok-write_blocks-2.ensures.1 before (said ++ text) (c.in_ok-write_blocks.ensures.1 before said h))))),
)
