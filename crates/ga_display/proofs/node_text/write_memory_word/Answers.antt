use Rattle.std.proofs.Common.{List, ℕ, rules, ◌++◌, sym, ap, ◌∙◌, append_assoc}
use Rattle.ga_display.specs.Texts.{memory_word_text}
use Rattle.ga_display.proofs.Pieces.{piece_more, four_pieces}
use Rattle.ga_text.proofs.WriteLemmas.{truncated_more, truncated_here}
use Rattle.ga_display.proofs.node_text.write_memory_word.Goals as goal

pub returns-in_err-make_room : goal.returns-in_err-make_room
returns-in_err-make_room g c = (
  search rules,
  λ before said h.
      truncated_here c.from_residual.result _ before (said ++ memory_word_text c.args.node c.args.address c.args.word) _ c.from_residual.ensures.0
      (truncated_more _ before said (memory_word_text c.args.node c.args.address c.args.word) (c.in_err-make_room.ensures.said.1 before said h)),
)

pub returns : goal.returns
returns g c = (
  search rules,
  λ before said h.
      let old : List ℕ = c.make_room.new.self.pending.items in
      let text : List ℕ = memory_word_text c.args.node c.args.address c.args.word in
      let told = c.in_ok-make_room.ensures.said.1 before said h in
      let whole = piece_more old c.push_spaced_word.new.out.items c.push_text-3.new.out.items _ _
      (four_pieces old c.push_text.new.out.items c.push_node_and_space.new.out.items c.push_text-2.new.out.items c.push_spaced_word.new.out.items _ _ _ _
      c.push_text.ensures.text c.push_node_and_space.ensures.text (c.push_text-2.ensures.text ∙ ap (λ (t : List ℕ). c.push_node_and_space.new.out.items ++ t) c.two_hex_digits.ensures) c.push_spaced_word.ensures.text)
      c.push_text-3.ensures.text in
      record {
        sent = told.sent;
        held = told.held;
        splits = ap (λ (t : List ℕ). t ++ text) told.splits ∙ append_assoc told.sent old text ∙ ap (λ (t : List ℕ). told.sent ++ t) (sym whole);
      },
)
