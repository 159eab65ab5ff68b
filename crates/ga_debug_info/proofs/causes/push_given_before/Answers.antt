use Rattle.std.proofs.Common.{◌∙◌, ◌++◌, ℕ, List, ap}
use Rattle.std.specs.Prelude.{codes, decimal}
use Rattle.ga_debug_info.specs.Source.{address_text}
use Rattle.ga_debug_info.proofs.Pushes.{on_ok, four}
use Rattle.ga_debug_info.proofs.causes.push_given_before.Goals as goal

pub returns : goal.returns
returns c =
    on_ok c.push_number.result _ _
    (four c.args.text.now.items c.extend_from_slice.new.self.items c.extend_from_slice-2.new.self.items c.extend_from_slice-3.new.self.items c.push_number.new.text.items
    (codes "cell ") (address_text c.args.cell) (codes " given before on line ") (decimal c.args.line)
    c.in_ok-extend_from_slice.ensures.items
    (c.in_ok-extend_from_slice-2.ensures.items ∙ ap (λ (l : List ℕ). c.extend_from_slice.new.self.items ++ l) c.three_digits.ensures)
    c.in_ok-extend_from_slice-3.ensures.items)
    c.push_number.ensures
