use Rattle.std.specs.Prelude.{codes}
use Rattle.ga_grid.specs.Grid.{decimal_name_of_node}
use Rattle.ga_text.specs.Digits.{three_decimal_digits}
use Rattle.ga_debug_info.proofs.Pushes.{five}
use Rattle.ga_debug_info.proofs.unrepresented.push_line.Goals as goal

pub returns : goal.returns
returns c =
    five c.args.text.now.items c.extend_from_slice.new.self.items c.push_name.new.text.items c.extend_from_slice-2.new.self.items c.extend_from_slice-3.new.self.items
    c.push.new.self.items
    (codes "ga144: node ") (three_decimal_digits (decimal_name_of_node c.args.id.number)) (codes ": not in source:") c.args.fields.now (codes "\n")
    c.in_ok-extend_from_slice.ensures.items c.in_ok-push_name.ensures c.in_ok-extend_from_slice-2.ensures.items c.in_ok-extend_from_slice-3.ensures.items c.in_ok-push.ensures.items
