use Rattle.std.proofs.Common.{rules, arith}
use Rattle.std.proofs.lemmas.Grind.{common_steps}
use Rattle.ga_source.proofs.CellGroups.{gone_packed}
use Rattle.ga_source.proofs.Marking.{gone}
use Rattle.ga_source.proofs.Grouped.{passed_on}
use Rattle.ga_source.proofs.packing.Packer.go.Goals as goal

pub returns-clause-taken : goal.returns-clause-taken
returns-clause-taken c = record {
  cell = record {
    slot = first_of (search rules, grind (arith, common_steps));
    size = first_of (search rules, grind (arith, common_steps));
  };
  walked = λ before w. gone c.args.self.now c.close.new.self c.args.spot before c.args.asked c.requires.fills c.requires.cell c.requires.after w c.in_ok-close.ensures.closed;
  grouped = λ before w g. passed_on c.args.self.now c.close.new.self c.args.spot before c.args.asked c.requires.fills g c.in_ok-close.ensures.closed c.in_ok-close.ensures.gathered;
}

pub returns-clause-packed : goal.returns-clause-packed
returns-clause-packed c = λ address requests is w.
    gone_packed c.args.self.now c.close.new.self c.args.spot address requests is w (c.close.ensures.stays w.filling w.whole)
