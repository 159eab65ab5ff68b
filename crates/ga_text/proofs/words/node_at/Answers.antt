use Rattle.std.specs.Prelude.{option_map}
use Rattle.std.proofs.Common.{Some, sym, ap, ◌∙◌, arith}
use Rattle.ga_grid.specs.Grid.{node_id}
use Rattle.ga_grid.proofs.NodeIds.{node_id-number}
use Rattle.ga_text.proofs.Taking.{numbered}
use Rattle.ga_text.proofs.words.node_at.Goals as goal

pub returns-then-column-lt18 : goal.returns-then-column-lt18
returns-then-column-lt18 c =
    sym (ap (option_map node_id) (numbered c.args.row c.args.column (omega (arith, c.if-row-lt8.true)) (omega (arith, c.if-column-lt18.true)))
    ∙ ap Some (ap node_id (sym c.new.ensures) ∙ node_id-number c.new.result))
