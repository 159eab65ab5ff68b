use Rattle.std.specs.Prelude.{if◌then◌else◌}
use Rattle.std.proofs.lemmas.Bool.{lt-ltb}
use Rattle.std.proofs.Common.{rules, Bool, ◌%◌, [], ap, sym, ◌∙◌}
use Rattle.ga_event.specs.Told.{count_steps}
use Rattle.ga_explorer_text.specs.Writing.{cell_writes_lines}
use Rattle.ga_explorer_text.proofs.writes_text.write_cell_writes.Goals as goal

pub returns-then-address-lt128 : goal.returns-then-address-lt128
returns-then-address-lt128 g c = (
  search rules,
  λ before said h.
      let s = c.args.lab.now in
      let node = c.args.node in
      let done = c.say_cell.ensures.1 before said h in (
        done.0,
        done.1 ∙ sym (ap (λ (b : Bool). if b then cell_writes_lines s node (c.args.address % 64) (count_steps node.number s.kept) else []) (lt-ltb c.args.address 128 c.if-address-lt128.true)),
        done.2,
      ),
)
