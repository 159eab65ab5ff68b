use Rattle.std.proofs.Common.{ℕ, List, ◌++◌}
use Rattle.std.proofs.lemmas.Result.{on_ok_weaker}
use Rattle.ga_node.specs.Record.{record_of_node, record_at_load_defaults}
use Rattle.ga_grid.specs.Grid.{initial_p_of_node}
use Rattle.ga_image.specs.declared.field.Field.TheVariants.{Ram, Rom}
use Rattle.ga_image.specs.Printing.{register_lines, stack_and_run_state_lines, memory_lines, changed_lines_of_node}
use Rattle.ga_image.proofs.Pieces.{lines_grown}
use Rattle.ga_image.proofs.printing.push_fields.Goals as goal

pub returns-clause-text : goal.returns-clause-text
unfolding changed_lines_of_node
returns-clause-text c =
    let node = record_of_node c.args.at.now in
    let fresh = record_at_load_defaults (initial_p_of_node c.args.node.number) in
    let old : List ℕ = c.args.text.now.items in
    let t1 : List ℕ = c.push_registers.new.text.items in
    let t2 : List ℕ = c.push_state.new.text.items in
    let t3 : List ℕ = c.push_memory.new.text.items in
    let t4 : List ℕ = c.push_memory-2.new.text.items in
    let lines_rom = memory_lines Rom node.rom in
    let lines_ram = memory_lines Ram node.ram ++ lines_rom in
    on_ok_weaker c.push_memory-2.result
    (λ last.
    lines_grown old t1 t4 (register_lines fresh node) (stack_and_run_state_lines fresh node ++ lines_ram) c.in_ok-push_registers.ensures.text
    (lines_grown t1 t2 t4 (stack_and_run_state_lines fresh node) lines_ram c.in_ok-push_state.ensures.text
    (lines_grown t2 t3 t4 (memory_lines Ram node.ram) lines_rom c.in_ok-push_memory.ensures.text
    last)))
    c.push_memory-2.ensures.text

pub returns-clause-sound : goal.returns-clause-sound
returns-clause-sound c =
    on_ok_weaker c.push_memory-2.result
    (λ rom. record {
      registers = c.in_ok-push_registers.ensures.sound;
      state = c.in_ok-push_state.ensures.sound;
      ram = c.in_ok-push_memory.ensures.sound;
      rom = rom;
    })
    c.push_memory-2.ensures.sound
