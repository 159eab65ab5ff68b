use Rattle.std.proofs.Common.{◌≡◌, sym, ◌∙◌, arith}
use Rattle.std.proofs.lemmas.Grind.{same_number_lists}
use Rattle.ga_shared.proofs.copies.copy_memories.Goals as goal

pub returns : goal.returns
returns c =
    let i = c.loop-cell.invariant in
    let sizes = i.sizes (omega arith) in
    let ram : c.loop-cell.to.ram ≡ c.args.from.now.ram = same_number_lists c.loop-cell.to.ram c.args.from.now.ram (i.ram_size ∙ sym sizes.0) (λ k b. i.ram k (omega (arith, i.ram_size))) in
    let rom : c.loop-cell.to.rom ≡ c.args.from.now.rom = same_number_lists c.loop-cell.to.rom c.args.from.now.rom (i.rom_size ∙ sym sizes.1) (λ k b. i.rom k (omega (arith, i.rom_size))) in
    i.others ∙ (λ k. record c.args.to.now { ram = ram k; rom = rom k })
