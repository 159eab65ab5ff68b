use Rattle.std.proofs.Common.{◌≡◌, ℕ, length, ◌∙◌, ap, refl}
use Rattle.ga_node.specs.Record.{NodeState, node_at_load_defaults}
use Rattle.ga_shared.proofs.NodeCopies.{record_of_node-copied}
use Rattle.ga_shared.proofs.copies.copy_node.Goals as goal

fresh_sizes : (p : ℕ) → (length (node_at_load_defaults p).ram ≡ 64) × (length (node_at_load_defaults p).rom ≡ 64)
unfolding node_at_load_defaults
fresh_sizes p = (refl, refl)

pub copy_memories-requires-clause-ram : goal.copy_memories-requires-clause-ram
copy_memories-requires-clause-ram c = ap (λ (n : NodeState). length n.ram) c.requires.1 ∙ (fresh_sizes c.requires.0).0

pub copy_memories-requires-clause-rom : goal.copy_memories-requires-clause-rom
copy_memories-requires-clause-rom c = ap (λ (n : NodeState). length n.rom) c.requires.1 ∙ (fresh_sizes c.requires.0).1

pub copy_registers-requires : goal.copy_registers-requires
unfolding node_at_load_defaults
copy_registers-requires c = (
  ap (λ (n : NodeState). n.wait) (c.set_stacks.ensures.kept) ∙ ap (λ (n : NodeState). n.wait) c.copy_memories.ensures ∙ ap (λ (n : NodeState). n.wait) c.requires.1,
  ap (λ (n : NodeState). n.stop) (c.set_stacks.ensures.kept) ∙ ap (λ (n : NodeState). n.stop) c.copy_memories.ensures ∙ ap (λ (n : NodeState). n.stop) c.requires.1,
)

pub returns : goal.returns
returns c =
    record_of_node-copied c.args.from.now c.args.to.now c.copy_memories.new.to c.set_stacks.new.self c.copy_registers.new.to c.from_words.result c.from_words-2.result
    c.copy_memories.ensures c.set_stacks.ensures.kept c.copy_registers.ensures (c.from_words.ensures ∙ c.stack_words-data_words.ensures.0) (c.from_words-2.ensures ∙ c.stack_words-data_words.ensures.1)
