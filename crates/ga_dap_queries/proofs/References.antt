-- References to memory, and what they spell.
use Rattle.std.proofs.Common.{◌≡◌, ◌≢◌, ◌<◌, ◌^◌, ◌∙◌, ◌++◌, ℕ, drop, codes, sym, ap, subst, arith, Option, Some, None, IfSome, IfNone}
use Rattle.std.specs.Str.Parse.{digits_value, without_leading_plus}
use Rattle.ga_text.specs.Lines.{Text}
use Rattle.ga_grid.specs.Grid.{decimal_name_of_node}
use Rattle.ga_grid.specs.declared.node_id.NodeId.{NodeId}
use Rattle.ga_dap_views.specs.Numbers.{node_name_as_hexadecimal, chip_address}
use Rattle.ga_dap_queries.specs.Disassembling.{SpellsHexadecimal, SpellsMemoryReference, IsMemoryReference}

-- the same digits follow 0x
same_digits : (text first other : Text) → text ≡ codes "0x" ++ first → text ≡ codes "0x" ++ other → first ≡ other
same_digits text first other one two = ap (λ (z : Text). drop 2 z) (sym one ∙ two)

spells_one : (text : Text) (a b : ℕ) → SpellsMemoryReference text a → SpellsMemoryReference text b → a ≡ b
spells_one text a b one other =
    sym one.2.1 ∙ ap (λ (z : Text). digits_value 16 (without_leading_plus z)) (same_digits text one.0 other.0 one.1 other.1) ∙ other.2.1

pub no_reference : (text digits : Text) → text ≡ codes "0x" ++ digits → ((n : ℕ) → n < 2 ^ 64 → SpellsHexadecimal digits n → ⊥) → (n : ℕ) → n < 2 ^ 64
    → SpellsMemoryReference text n → ⊥
no_reference text digits e none n small spells =
    none n small (subst (λ (z : Text). SpellsHexadecimal z n) (same_digits text spells.0 digits spells.1 e) spells.2)

chip_below : (n cell : ℕ) → n < 144 → cell < 256 → chip_address n cell < 2 ^ 64
chip_below n cell within low =
    let small : decimal_name_of_node n < 1000 = omega (arith, within) in
    let digits : node_name_as_hexadecimal (decimal_name_of_node n) < 4096 = omega (arith, small) in
    omega (arith, digits, low)

pub refers : (text : Text) (address : ℕ) (at : Option (NodeId × ℕ)) → SpellsMemoryReference text address → IfSome at (λ found. chip_address found.0.number found.1 ≡ address)
    → IfNone at ((n cell : ℕ) → n < 144 → cell < 256 → chip_address n cell ≢ address) → IsMemoryReference text at
refers text address (Some at) spells found none = subst (λ (z : ℕ). SpellsMemoryReference text z) (sym found) spells
refers text address None spells found none = λ n cell within low other. none n cell within low (spells_one text (chip_address n cell) address other spells)

pub refers_nowhere : (text : Text) → ((address : ℕ) → address < 2 ^ 64 → SpellsMemoryReference text address → ⊥) → IsMemoryReference text None
refers_nowhere text none = λ n cell within low spells. none (chip_address n cell) (chip_below n cell within low) spells
