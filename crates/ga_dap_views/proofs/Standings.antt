-- The position of a node, by its slot and P.
use Rattle.std.proofs.Common.{◌≡◌, ◌≢◌, ℕ, Bool, cond, Option, sym, ap, ◌∙◌, eq-eqb}
use Rattle.std.specs.Prelude.{option_map}
use Rattle.std.proofs.lemmas.Bool.{ne_eqb}
use Rattle.ga_node.specs.Record.{NodeRecord}
use Rattle.ga_debug_info.specs.Source.{cell_of_address}
use Rattle.ga_dap_views.specs.Spots.{slot_address, slot_address_of_node_record}

pub due_so : (n m : NodeRecord) (slot p : ℕ) (fetched : Option ℕ) → n ≡ m → slot ≡ n.slot → p ≡ n.p → slot ≡ 4 → option_map (slot_address 0) (cell_of_address p) ≡ slot_address_of_node_record m fetched
due_so n m slot p fetched same slot_is p_is due =
    ap (λ (z : ℕ). option_map (slot_address 0) (cell_of_address z)) p_is
    ∙ sym (ap (λ (b : Bool). cond b (option_map (slot_address 0) (cell_of_address n.p)) (option_map (slot_address n.slot) fetched)) (eq-eqb n.slot 4 (sym slot_is ∙ due)))
    ∙ ap (λ (z : NodeRecord). slot_address_of_node_record z fetched) same

pub running_so : (n m : NodeRecord) (slot : ℕ) (fetched : Option ℕ) → n ≡ m → slot ≡ n.slot → slot ≢ 4 → option_map (slot_address slot) fetched ≡ slot_address_of_node_record m fetched
running_so n m slot fetched same slot_is other =
    ap (λ (z : ℕ). option_map (slot_address z) fetched) slot_is
    ∙ sym (ap (λ (b : Bool). cond b (option_map (slot_address 0) (cell_of_address n.p)) (option_map (slot_address n.slot) fetched)) (ne_eqb n.slot 4 (λ is. other (slot_is ∙ is))))
    ∙ ap (λ (z : NodeRecord). slot_address_of_node_record z fetched) same
