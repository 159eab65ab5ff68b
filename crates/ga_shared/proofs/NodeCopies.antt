-- A node copied part by part, and chips alike node by node.
use Rattle.std.proofs.Common.{◌≡◌, ◌<◌, ℕ, List, length, Bool, true, false, refl, sym, ap, ◌∙◌, arith}
use Rattle.std.specs.Prelude.{◌==◌}
use Rattle.std.specs.Int.{from_bool}
use Rattle.std.proofs.lemmas.List.{ext_get_or, length-map}
use Rattle.ga_stacks.specs.Ring.{StackRing, words_of_stack}
use Rattle.ga_node.specs.Record.{NodeState, record_of_node}
use Rattle.ga_grid.specs.Chip.{default_node, node_at, records_of_chip, node_record_at}
use Rattle.ga_grid.proofs.Chips.{node_record_at-records_of_chip}
use Rattle.ga_shared.specs.inner.{node_with_registers_of_other}

-- a carry by its number
pub carry_back : (b : Bool) → (from_bool b == 1) ≡ b
carry_back true = refl
carry_back false = refl

-- a node that took each part over
pub record_of_node-copied : (from to t1 t2 t3 : NodeState) (kept returned : StackRing) → t1 ≡ record to { ram = from.ram; rom = from.rom } → t2 ≡ record t1 { data_stack = kept; return_stack = returned } → t3 ≡ node_with_registers_of_other from t2 → words_of_stack kept ≡ (record_of_node from).d → words_of_stack returned ≡ (record_of_node from).r → record_of_node t3 ≡ record_of_node from
unfolding record_of_node
record_of_node-copied from to t1 t2 t3 kept returned e1 e2 e3 d r =
    ap record_of_node (e3 ∙ ap (node_with_registers_of_other from) (e2 ∙ ap (λ (t : NodeState). record t { data_stack = kept; return_stack = returned }) e1))
    ∙ (λ k. record { d = d k; r = r k; ram = from.ram; rom = from.rom; a = from.a; b = from.b; p = from.p; i = from.i; io = from.io; carry = from.carry; slot = from.slot; wait = from.wait; stop = from.stop })

-- chips alike node by node
pub records_of_chip-same : (x y : List NodeState) → length x ≡ 144 → length y ≡ 144 → ((k : ℕ) → k < 144 → record_of_node (node_at x k) ≡ record_of_node (node_at y k)) → records_of_chip x ≡ records_of_chip y
records_of_chip-same x y xs ys same =
    ext_get_or (record_of_node default_node) (records_of_chip x) (records_of_chip y) (length-map x record_of_node ∙ xs ∙ sym (length-map y record_of_node ∙ ys))
    (λ k below. node_record_at-records_of_chip x k ∙ same k (omega (arith, length-map x record_of_node)) ∙ sym (node_record_at-records_of_chip y k))

pub records_of_chip-node : (x y : List NodeState) (k : ℕ) → records_of_chip x ≡ records_of_chip y → record_of_node (node_at x k) ≡ record_of_node (node_at y k)
records_of_chip-node x y k e = sym (node_record_at-records_of_chip x k) ∙ ap (λ l. node_record_at l k) e ∙ node_record_at-records_of_chip y k
