use Rattle.std.proofs.Common.{◌≡◌, ◌++◌, drop, flat_map}
use Rattle.ga_debug_info.specs.Faults.{store_warning_text}
use Rattle.ga_debug_info.proofs.faults.push_stores.Given as goal

abbrev pub invariant-loop-store : goal.invariant-loop-store
invariant-loop-store l = l.text.items ++ flat_map store_warning_text (drop l.store-index l.stores) ≡ l.fn.text.items ++ flat_map store_warning_text l.stores
