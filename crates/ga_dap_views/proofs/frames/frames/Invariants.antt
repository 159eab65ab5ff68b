use Rattle.std.proofs.Common.{◌≡◌, ◌≤◌, ◌-◌, map}
use Rattle.std.specs.List.{range_with_len}
use Rattle.serde_json.specs.View.{view}
use Rattle.ga_dap_views.specs.Frames.{frame_object, frame_slot_address}
use Rattle.ga_dap_views.proofs.frames.frames.Given as goal

abbrev pub invariant-levels : goal.invariant-levels
invariant-levels l = record {
  from : l.fn.first ≤ l.level;
  list : map view l.list.items ≡ map (λ k. frame_object l.file l.notes l.node k (frame_slot_address l.lab l.node k)) (range_with_len l.fn.first (l.level - l.fn.first));
}
