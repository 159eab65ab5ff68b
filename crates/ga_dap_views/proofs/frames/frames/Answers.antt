use Rattle.std.proofs.Common.{ℕ, ap, ◌∙◌, arith}
use Rattle.ga_dap_views.specs.Frames.{frame_object, frame_slot_address}
use Rattle.ga_dap_views.proofs.Lists.{range_step}
use Rattle.ga_dap_views.proofs.frames.frames.Goals as goal

pub levels-preserved : goal.levels-preserved
levels-preserved c = record {
  from = omega (arith, c.levels.invariant.from);
  list = range_step (λ (k : ℕ). frame_object c.args.file c.args.notes.now c.args.node k (frame_slot_address c.args.lab.now c.args.node k)) c.args.first c.levels.level c.levels.list.items c.push.new.list.items c.in_ok-value.value
      c.levels.invariant.from c.in_ok-push.ensures.ok
      (c.in_ok-value.ensures ∙ ap (frame_object c.args.file c.args.notes.now c.args.node c.levels.level) c.frame_slot_address-spot.ensures) c.levels.invariant.list;
}
