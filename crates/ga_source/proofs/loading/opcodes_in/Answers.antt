use Rattle.std.proofs.Common.{arith, ◌≢◌, ◌<◌, ◌∙◌, length, length-set, get_or-set_other}
use Rattle.ga_slots.specs.declared.op.Op.TheVariants.{Return}
use Rattle.ga_source.proofs.Making.{one_more}
use Rattle.ga_source.proofs.loading.opcodes_in.Goals as goal

pub loop-slot-preserved : goal.loop-slot-preserved
loop-slot-preserved c =
    let size = c.loop-slot.invariant.size in
    let below : c.loop-slot.slot < length c.loop-slot.ops = omega arith in
    record {
      size = length-set c.loop-slot.ops c.loop-slot.slot c.opcode_in.result ∙ size;
      ops = one_more c.loop-slot.ops c.args.items.now c.loop-slot.slot c.opcode_in.result below c.opcode_in.ensures c.loop-slot.invariant.ops;
      behind = λ k h few.
          let other : k ≢ c.loop-slot.slot = (λ e. omega arith) in
          get_or-set_other c.loop-slot.ops c.loop-slot.slot k c.opcode_in.result Return other ∙ c.loop-slot.invariant.behind k (omega arith) few;
    }
