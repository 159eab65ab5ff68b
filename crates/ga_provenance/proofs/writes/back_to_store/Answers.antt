use Rattle.std.proofs.Common.{◌≡◌, ◌-◌, suc, sym, ◌∙◌, arith}
use Rattle.ga_provenance.proofs.Keeping.{none_written, wrote_before}
use Rattle.ga_provenance.proofs.writes.back_to_store.Goals as goal

pub going-preserved : goal.going-preserved
going-preserved c =
    let s = c.args.lab.now in
    let n = c.args.node.number in
    let is : suc (c.going.step - 1) ≡ c.going.step = omega (arith, c.going-test.true) in
    record {
      registers = c.registers_before-registers.ensures;
      word = c.value_after-word.ensures.value;
      fits = c.value_after-word.ensures.fits;
      within = omega (arith, c.going.invariant.within);
      same = wrote_before s n c.args.cell c.going.step (c.going.step - 1) is
          (none_written s n c.args.cell (c.going.step - 1) c.made_event_of_step-told.result c.made_event_of_step-told.ensures (sym c.ran_store_opcode.ensures ∙ c.if-ran_store_opcode.false)) ∙ c.going.invariant.same;
    }
