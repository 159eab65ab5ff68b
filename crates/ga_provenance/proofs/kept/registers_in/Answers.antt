use Rattle.std.proofs.Common.{◌≡◌, ◌≤◌, length, arith, ap, sym, ◌∙◌}
use Rattle.std.proofs.lemmas.List.{length-map}
use Rattle.ga_node.specs.Record.{NodeRecord, record_of_node}
use Rattle.ga_event.specs.Told.{count_steps}
use Rattle.ga_lab.specs.Machine.{chip_of_machine}
use Rattle.ga_provenance.specs.Origins.{node_after_steps}
use Rattle.ga_provenance.proofs.Made.{then_of, within_so}
use Rattle.ga_provenance.proofs.Ran.{whole_machine}
use Rattle.ga_provenance.proofs.kept.registers_in.Goals as goal

pub returns : goal.returns
returns c =
    let s = c.args.lab.now in
    let n = c.args.node.number in
    let walk = c.args.walk.now in
    let within : walk.step ≤ count_steps walk.node.number walk.machine.kept = omega (arith, c.step.ensures.value, c.step.ensures.within) in
    let there : record_of_node c.node-there.result.now ≡ node_after_steps s n walk.step = then_of s c.args.node walk (record_of_node c.node-there.result.now) c.requires within c.node-there.ensures in
    record {
      whole = whole_machine s (chip_of_machine s) c.chip.ensures.replays (sym (ap length c.chip.ensures.value) ∙ length-map c.chip.result.now record_of_node ∙ c.node.ensures.size);
      within = within_so s c.args.node walk walk.step c.requires within;
      a = ap (λ (z : NodeRecord). z.a) (sym there) ∙ sym c.a_of.ensures.value;
      b = ap (λ (z : NodeRecord). z.b) (sym there) ∙ sym c.b_of.ensures.value;
      a_fits = c.a_of.ensures.fits;
      b_fits = c.b_of.ensures.fits;
    }
