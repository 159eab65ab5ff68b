use Rattle.std.proofs.Common.{◌≡◌, ℕ, suc, ◌-◌, sym, ap, ◌∙◌, arith}
use Rattle.ga_ports.specs.Address.{address_target}
use Rattle.ga_provenance.specs.declared.value.PartValue.{PartValue}
use Rattle.ga_provenance.specs.Fetched.{cell_of_target, cell_of_fetch}
use Rattle.ga_provenance.proofs.origin.fetched_cell_at.Goals as goal

pub returns : goal.returns
returns c =
    let s = c.args.lab.now in
    let n = c.args.node.number in
    let made = c.origin_behind-made.result in
    let k : ℕ = made.step - 1 in
    let is : suc k ≡ made.step = omega (arith, c.if-made-eq0.false) in
    c.cell_of.ensures
    ∙ ap (λ (p : ℕ). cell_of_target (address_target p)) (sym c.p_by_trail.ensures)
    ∙ ap (cell_of_fetch s n) is
    ∙ ap (λ (v : PartValue). cell_of_fetch s n v.step) (c.origin_behind-made.ensures.value ∙ c.kept_step-step.ensures.same)
