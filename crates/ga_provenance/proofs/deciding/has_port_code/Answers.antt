use Rattle.std.proofs.Common.{◌≡◌, ℕ, suc, ◌-◌, sym, ap, ◌∙◌, arith}
use Rattle.ga_provenance.specs.Deciding.{has_port_code}
use Rattle.ga_provenance.proofs.Decided.{came_last, came_before}
use Rattle.ga_provenance.proofs.deciding.has_port_code.Goals as goal

pub returns-in-Some : goal.returns-in-Some
returns-in-Some c =
    let k : ℕ = c.going.step - 1 in
    let is : suc k ≡ c.going.step = omega (arith, c.going-test.true) in
    came_last c.args.lab.now c.args.node.number c.going.step k c.in-Some.came is c.in-Some.ensures ∙ c.going.invariant.same

pub going-preserved : goal.going-preserved
going-preserved c =
    let k : ℕ = c.going.step - 1 in
    let is : suc k ≡ c.going.step = omega (arith, c.going-test.true) in
    record {
      within = omega (arith, c.going.invariant.within);
      same = came_before c.args.lab.now c.args.node.number c.going.step k is (sym c.in_default.is ∙ c.brings_port_code.ensures) ∙ c.going.invariant.same;
    }

pub returns : goal.returns
returns c =
    ap (has_port_code c.args.lab.now c.args.node.number) (let f : 0 ≡ c.going.step = omega (arith, c.going-test.false) in f) ∙ c.going.invariant.same
