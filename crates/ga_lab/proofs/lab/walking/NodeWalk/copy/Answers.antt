use Rattle.std.proofs.Common.{◌∙◌}
use Rattle.ga_lab.proofs.lab.walking.NodeWalk.copy.Goals as goal

pub invariant_of-result : goal.invariant_of-result
invariant_of-result c = record {
  lab = c.self.invariant.lab;
  within = c.self.invariant.within;
  walked_to = c.copy.ensures ∙ c.self.invariant.walked_to;
}

pub returns : goal.returns
returns c = c.self.view_is
