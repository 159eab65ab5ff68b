use Rattle.std.proofs.Common.{◌<◌, ◌↔◌, length, drop}
use Rattle.ga_causal.specs.Chains.{AreNextChainLinks, IsChain}
use Rattle.ga_causal.proofs.chain.is_chain.Given as goal

abbrev pub invariant-loop-link : goal.invariant-loop-link
invariant-loop-link l = (l.before < length l.events) × (AreNextChainLinks l.events l.before (drop l.link-index l.link-items) ↔ IsChain l.events l.chain)
