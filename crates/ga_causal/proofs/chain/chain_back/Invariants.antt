use Rattle.std.proofs.Common.{◌≡◌, ◌≤◌, ◌+◌, ◌++◌, List, true, false, drop, reverse, slice_index_or}
use Rattle.ga_event.specs.declared.event.EventWithLook.{EventWithLook}
use Rattle.ga_causal.specs.declared.chain.ChainLink.{ChainLink}
use Rattle.ga_causal.specs.Dependence.{dependent_flags}
use Rattle.ga_causal.specs.Chains.{IsChainTo}
use Rattle.ga_causal.proofs.chain.chain_back.Given as goal

-- a chain to the place reached, with the links so far, is a chain to the end
abbrev pub invariant-loop-at : goal.invariant-loop-at
invariant-loop-at l = record {
  within : l.at ≤ l.to;
  dependent : slice_index_or (dependent_flags l.events l.from) l.at false ≡ true;
  goes_on : (all : List EventWithLook) → drop l.skipped all ≡ l.events → (links : List ChainLink) → IsChainTo all (l.skipped + l.from) (l.skipped + l.at) links
      → IsChainTo all (l.skipped + l.from) (l.skipped + l.to) (links ++ reverse l.links.items);
}

abbrev pub decreases-loop-at : goal.decreases-loop-at
decreases-loop-at l = l.at
