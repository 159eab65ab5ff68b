use Rattle.std.proofs.Common.{ℕ, ◌<◌, ◌≤◌, ◌+◌, [], ◌∷◌, sym, ap, subst, arith}
use Rattle.ga_causal.specs.Chains.{IsChainTo, alone}
use Rattle.ga_causal.proofs.OldestEventPlaces.{none_read, some_read, DependsOn-order}
use Rattle.ga_causal.proofs.ChainOf.{none_later}
use Rattle.ga_causal.proofs.chain.find_chain_after_skipped_events.Goals as goal

pub returns-then-to-from : goal.returns-then-to-from
returns-then-to-from c all is d =
    let order : c.args.skipped + c.args.from ≤ c.args.skipped + c.args.to = DependsOn-order all (c.args.skipped + c.args.from) (c.args.skipped + c.args.to) d in
    omega (arith, order)

pub returns-then-to-from-2 : goal.returns-then-to-from-2
returns-then-to-from-2 c all is =
    let first = c.args.skipped + c.args.from in
    subst (λ z. IsChainTo all first (c.args.skipped + c.args.to) z) (sym c.in_ok-chain.ensures)
    (subst (λ z. IsChainTo all first z (record { place = first; rule = 0 } ∷ [])) (sym (ap (λ (z : ℕ). c.args.skipped + z) c.if-to-from-2.true)) alone)

pub returns-then-oldest-to : goal.returns-then-oldest-to
returns-then-oldest-to c all is =
    let order : c.args.from < c.args.to = let low = c.if-to-from.false in let apart = c.if-to-from-2.false in omega (arith, low, apart) in
    none_later all c.args.events.now c.args.skipped c.args.from c.args.to is
    (none_read c.args.events.now c.args.from c.args.to c.of-firsts.result c.index-events-to.result c.oldest.result c.of-firsts.ensures.firsts c.of-firsts.ensures.none order c.requires.to
    c.index-events-to.is c.oldest.ensures c.if-oldest-to.true)

pub chain_back-requires-clause-dependent : goal.chain_back-requires-clause-dependent
chain_back-requires-clause-dependent c =
    some_read c.args.events.now c.args.from c.args.to c.of-firsts.result c.index-events-to.result c.oldest.result c.of-firsts.ensures.firsts c.of-firsts.ensures.none c.requires.to
    c.index-events-to.is c.oldest.ensures c.if-oldest-to.false
