use Rattle.ga_causal.proofs.ChainOf.{in_whole}
use Rattle.ga_causal.proofs.chain.find_chain.Goals as goal

pub returns : goal.returns
returns c = in_whole c.args.events.now c.args.from c.args.to c.find_chain_after_skipped_events.result c.find_chain_after_skipped_events.ensures
