use Rattle.std.proofs.Common.{ℕ, true, ap, refl, set}
use Rattle.ga_source.proofs.Recovering.{one_begun}
use Rattle.ga_source.proofs.recovery.recover_begun.Goals as goal

pub returns-clause-faults : goal.returns-clause-faults
returns-clause-faults c =
    let added = c.in_ok-recover_node.ensures.added in
    record {
      own = added.own;
      all = added.all;
      are = λ rest left.
          one_begun c.args.begun.now _ c.args.words.now c.split_at.result.1.now c.split_at-2.result.0.now _ _ c.args.id.number c.body_length-count.result _ added.own rest c.requires.node refl c.split_at.ensures.back c.split_at-2.ensures.front
          refl c.body_length-count.ensures.in_range c.body_length-count.ensures.said (ap (λ (k : ℕ). set c.args.begun.now k true) c.index.ensures.value) added.are left;
    }
