use Rattle.std.proofs.Common.{◌≡◌, ℕ, ◌+◌, ◌<◌, ◌∙◌, length, ap, arith}
use Rattle.ga_causal.specs.declared.chain.ChainLink.{ChainLink}
use Rattle.ga_causal.specs.Dependence.{dependence_rule_at}
use Rattle.ga_causal.specs.Chains.{IsOldestCause}
use Rattle.ga_causal.proofs.Exact.{flag_from_DependsOn}
use Rattle.ga_causal.proofs.OldestEventPlaces.{goes_on_longer, goes_on_first, rule_read, oldest_read}
use Rattle.ga_causal.proofs.ChainOf.{oldest_later, rule_there}
use Rattle.ga_causal.proofs.chain.chain_back.Goals as goal

pub bounds-events-before : goal.bounds-events-before
bounds-events-before c =
    let within : c.loop-at.at < length c.args.events.now = omega arith in
    let o : IsOldestCause c.args.events.now c.args.from c.loop-at.at c.oldest-before.result =
    oldest_read c.args.events.now c.args.from c.args.to c.loop-at.at c.args.firsts.now c.index-events-at.result c.oldest-before.result c.requires.firsts c.requires.none c.requires.from within
    c.loop-at.invariant.within c.loop-at-test.true c.loop-at.invariant.dependent c.index-events-at.is c.oldest-before.ensures in
    omega (arith, o.direct.before)

pub loop-at-smaller : goal.loop-at-smaller
loop-at-smaller c =
    let within : c.loop-at.at < length c.args.events.now = omega arith in
    let o : IsOldestCause c.args.events.now c.args.from c.loop-at.at c.oldest-before.result =
    oldest_read c.args.events.now c.args.from c.args.to c.loop-at.at c.args.firsts.now c.index-events-at.result c.oldest-before.result c.requires.firsts c.requires.none c.requires.from within
    c.loop-at.invariant.within c.loop-at-test.true c.loop-at.invariant.dependent c.index-events-at.is c.oldest-before.ensures in
    o.direct.before

pub loop-at-preserved : goal.loop-at-preserved
loop-at-preserved c =
    let within : c.loop-at.at < length c.args.events.now = omega arith in
    let o : IsOldestCause c.args.events.now c.args.from c.loop-at.at c.oldest-before.result =
    oldest_read c.args.events.now c.args.from c.args.to c.loop-at.at c.args.firsts.now c.index-events-at.result c.oldest-before.result c.requires.firsts c.requires.none c.requires.from within
    c.loop-at.invariant.within c.loop-at-test.true c.loop-at.invariant.dependent c.index-events-at.is c.oldest-before.ensures in
    let l : c.oldest-before.result < length c.args.events.now = omega (arith, o.direct.before) in
    let r : c.rule.result ≡ dependence_rule_at c.args.events.now c.oldest-before.result c.loop-at.at =
    rule_read c.args.events.now c.oldest-before.result c.loop-at.at c.rule.result c.index-events-before.result c.index-events-at.result l within c.index-events-before.is c.index-events-at.is c.rule.ensures in
    record {
      within = omega (arith, o.direct.before);
      dependent = flag_from_DependsOn c.args.events.now c.args.from c.oldest-before.result c.requires.from o.dependent;
      goes_on = λ all is.
          let k = c.args.skipped in
          goes_on_longer all (k + c.args.from) (k + c.args.to) (k + c.loop-at.at) (k + c.oldest-before.result) (record { place = k + c.loop-at.at; rule = c.rule.result }) c.loop-at.links.items c.push.new.self.items
          (λ h. c.loop-at-test.true (omega (arith, h))) (oldest_later all c.args.events.now k c.args.from c.loop-at.at c.oldest-before.result is o)
          (ap (λ (z : ℕ). let w : ChainLink = record { place = k + c.loop-at.at; rule = z } in w) (r ∙ rule_there all c.args.events.now k c.oldest-before.result c.loop-at.at is))
          c.in_ok-push.ensures.items (c.loop-at.invariant.goes_on all is);
    }

pub returns : goal.returns
returns c all is =
    let k = c.args.skipped in
    goes_on_first all (k + c.args.from) (k + c.args.to) (k + c.loop-at.at) c.loop-at.links.items c.push-2.new.self.items c.reverse.new.self.items
    (ap (λ (z : ℕ). k + z) c.loop-at-test.false) c.in_ok-push-2.ensures.items c.reverse.ensures.items (c.loop-at.invariant.goes_on all is)
