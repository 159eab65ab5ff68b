use Rattle.std.proofs.Common.{◌∙◌, sym}
use Rattle.std.proofs.lemmas.List.{drop_all}
use Rattle.ga_parser.specs.inner.Recovering.{recovery_of_reading}
use Rattle.ga_parser.proofs.Recovering.{one_taken, none_taken}
use Rattle.ga_parser.proofs.recovery.read_left.Goals as goal

pub loop-i-preserved : goal.loop-i-preserved
loop-i-preserved c =
    sym (one_taken (recovery_of_reading c.loop-i.reading) (recovery_of_reading c.take.new.self) c.args.tokens.now c.loop-i.i _ c.text_at.result.now c.loop-i-test.true c.text_at.ensures c.in_ok-take.ensures.taken)
    ∙ c.loop-i.invariant

pub returns-clause-read : goal.returns-clause-read
returns-clause-read c = sym (none_taken (recovery_of_reading c.loop-i.reading) _ (drop_all c.loop-i.i c.args.tokens.now c.loop-i-test.false)) ∙ c.loop-i.invariant
