use Rattle.std.proofs.Common.{◌∙◌, sym, ap}
use Rattle.std.proofs.lemmas.List.{drop_all}
use Rattle.ga_parser.specs.Constants.{end_resolution}
use Rattle.ga_parser.specs.inner.Resolving.{resolution_of_parser}
use Rattle.ga_parser.proofs.Resolving.{one_resolved, none_resolved}
use Rattle.ga_parser.proofs.constants.resolve_constants.Goals as goal

pub loop-i-preserved : goal.loop-i-preserved
loop-i-preserved c =
    sym (one_resolved (resolution_of_parser c.loop-i.all) (resolution_of_parser c.take.new.self) c.args.words.now c.loop-i.i _ c.text_at.result.now c.loop-i-test.true c.text_at.ensures c.in_ok-take.ensures)
    ∙ c.loop-i.invariant

pub returns : goal.returns
returns c =
    c.in_ok-end.ensures
    ∙ ap end_resolution (sym (none_resolved (resolution_of_parser c.loop-i.all) _ (drop_all c.loop-i.i c.args.words.now c.loop-i-test.false)) ∙ c.loop-i.invariant)
