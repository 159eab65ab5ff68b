use Rattle.std.proofs.Common.{◌≡◌, ◌∙◌, ◌++◌, List, ap, sym, append-nil, map}
use Rattle.std.proofs.lemmas.List.{drop_all}
use Rattle.std.proofs.lemmas.List.Filters.{dedup_is}
use Rattle.std.specs.List.{dedup}
use Rattle.ga_parser.specs.declared.fault.SourceFault.{SourceFault}
use Rattle.ga_parser.specs.contracts.fault.SourceFaultPartialEq.TheImpl.{ghosts}
use Rattle.ga_source.specs.Recovery.{fault_at_line_of_word}
use Rattle.ga_source.proofs.numbered_words.faults_on_lines_of_words.Goals as goal

pub returns : goal.returns
returns c =
    let all = c.loop-fault.all.items in
    let words = c.args.words.now in
    let whole : all ≡ map (fault_at_line_of_word words) c.args.faults.now =
    sym (append-nil all) ∙ (ap (λ (rest : List SourceFault). all ++ map (fault_at_line_of_word words) rest) (sym (drop_all c.loop-fault.fault-index c.args.faults.now c.loop-fault-test.false)) ∙ c.loop-fault.invariant) in
    dedup_is _ _ _ c.dedup.ensures.filtered ∙ ap (dedup ghosts.eq) whole
