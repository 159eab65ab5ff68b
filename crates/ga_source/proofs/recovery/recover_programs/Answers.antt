use Rattle.std.proofs.Common.{rules, ◌≡◌, ◌∙◌, List, ap, subst}
use Rattle.std.proofs.lemmas.List.Sorted.{IsNonDecreasingBy-from_sort_by_key}
use Rattle.ga_parser.specs.declared.fault.SourceFault.{SourceFault}
use Rattle.ga_parser.specs.Saying.{TokenContent, token_contents}
use Rattle.ga_source.specs.Recovery.{tokens_with_word_numbers, no_nodes_begun, AreFaultsOfNodes}
use Rattle.ga_source.proofs.Recovering.{all_found}
use Rattle.ga_source.proofs.recovery.recover_programs.Goals as goal

pub returns-clause-faults : goal.returns-clause-faults
returns-clause-faults c =
    let found = all_found c.as_slice-all.result.now c.loop-start.begun c.loop-start.start c.loop-start.faults.items c.loop-start-test.false c.loop-start.invariant.found in
    let is : token_contents c.as_slice-all.result.now ≡ token_contents (tokens_with_word_numbers 1 c.args.words.now) = ap token_contents (c.as_slice-all.ensures.value ∙ c.in_ok-numbered.ensures) in
    record {
      found = c.loop-start.faults.items;
      nodes = subst (λ (l : List TokenContent). AreFaultsOfNodes no_nodes_begun l c.loop-start.faults.items) is found;
      same = c.sort_by_key.ensures.permutation;
      order = IsNonDecreasingBy-from_sort_by_key (λ (fault : SourceFault). fault.line) _ c.in_ok-sort_by_key.ensures.sorted (λ a r q k. search rules);
    }
