use Rattle.std.specs.Prelude.{Err}
use Rattle.std.proofs.Common.{refl, rules, ◌≡◌}
use Rattle.ga_parser.specs.inner.Drafting.{parse_state_of_builder}
use Rattle.ga_parser.proofs.draft.read_requests_of_node_words.Goals as goal

pub returns-clause-asked : goal.returns-clause-asked
returns-clause-asked c = record {
  last = parse_state_of_builder c.in_ok-asked.field-0;
  asks = c.in_ok-asked.ensures;
  asked = refl;
  names = c.into_list.ensures;
  registers = refl;
}

pub returns-in_err-asked-clause-refused : goal.returns-in_err-asked-clause-refused
returns-in_err-asked-clause-refused c =
    let e : c.from_residual.result ≡ Err c.in_err-asked.field-0.0 = search rules in
    rw e c.in_err-asked.ensures
