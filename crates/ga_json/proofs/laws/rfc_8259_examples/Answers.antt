use Rattle.ga_json.proofs.Grammar as grammar
use Rattle.ga_json.proofs.laws.rfc_8259_examples.Goals as goal

pub returns : goal.returns
returns c = record {
  clef = grammar.clef;
  reverse_solidus = grammar.reverse_solidus;
  ids = grammar.ids;
  hello = grammar.hello;
  answer = grammar.answer;
  truth = grammar.truth;
}
