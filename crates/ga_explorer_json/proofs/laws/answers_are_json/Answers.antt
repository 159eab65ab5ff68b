use Rattle.ga_explorer_json.proofs.Utf8Answers.{line_answer}
use Rattle.ga_explorer_json.proofs.laws.answers_are_json.Goals as goal

pub returns : goal.returns
returns c = line_answer
