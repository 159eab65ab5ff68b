use Rattle.ga_explorer.specs.Commands.{text_query_name, text_query_text}
use Rattle.ga_explorer.specs.declared.commands.Query.TheVariants as query
use Rattle.ga_explorer_json.specs.Words.{link_words_answer_json}
use Rattle.ga_explorer_json.specs.Writes.{cell_writes_answer_json}
use Rattle.ga_explorer_json.specs.Around.{steps_around_answer_json}
use Rattle.ga_explorer_json.specs.Because.{decisions_answer_json}
use Rattle.ga_explorer_json.specs.Texts.{text_answer_json}
use Rattle.ga_explorer_json.proofs.Answering.{line_is}
use Rattle.ga_explorer_json.proofs.answers.answer_query_for_json.Goals as goal

pub returns-in-Effects-clause-said : goal.returns-in-Effects-clause-said
returns-in-Effects-clause-said g c = record {
  meant = query.Effects c.in-Effects.node c.in-Effects.which;
  is = c.in-Effects.is;
  said = rw (← c.resolve-step.ensures) c.write_rollback_effects_json.ensures.said;
}

pub returns-in-Words-clause-said : goal.returns-in-Words-clause-said
returns-in-Words-clause-said g c = record {
  meant = query.Words c.in-Words.from c.in-Words.to;
  is = c.in-Words.is;
  said = line_is g.W.Write.contents c.write_link_words_json.result c.args.writer.now c.write_link_words_json.new.writer (link_words_answer_json c.args.lab.now c.in-Words.from c.in-Words.to) c.write_link_words_json.ensures;
}

pub returns-in-Writes-clause-said : goal.returns-in-Writes-clause-said
returns-in-Writes-clause-said g c = record {
  meant = query.Writes c.in-Writes.node c.in-Writes.address;
  is = c.in-Writes.is;
  said = line_is g.W.Write.contents c.write_cell_writes_json.result c.args.writer.now c.write_cell_writes_json.new.writer (cell_writes_answer_json c.args.lab.now c.in-Writes.node c.in-Writes.address) c.write_cell_writes_json.ensures;
}

pub returns-in-StepsAround-clause-said : goal.returns-in-StepsAround-clause-said
returns-in-StepsAround-clause-said g c = record {
  meant = query.StepsAround c.in-StepsAround.node c.in-StepsAround.which c.in-StepsAround.most;
  is = c.in-StepsAround.is;
  said = rw (← c.resolve-step-in-StepsAround.ensures) (line_is g.W.Write.contents c.write_steps_around_json.result c.args.writer.now c.write_steps_around_json.new.writer (steps_around_answer_json c.args.notes.now c.args.lab.now c.in-StepsAround.node c.resolve-step-in-StepsAround.result c.in-StepsAround.most) c.write_steps_around_json.ensures);
}

pub returns-in-Whence-clause-said : goal.returns-in-Whence-clause-said
returns-in-Whence-clause-said g c = record {
  meant = query.Whence c.in-Whence.node c.in-Whence.which c.in-Whence.value c.in-Whence.first;
  is = c.in-Whence.is;
  said = rw (← c.resolve-step-in-Whence.ensures, ← c.part_of_value.ensures.value) c.write_provenance_json.ensures;
}

pub returns-in-Because-clause-said : goal.returns-in-Because-clause-said
returns-in-Because-clause-said g c = record {
  meant = query.Because c.in-Because.node c.in-Because.which c.in-Because.most;
  is = c.in-Because.is;
  said = rw (← c.resolve-step-in-Because.ensures) (line_is g.W.Write.contents c.write_decisions_json.result c.args.writer.now c.write_decisions_json.new.writer (decisions_answer_json c.args.notes.now c.args.lab.now c.in-Because.node c.resolve-step-in-Because.result c.in-Because.most) c.write_decisions_json.ensures);
}

pub returns-in-Text-clause-said : goal.returns-in-Text-clause-said
returns-in-Text-clause-said g c =
    let asked = c.in-Text.query in record {
      meant = query.Text asked;
      is = c.in-Text.is;
      said = line_is g.W.Write.contents c.write_query_text.result c.args.writer.now c.write_query_text.new.writer (text_answer_json (text_query_name asked) (text_query_text c.args.lab.now asked)) c.write_query_text.ensures;
    }
