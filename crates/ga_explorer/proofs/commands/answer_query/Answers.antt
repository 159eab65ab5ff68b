use Rattle.ga_explorer.specs.declared.commands.Query.TheVariants as question
use Rattle.ga_explorer.proofs.commands.answer_query.Goals as goal

pub returns-in-Effects-clause-said : goal.returns-in-Effects-clause-said
returns-in-Effects-clause-said g c = record {
  meant = question.Effects c.in-Effects.node c.in-Effects.which;
  is = c.in-Effects.is;
  said = rw (← c.resolve-step.ensures) c.write_rollback_effects.ensures.said;
}

pub returns-in-StepsAround-clause-said : goal.returns-in-StepsAround-clause-said
returns-in-StepsAround-clause-said g c = record {
  meant = question.StepsAround c.in-StepsAround.node c.in-StepsAround.which c.in-StepsAround.most;
  is = c.in-StepsAround.is;
  said = rw (← c.resolve-step-in-StepsAround.ensures) c.write_steps_around.ensures;
}

pub returns-in-Whence-clause-said : goal.returns-in-Whence-clause-said
returns-in-Whence-clause-said g c = record {
  meant = question.Whence c.in-Whence.node c.in-Whence.which c.in-Whence.value c.in-Whence.first;
  is = c.in-Whence.is;
  said = rw (← c.resolve-step-in-Whence.ensures, ← c.part_of_value.ensures.value) c.write_provenance_answer.ensures;
}

pub returns-in-Because-clause-said : goal.returns-in-Because-clause-said
returns-in-Because-clause-said g c = record {
  meant = question.Because c.in-Because.node c.in-Because.which c.in-Because.most;
  is = c.in-Because.is;
  said = rw (← c.resolve-step-in-Because.ensures) c.write_decisions_answer.ensures;
}
