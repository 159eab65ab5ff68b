use Rattle.std.proofs.Common.{rules, sym, ap, subst}
use Rattle.ga_explorer.specs.Changes.{change_result_text}
use Rattle.ga_explorer.specs.Commands.{AnswersQuery}
use Rattle.ga_explorer.specs.Opening.{explorer_state}
use Rattle.ga_explorer.specs.declared.commands.ExplorerCommand.TheVariants as command
use Rattle.ga_explorer.proofs.Done.{answered, changed}
use Rattle.ga_explorer.proofs.explorer.explored.Goals as goal

pub returns-in-Change : goal.returns-in-Change
returns-in-Change g c = (
  search rules,
  λ before said h. (
    change_result_text c.carry_out.result,
    changed (explorer_state c.args.lab.now c.args.notes.now) c.args.asked c.in-Change.change c.carry_out.result c.carry_out.new.lab c.in-Change.is c.carry_out.ensures,
    c.write_change_result.ensures.1 before said h,
  ),
)

pub returns-in-AnswerQuery : goal.returns-in-AnswerQuery
returns-in-AnswerQuery g c = (
  search rules,
  λ before said h.
      let old = explorer_state c.args.lab.now c.args.notes.now in
      let new = explorer_state c.answer_query.new.lab c.args.notes.now in
      let asked = c.in-AnswerQuery.question in
      let done = c.answer_query.ensures.said.said.1 before said h in (
        done.0,
        answered old new c.args.asked (command.AnswerQuery asked) done.0 c.in-AnswerQuery.is
            (subst (λ z. AnswersQuery old z done.0) (sym c.answer_query.ensures.said.is) done.1, ap (λ s. explorer_state s c.args.notes.now) c.answer_query.ensures.same),
        done.2,
      ),
)
