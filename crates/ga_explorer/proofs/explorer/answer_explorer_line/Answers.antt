use Rattle.std.proofs.Common.{rules, ◌++◌, refl}
use Rattle.ga_text.proofs.WriteLemmas.{truncated_here}
use Rattle.ga_explorer.specs.Opening.{explorer_state}
use Rattle.ga_explorer.proofs.LineAnswers.{explored_line, explored_err, debugged_turn}
use Rattle.ga_explorer.proofs.explorer.answer_explorer_line.Goals as goal

pub returns-in_err-explored-in-Some : goal.returns-in_err-explored-in-Some
returns-in_err-explored-in-Some g c = (
  search rules,
  λ before said h.
      let old = explorer_state c.args.lab.now c.args.notes.now in
      let new = explorer_state c.explored.new.lab c.args.notes.now in
      let done = c.in_err-explored-in-Some.ensures.1 before said h in (
        done.0,
        explored_err old c.args.line.now new c.from_residual.result done.0 c.from_residual.ensures.0
            (explored_line old c.args.line.now c.in-Some.asked done.0 new c.in-Some.ensures.some.0 c.in-Some.ensures.some.1 done.1),
        truncated_here c.from_residual.result _ before (said ++ done.0) _ c.from_residual.ensures.0 done.2,
      ),
)

pub returns-in_ok-explored-in-Some : goal.returns-in_ok-explored-in-Some
returns-in_ok-explored-in-Some g c = (
  search rules,
  λ before said h.
      let old = explorer_state c.args.lab.now c.args.notes.now in
      let new = explorer_state c.explored.new.lab c.args.notes.now in
      let done = c.in_ok-explored-in-Some.ensures.1 before said h in (
        done.0,
        explored_line old c.args.line.now c.in-Some.asked done.0 new c.in-Some.ensures.some.0 c.in-Some.ensures.some.1 done.1,
        done.2,
      ),
)

pub returns-in-None : goal.returns-in-None
returns-in-None g c = (
  search rules,
  λ before said h.
      let old = explorer_state c.args.lab.now c.args.notes.now in
      let new = explorer_state c.answer_other.new.lab c.args.notes.now in
      let done = c.answer_other.ensures.1 before said h in (
        done.0,
        debugged_turn old c.args.line.now new c.answer_other.result done.0 c.in-None.ensures.none refl done.1,
        done.2,
      ),
)
