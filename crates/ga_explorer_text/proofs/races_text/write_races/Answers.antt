use Rattle.std.proofs.Common.{rules}
use Rattle.ga_explorer_text.proofs.Saying.{races_found, races_refused}
use Rattle.ga_explorer_text.proofs.races_text.write_races.Goals as goal

pub returns-in-Ok-clause-said : goal.returns-in-Ok-clause-said
returns-in-Ok-clause-said g c = (
  search rules,
  λ before said h.
      let done = c.say_found.ensures.1 before said h in (
        done.0,
        races_found c.args.lab.now c.args.only c.in-Ok.races.list.items c.in-Ok.races.readings.items c.in-Ok.races.looks c.in-Ok.races.quiet done.0
            c.in-Ok.ensures.list c.in-Ok.ensures.readings c.in-Ok.ensures.none_missed c.in-Ok.ensures.looks c.in-Ok.ensures.quiet done.1,
        done.2,
      ),
)

pub returns-in-Err-clause-said : goal.returns-in-Err-clause-said
returns-in-Err-clause-said g c = (
  search rules,
  λ before said h. (
    c.advised_refusal_text.result.now,
    races_refused c.args.lab.now c.args.only c.in-Err.fault c.advised_refusal_text.result.now c.in-Err.ensures.err c.advised_refusal_text.ensures.text,
    c.write_text.ensures.1 before said h,
  ),
)
