use Rattle.std.proofs.Common.{refl}
use Rattle.ga_parser.specs.declared.item.AssemblyItem.TheVariants.{JumpToEarlierLabel, JumpToLaterLabel}
use Rattle.ga_source.proofs.Laying.{jump_item}
use Rattle.ga_source.proofs.loading.with_last.Goals as goal

pub returns-in-JumpToEarlierLabel-clause-has : goal.returns-in-JumpToEarlierLabel-clause-has
returns-in-JumpToEarlierLabel-clause-has c = jump_item c.args.labels.now c.with_jump.result c.args.word c.args.slot c.in-JumpToEarlierLabel.label c.in-JumpToEarlierLabel.field-0 c.args.last (JumpToEarlierLabel c.in-JumpToEarlierLabel.field-0 c.in-JumpToEarlierLabel.label) c.in-JumpToEarlierLabel.is refl
    (λ found op jump_leads_to_address. (op, jump_leads_to_address)) c.with_jump.ensures.jump_leads_to_address c.with_jump.ensures.before

pub returns-in-JumpToLaterLabel-clause-has : goal.returns-in-JumpToLaterLabel-clause-has
returns-in-JumpToLaterLabel-clause-has c = jump_item c.args.labels.now c.with_jump-in-JumpToLaterLabel.result c.args.word c.args.slot c.in-JumpToLaterLabel.label c.in-JumpToLaterLabel.field-0 c.args.last (JumpToLaterLabel c.in-JumpToLaterLabel.field-0 c.in-JumpToLaterLabel.label) c.in-JumpToLaterLabel.is refl
    (λ found op jump_leads_to_address. (op, jump_leads_to_address)) c.with_jump-in-JumpToLaterLabel.ensures.jump_leads_to_address c.with_jump-in-JumpToLaterLabel.ensures.before
