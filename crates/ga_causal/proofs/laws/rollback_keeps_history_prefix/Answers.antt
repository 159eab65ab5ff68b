use Rattle.ga_causal.proofs.LocalHistories.{first_part, own_part_of, first_part_told}
use Rattle.ga_causal.proofs.laws.rollback_keeps_history_prefix.Goals as goal

pub returns-clause-first : goal.returns-clause-first
returns-clause-first c = first_part

pub returns-clause-own : goal.returns-clause-own
returns-clause-own c = own_part_of

pub returns-clause-told : goal.returns-clause-told
returns-clause-told c = first_part_told
