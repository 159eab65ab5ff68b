use Rattle.std.proofs.Common.{◌∙◌, ◌<◌, ℕ, length, map, All, sym, ap, subst}
use Rattle.std.specs.List.Sorted.{IsStrictlyIncreasing}
use Rattle.ga_event.specs.Told.{made_event_at_place}
use Rattle.ga_journal.specs.Events.{kept_events_with_outcomes}
use Rattle.ga_lab.specs.Machine.{machine_events_with_looks}
use Rattle.ga_lab.proofs.Explaining.{places, chain_rises, chain_within, kept_long, told_links}
use Rattle.ga_lab.proofs.lab.Lab.tell.Goals as goal

pub made_events_at-requires-clause-rise : goal.made_events_at-requires-clause-rise
made_events_at-requires-clause-rise c =
    subst (λ z. IsStrictlyIncreasing z) (sym (c.as_slice.ensures.value ∙ c.in-Ok.ensures)) (chain_rises (machine_events_with_looks c.args.self.now) c.args.chain.now c.requires)

pub made_events_at-requires-clause-within : goal.made_events_at-requires-clause-within
made_events_at-requires-clause-within c =
    let book = c.self.inside.chronicle.journal in
    subst (λ z. All (λ (place : ℕ). place < length (kept_events_with_outcomes book)) z) (sym (c.as_slice.ensures.value ∙ c.in-Ok.ensures))
    (subst (λ (n : ℕ). All (λ (place : ℕ). place < n) (places c.args.chain.now)) (kept_long c.self.inside.chip book c.args.self.now c.self.invariant.tied c.self.view_is)
    (chain_within (machine_events_with_looks c.args.self.now) c.args.chain.now c.requires))

pub returns-in-Ok-made_events_at-clause-ok : goal.returns-in-Ok-made_events_at-clause-ok
returns-in-Ok-made_events_at-clause-ok c =
    let book = c.self.inside.chronicle.journal in
    c.in-Ok-made_events_at.ensures.ok ∙ ap (λ z. map (made_event_at_place (kept_events_with_outcomes book)) z) (c.as_slice.ensures.value ∙ c.in-Ok.ensures)
    ∙ told_links c.self.inside.chip book c.args.self.now c.args.chain.now c.self.invariant.tied c.self.view_is
