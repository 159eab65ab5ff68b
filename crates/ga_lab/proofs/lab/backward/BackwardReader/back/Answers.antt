use Rattle.std.proofs.Common.{◌≡◌, ◌-◌, ◌↔◌, sym, ◌∙◌, ap, subst}
use Rattle.std.specs.Prelude.{IsNone}
use Rattle.ga_journal.specs.Histories.{BackwardEventsModel}
use Rattle.ga_lab.specs.Machine.{BackwardState, made_event_before}
use Rattle.ga_lab.specs.inner.LabInvariant.{IsLab}
use Rattle.ga_lab.specs.inner.Walking.{backward_state_of_journal}
use Rattle.ga_lab.proofs.Replays.{told_is}
use Rattle.ga_lab.proofs.lab.backward.BackwardReader.back.Goals as goal

pub invariant_of-self : goal.invariant_of-self
invariant_of-self c = subst (λ (w : BackwardEventsModel). IsLab c.self.inside.chip.now w.book) (sym c.back.ensures.left) c.self.invariant

pub returns-clause-told : goal.returns-clause-told
returns-clause-told c =
    told_is c.self.inside.chip.now c.self.inside.walk.book c.self.inside.walk.place c.back.result c.self.invariant.tied c.back.ensures.some c.back.ensures.none
    ∙ ap (λ (t : BackwardState). made_event_before t.machine t.place) c.self.view_is

pub returns-clause-none : goal.returns-clause-none
returns-clause-none c = subst (λ (t : BackwardState). IsNone c.back.result ↔ (t.place ≡ 0)) c.self.view_is c.back.ensures.none

pub returns-clause-left : goal.returns-clause-left
returns-clause-left c =
    ap (λ (w : BackwardEventsModel). backward_state_of_journal c.self.inside.chip.now w) c.back.ensures.left
    ∙ ap (λ (t : BackwardState). record t { place = t.place - 1 }) c.self.view_is
