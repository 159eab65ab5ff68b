use Rattle.std.proofs.Common.{[], ◌+◌, take, refl, sym, subst, ◌≡◌, ℕ, ◌<◌, List, ◌∷◌, ◌++◌, length, get_or, ◌∙◌, ap}
use Rattle.ga_grid.specs.Chip.{records_of_chip}
use Rattle.ga_wasm.specs.inner.{MakesNextEventsOfNodes, none, MakesNextEventOfNode, more}
use Rattle.std.proofs.lemmas.List.{take_more}
use Rattle.ga_node.specs.Record.{NodeRecord}
use Rattle.ga_event.specs.declared.event.EventWithLook.{EventWithLook}
use Rattle.ga_wasm.proofs.depend.make_all.Goals as goal

-- One more event, after those of the nodes so far.
made_more : (load : List NodeRecord) (nodes : List ℕ) (at n : ℕ) (causes : List EventWithLook) (chip after : List NodeRecord) (cause : EventWithLook)
    → at < length nodes → get_or nodes at 0 ≡ n → MakesNextEventsOfNodes load (take at nodes) causes chip → MakesNextEventOfNode chip n cause after
    → MakesNextEventsOfNodes load (take (at + 1) nodes) (causes ++ cause ∷ []) after
made_more load nodes at n causes chip after cause l e all one =
    subst (λ z. MakesNextEventsOfNodes load z (causes ++ cause ∷ []) after)
    (sym (take_more nodes at 0 l ∙ ap (λ z. take at nodes ++ z ∷ []) e))
    (more all one)

pub steps-init : goal.steps-init
steps-init c =
    subst (λ z. MakesNextEventsOfNodes (records_of_chip c.args.chip.now) [] z (records_of_chip c.args.chip.now)) (sym c.new-causes.ensures.items) none

pub steps-preserved : goal.steps-preserved
steps-preserved c =
    subst (λ z. MakesNextEventsOfNodes (records_of_chip c.args.chip.now) (take (c.steps.at + 1) c.args.nodes.now) z (records_of_chip c.make.new.chip)) (sym c.in-Ok.ensures.items)
    (made_more (records_of_chip c.args.chip.now) c.args.nodes.now c.steps.at _ c.steps.causes.items (records_of_chip c.steps.chip) (records_of_chip c.make.new.chip) c.in_ok-cause.cause
    c.steps-test.true refl c.steps.invariant c.in_ok-cause.ensures)
