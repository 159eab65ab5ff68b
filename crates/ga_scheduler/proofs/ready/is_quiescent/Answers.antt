use Rattle.std.proofs.Common.{◌≡◌, ◌∙◌, ℕ, ◌+◌, ◌<◌, true, false, refl, sym, ap, inl, inr, arith, true≢false}
use Rattle.std.proofs.lemmas.Bool.{cases_eq}
use Rattle.std.specs.Prelude.{is_ok}
use Rattle.ga_grid.specs.Chip.{records_of_chip}
use Rattle.ga_event.specs.Next.{next_event_of_node}
use Rattle.ga_races.specs.Orders.{node_has_event}
use Rattle.ga_races.proofs.Ready.{can_go_is}
use Rattle.ga_scheduler.proofs.ready.is_quiescent.Goals as goal

pub returns-then-is_ok : goal.returns-then-is_ok
returns-then-is_ok c =
    let can : is_ok (next_event_of_node (records_of_chip c.args.chip.now) c.new.result) ≡ true = sym (ap is_ok c.next_event.ensures) ∙ sym c.is_ok.ensures.value ∙ c.if-is_ok.true in
    let has : node_has_event (records_of_chip c.args.chip.now) c.new.result.number ≡ true = can_go_is (records_of_chip c.args.chip.now) c.new.result ∙ can in
    (λ f. absurd (true≢false (sym f)), λ quiet. absurd (true≢false (sym has ∙ quiet c.new.result.number c.new.result.in_range)))

pub loop-number-preserved : goal.loop-number-preserved
loop-number-preserved c =
    let can : is_ok (next_event_of_node (records_of_chip c.args.chip.now) c.new.result) ≡ false = sym (ap is_ok c.next_event.ensures) ∙ sym c.is_ok.ensures.value ∙ c.if-is_ok.false in
    let has : node_has_event (records_of_chip c.args.chip.now) c.new.result.number ≡ false = can_go_is (records_of_chip c.args.chip.now) c.new.result ∙ can in
    λ n l. elim (cases_eq n c.loop-number.number) [
      | inl q ↦ ap (node_has_event (records_of_chip c.args.chip.now)) (q ∙ sym c.new.ensures) ∙ has
      | inr ne ↦ c.loop-number.invariant n (omega (arith, l, ne))
    ]

pub returns : goal.returns
returns c = (λ t n l. c.loop-number.invariant n (omega (arith, l)), λ quiet. refl)
