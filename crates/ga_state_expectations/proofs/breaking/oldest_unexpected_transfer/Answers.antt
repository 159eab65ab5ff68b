use Rattle.std.proofs.Common.{◌≡◌, ◌∙◌, ◌+◌, ◌-◌, ap, sym, arith, length, ℕ, Some}
use Rattle.std.specs.Prelude.{is_some, IsSome}
use Rattle.ga_event.specs.Apply.{replay}
use Rattle.ga_event.specs.Told.{made_event_at_place}
use Rattle.ga_lab.specs.Machine.{MachineState, earlier_state, machine_events_with_outcomes, backward_state}
use Rattle.ga_scheduler.specs.Words.{link_transfer_count, transfers_over_link_by_event}
use Rattle.ga_scheduler.specs.declared.condition.Condition.TheVariants.{PassesNthWord}
use Rattle.ga_scheduler.proofs.Newest.{whole_earlier, counted_back}
use Rattle.ga_scheduler.proofs.Backing.{back_before, told_before}
use Rattle.ga_scheduler.proofs.OldestEvents.{earlier_none}
use Rattle.ga_state_links.specs.declared.expectation.LinkExpectation.{LinkExpectation}
use Rattle.ga_state_expectations.specs.Breaking.{is_unexpected_transfer_at, oldest_unexpected_transfer}
use Rattle.ga_state_expectations.proofs.Breaches.{unexpected_at, one_back, none_left_back}
use Rattle.ga_state_expectations.proofs.breaking.oldest_unexpected_transfer.Goals as goal

pub loop-place-init : goal.loop-place-init
loop-place-init c =
    let s : MachineState = c.args.lab.now in
    let expected : LinkExpectation = c.args.expected.now in
    let e : c.counts-place.result.kept ≡ length s.kept = c.counts-place.ensures.kept in
    record {
      within = omega (arith, e);
      events = c.backward_reader-events.ensures ∙ ap (backward_state s) (sym e);
      words = ap (λ (z : ℕ). link_transfer_count (earlier_state s z) expected.from.number expected.to.number) e
          ∙ ap (λ (z : MachineState). link_transfer_count z expected.from.number expected.to.number) (whole_earlier s) ∙ sym c.count_transfers-words.ensures;
      same = earlier_none (oldest_unexpected_transfer expected s c.counts-place.result.kept) ∙ ap (oldest_unexpected_transfer expected s) e;
    }

pub loop-place-preserved : goal.loop-place-preserved
loop-place-preserved c =
    let s : MachineState = c.args.lab.now in
    let expected : LinkExpectation = c.args.expected.now in
    let m : ℕ = c.loop-place.place - 1 in
    let e : m + 1 ≡ c.loop-place.place = omega (arith, c.loop-place-test.true) in
    let et : c.back.new.self ≡ backward_state s m = back_before s c.loop-place.place _ _ c.loop-place.invariant.events c.in-Some.ensures.left in
    let some : IsSome (replay s.load s.kept) = ap is_some c.chip.ensures.replays in
    let told : made_event_at_place (machine_events_with_outcomes s) m ≡ Some c.in-Some.made =
    told_before s c.loop-place.place c.in-Some.made _ (omega (arith, c.loop-place-test.true)) c.loop-place.invariant.events c.in-Some.ensures.told in
    let count = λ (z : ℕ). link_transfer_count (earlier_state s z) expected.from.number expected.to.number in
    let more : count (m + 1) ≡ count m + transfers_over_link_by_event expected.from.number expected.to.number c.in-Some.made =
    counted_back (PassesNthWord expected.from expected.to 0) s m c.in-Some.made some told in
    let here : count (m + 1) ≡ c.loop-place.words = ap count e ∙ c.loop-place.invariant.words in
    let held : is_unexpected_transfer_at expected s m ≡ c.is_unexpected_transfer.result =
    unexpected_at expected s m c.loop-place.words c.in-Some.made c.is_unexpected_transfer.result told here c.is_unexpected_transfer.ensures in
    record {
      within = omega (arith, c.loop-place.invariant.within);
      events = et;
      words = omega (arith, more, here, c.words_before-words.ensures);
      same = rw c.earlier_place-oldest.ensures (one_back expected s c.loop-place.place m c.is_unexpected_transfer.result c.place_if-here.result c.loop-place.oldest (oldest_unexpected_transfer expected s (length s.kept)) e held c.place_if-here.ensures c.loop-place.invariant.same);
    }

pub words_before-words-requires : goal.words_before-words-requires
words_before-words-requires c =
    let s : MachineState = c.args.lab.now in
    let expected : LinkExpectation = c.args.expected.now in
    let m : ℕ = c.loop-place.place - 1 in
    let e : m + 1 ≡ c.loop-place.place = omega (arith, c.loop-place-test.true) in
    let some : IsSome (replay s.load s.kept) = ap is_some c.chip.ensures.replays in
    let told : made_event_at_place (machine_events_with_outcomes s) m ≡ Some c.in-Some.made =
    told_before s c.loop-place.place c.in-Some.made _ (omega (arith, c.loop-place-test.true)) c.loop-place.invariant.events c.in-Some.ensures.told in
    let count = λ (z : ℕ). link_transfer_count (earlier_state s z) expected.from.number expected.to.number in
    let more : count (m + 1) ≡ count m + transfers_over_link_by_event expected.from.number expected.to.number c.in-Some.made =
    counted_back (PassesNthWord expected.from expected.to 0) s m c.in-Some.made some told in
    let here : count (m + 1) ≡ c.loop-place.words = ap count e ∙ c.loop-place.invariant.words in
    omega (arith, more, here)

pub returns : goal.returns
returns c =
    none_left_back c.args.expected.now c.args.lab.now c.loop-place.place c.loop-place.oldest (oldest_unexpected_transfer c.args.expected.now c.args.lab.now (length c.args.lab.now.kept)) c.loop-place-test.false c.loop-place.invariant.same
