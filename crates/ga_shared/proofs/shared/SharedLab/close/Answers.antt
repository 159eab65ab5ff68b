use Rattle.std.proofs.Common.{◌<◌, refl, sym, ◌∙◌, ap, subst, true≢false}
use Rattle.ga_grid.specs.Chip.{records_of_chip}
use Rattle.ga_shared.specs.Log.{LockedState, OpeningParameters}
use Rattle.ga_shared.proofs.Logs.{AreAllWorkerSeats-along, HasMatchingReceipts-along, HasConsistentLog-legal}
use Rattle.ga_shared.proofs.shared.SharedLab.close.Goals as goal

pub returns-then-not-are_seated : goal.returns-then-not-are_seated
returns-then-not-are_seated g c = (
  (λ seated. true≢false (sym (c.are_seated.ensures.1 (AreAllWorkerSeats-along c.args.self.workers c.self.inside.workers c.args.seats.items c.as_slice.result.now (ap (λ o. o.workers) (sym c.self.view_is)) (sym c.as_slice.ensures.value) seated)) ∙ c.if-not-are_seated.true)),
  refl,
  refl,
)

pub returns-then-not-is_equal_to : goal.returns-then-not-is_equal_to
returns-then-not-is_equal_to g c =
    let was = c.lab.inside in
    let desk : LockedState = record { load = records_of_chip was.load; lab = was.lab; log = was.log.items; calls = was.book.total } in (
      AreAllWorkerSeats-along c.self.inside.workers c.args.self.workers c.as_slice.result.now c.args.seats.items (ap (λ o. o.workers) c.self.view_is) c.as_slice.ensures.value (c.are_seated.ensures.0 c.if-not-are_seated.false),
      record { legal = HasConsistentLog-legal desk c.lab.invariant; calls = sym c.lab.invariant.calls ∙ c.count_up.ensures; made = c.lab.invariant.made },
      (λ opened. true≢false (sym (c.is_opened_on-is_equal_to.ensures.1 (c.lab.invariant.load ∙ opened.0 ∙ ap (λ o. o.load) (sym c.self.view_is), opened.1 ∙ ap (λ o. o.limit) (sym c.self.view_is))) ∙ c.if-not-is_equal_to.true)),
    )

pub returns-in-None : goal.returns-in-None
returns-in-None g c =
    let was = c.lab.inside in
    let desk : LockedState = record { load = records_of_chip was.load; lab = was.lab; log = was.log.items; calls = was.book.total } in
    let same = c.is_opened_on-is_equal_to.ensures.0 c.if-not-is_equal_to.false in (
      AreAllWorkerSeats-along c.self.inside.workers c.args.self.workers c.as_slice.result.now c.args.seats.items (ap (λ o. o.workers) c.self.view_is) c.as_slice.ensures.value (c.are_seated.ensures.0 c.if-not-are_seated.false),
      record { legal = HasConsistentLog-legal desk c.lab.invariant; calls = sym c.lab.invariant.calls ∙ c.count_up.ensures; made = c.lab.invariant.made },
      (sym c.lab.invariant.load ∙ same.0 ∙ ap (λ o. o.load) c.self.view_is, same.1 ∙ ap (λ o. o.limit) c.self.view_is),
      λ w below. HasMatchingReceipts-along c.as_slice-2.result.now was.log.items c.as_slice-3.result.now c.args.seats.items w c.as_slice-2.ensures.value c.as_slice-3.ensures.value (c.in-None.ensures.none w (subst (λ (o : OpeningParameters). w < o.workers) (sym c.self.view_is) below)),
    )

pub returns : goal.returns
returns g c =
    let was = c.lab.inside in
    let desk : LockedState = record { load = records_of_chip was.load; lab = was.lab; log = was.log.items; calls = was.book.total } in
    let same = c.is_opened_on-is_equal_to.ensures.0 c.if-not-is_equal_to.false in
    let wrong = c.in-Some.ensures.some in (
      AreAllWorkerSeats-along c.self.inside.workers c.args.self.workers c.as_slice.result.now c.args.seats.items (ap (λ o. o.workers) c.self.view_is) c.as_slice.ensures.value (c.are_seated.ensures.0 c.if-not-are_seated.false),
      record { legal = HasConsistentLog-legal desk c.lab.invariant; calls = sym c.lab.invariant.calls ∙ c.count_up.ensures; made = c.lab.invariant.made },
      (sym c.lab.invariant.load ∙ same.0 ∙ ap (λ o. o.load) c.self.view_is, same.1 ∙ ap (λ o. o.limit) c.self.view_is),
      subst (λ (o : OpeningParameters). c.in-Some.worker < o.workers) c.self.view_is wrong.0,
      (
        (λ agrees. wrong.1.0 (HasMatchingReceipts-along was.log.items c.as_slice-2.result.now c.args.seats.items c.as_slice-3.result.now c.in-Some.worker (sym c.as_slice-2.ensures.value) (sym c.as_slice-3.ensures.value) agrees)),
        λ v below. HasMatchingReceipts-along c.as_slice-2.result.now was.log.items c.as_slice-3.result.now c.args.seats.items v c.as_slice-2.ensures.value c.as_slice-3.ensures.value (wrong.1.1 v below),
      ),
    )
