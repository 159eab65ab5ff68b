use Rattle.std.proofs.Common.{◌∙◌, ℕ, suc, List, [], ◌++◌, Some, None, refl, sym, ap, subst, inl}
use Rattle.std.proofs.lemmas.List.{append-nil}
use Rattle.ga_dap_protocol.specs.Sent.{OutboxContent}
use Rattle.ga_dap.specs.Client.{ServesIterations, initial_server_state}
use Rattle.ga_dap.specs.declared.session.Session.{Session}
use Rattle.ga_dap.specs.inner.Knowing.{AreExpectationsOfSessionKnown}
use Rattle.ga_dap.specs.inner.Turning.{server_state_of_parts}
use Rattle.ga_dap.proofs.Serves.{begins_so, serves_on, ends_so, pends, all_sent, written_all}
use Rattle.ga_dap.proofs.serving.serve_client.Goals as goal

pub serving-init : goal.serving-init
serving-init g c = record {
  sent = ap (λ (z : OutboxContent). z.bytes) c.new-out.ensures;
  known = subst (λ (z : Session). AreExpectationsOfSessionKnown z None) (sym c.new-session.ensures) tt;
  serves = λ left before known held. (
    left,
    [],
    0,
    known,
    held ∙ ap (λ (t : List ℕ). Some t) (sym (append-nil before)),
    (refl, begins_so c.args.sources.now c.args.arrivals.now c.new-session.result c.new-out.result c.new-inbox.result left c.new-session.ensures c.new-out.ensures c.new-inbox.ensures),
  );
}

pub serving-preserved : goal.serving-preserved
serving-preserved g c = record {
  sent = ap (λ (z : OutboxContent). z.bytes) c.in-Ok.ensures.sent;
  known = c.in-On.ensures.known;
  serves = λ left before known held.
      let inv = c.serving.invariant.serves left before known held in
      let made = c.in-On.ensures.turn inv.0 inv.3 in
      let told = c.in-Ok.ensures.said before (inv.1 ++ c.turn.new.out.bytes) (pends _ before inv.1 c.turn.new.out.bytes inv.4) in
      let more = serves_on g.S.ProgramFiles.gives g.A.PendingInput.tells (initial_server_state c.args.sources.now c.args.arrivals.now left) inv.2 inv.1 _ c.turn.new.out.bytes _ inv.5 c.if-session.false made.2 in (
        made.0,
        inv.1 ++ c.turn.new.out.bytes,
        suc inv.2,
        made.1,
        all_sent _ before (inv.1 ++ c.turn.new.out.bytes) told,
        let P : ℕ → Type 0 = λ seq. ServesIterations g.S.ProgramFiles.gives g.A.PendingInput.tells (initial_server_state c.args.sources.now c.args.arrivals.now left) (suc inv.2) (inv.1 ++ c.turn.new.out.bytes)
            (server_state_of_parts c.turn.new.sources c.turn.new.arrivals c.turn.new.session seq c.turn.new.inbox made.0) in
            subst P (sym (ap (λ (z : OutboxContent). z.seq) c.in-Ok.ensures.sent)) more,
      );
}

pub returns-then-session : goal.returns-then-session
returns-then-session g c = λ left before known held.
    let inv = c.serving.invariant.serves left before known held in (
      inv.0,
      inv.1,
      inv.3,
      inv.4,
      record {
        count = inv.2;
        said = inv.1;
        last = server_state_of_parts c.serving.sources c.serving.arrivals c.serving.session c.serving.out.seq c.serving.inbox inv.0;
        read = c.serving.inbox;
        serves = inv.5;
        ends = inl c.if-session.true;
        left = refl;
        out = refl;
      },
    )

pub returns-in-End : goal.returns-in-End
returns-in-End g c = λ left before known held.
    let inv = c.serving.invariant.serves left before known held in
    let made = c.in-End.ensures.turn inv.0 inv.3 in (
      made.0,
      inv.1,
      made.1,
      inv.4,
      record {
        count = inv.2;
        said = inv.1;
        last = server_state_of_parts c.serving.sources c.serving.arrivals c.serving.session c.serving.out.seq c.serving.inbox inv.0;
        read = made.2.1;
        serves = inv.5;
        ends = ends_so (server_state_of_parts c.serving.sources c.serving.arrivals c.serving.session c.serving.out.seq c.serving.inbox inv.0) c.in-End.end c.if-session.false made.2.0;
        left = made.2.2;
        out = written_all c.in-End.end inv.1;
      },
    )

pub returns-in-Err : goal.returns-in-Err
returns-in-Err g c = λ left before known held.
    let inv = c.serving.invariant.serves left before known held in
    let made = c.in-On.ensures.turn inv.0 inv.3 in
    let cut = c.in-Err.ensures.said before (inv.1 ++ c.turn.new.out.bytes) (pends _ before inv.1 c.turn.new.out.bytes inv.4) in
    let more = serves_on g.S.ProgramFiles.gives g.A.PendingInput.tells (initial_server_state c.args.sources.now c.args.arrivals.now left) inv.2 inv.1 _ c.turn.new.out.bytes _ inv.5 c.if-session.false made.2 in (
      made.0,
      cut.sent,
      made.1,
      cut.held,
      record {
        count = suc inv.2;
        said = inv.1 ++ c.turn.new.out.bytes;
        last = server_state_of_parts c.turn.new.sources c.turn.new.arrivals c.turn.new.session c.turn.new.out.seq c.turn.new.inbox made.0;
        read = c.turn.new.inbox;
        serves = more;
        ends = tt;
        left = refl;
        out = cut.front;
      },
    )

pub returns : goal.returns
returns g c = λ left before known held.
    let inv = c.serving.invariant.serves left before known held in (
      inv.0,
      inv.1,
      inv.3,
      inv.4,
      record {
        count = inv.2;
        said = inv.1;
        last = server_state_of_parts c.serving.sources c.serving.arrivals c.serving.session c.serving.out.seq c.serving.inbox inv.0;
        read = c.serving.inbox;
        serves = inv.5;
        ends = tt;
        left = refl;
        out = ([], sym (append-nil inv.1));
      },
    )
