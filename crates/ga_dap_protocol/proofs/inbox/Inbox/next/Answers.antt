use Rattle.std.proofs.Common.{Ok, ap, ◌∙◌, ◌++◌, sym, subst}
use Rattle.ga_dap_protocol.specs.Framing.{IsMessagePrefix}
use Rattle.ga_dap_protocol.proofs.Wholes.{took, refused, closed}
use Rattle.ga_dap_protocol.proofs.inbox.Inbox.next.Goals as goal

pub returns-in-Message-clause-next : goal.returns-in-Message-clause-next
returns-in-Message-clause-next g c = λ left known.
    let inv = c.reads.invariant left known in (
      inv.0,
      inv.1,
      took (c.args.self.now ++ left) c.reads.self inv.0 c.as_slice.result.now c.in_ok-content-in-Message.content.items c.take.new.self c.in-Message.start
          c.in-Message.end (c.as_slice.ensures.value ∙ c.self.view_is) inv.2 c.in-Message.ensures c.in_ok-content-in-Message.ensures.content
          c.in_ok-content-in-Message.ensures.rest,
    )

pub returns-in-NoMessage-clause-next : goal.returns-in-NoMessage-clause-next
returns-in-NoMessage-clause-next g c = λ left known.
    let inv = c.reads.invariant left known in (
      inv.0,
      inv.1,
      refused c.in-NoMessage.why (c.args.self.now ++ left) c.reads.self inv.0 c.as_slice.result.now (c.as_slice.ensures.value ∙ c.self.view_is) inv.2
          c.in-NoMessage.ensures,
    )

pub ended-requires : goal.ended-requires
ended-requires g c = subst IsMessagePrefix (c.as_slice.ensures.value ∙ c.self.view_is ∙ sym (c.in_ok-fill-in-PartialMessage.ensures.same (ap Ok c.in-End.is))) c.in-PartialMessage.ensures

pub returns-in-End-clause-next : goal.returns-in-End-clause-next
returns-in-End-clause-next g c = λ left known.
    let inv = c.reads.invariant left known in
    let more = c.fill.ensures.reads inv.0 inv.1 in (
      more.0,
      more.1,
      closed (c.args.self.now ++ left) c.reads.self inv.0 c.fill.new.self more.0 c.ended.result inv.2 (c.in_ok-fill-in-PartialMessage.ensures.ended inv.0 inv.1 (ap Ok c.in-End.is))
          (c.in_ok-fill-in-PartialMessage.ensures.same (ap Ok c.in-End.is)) more.2 c.ended.ensures,
    )
