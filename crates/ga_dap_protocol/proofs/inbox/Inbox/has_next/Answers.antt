use Rattle.std.proofs.Common.{◌≡◌, ◌∙◌, true, false, refl, sym, subst}
use Rattle.ga_dap_protocol.specs.Framing.{IsMessagePrefix}
use Rattle.ga_dap_protocol.proofs.Unique.{not_begun, never_begun}
use Rattle.ga_dap_protocol.proofs.inbox.Inbox.has_next.Goals as goal

pub returns-in-Message : goal.returns-in-Message
returns-in-Message c = (
  λ t b. not_begun c.as_slice.result.now c.in-Message.start c.in-Message.end c.in-Message.ensures
      (subst IsMessagePrefix (sym (c.as_slice.ensures.value ∙ c.self.view_is)) b),
  λ h. refl,
)

pub returns-in-PartialMessage : goal.returns-in-PartialMessage
returns-in-PartialMessage c = (
  λ t. let f : false ≡ true = t in absurd (cc),
  λ h. absurd (h (subst IsMessagePrefix (c.as_slice.ensures.value ∙ c.self.view_is) c.in-PartialMessage.ensures)),
)

pub returns-in-NoMessage : goal.returns-in-NoMessage
returns-in-NoMessage c = (
  λ t b. never_begun c.as_slice.result.now c.in-NoMessage.ensures.0 (subst IsMessagePrefix (sym (c.as_slice.ensures.value ∙ c.self.view_is)) b),
  λ h. refl,
)
