-- That nothing is launched, and why.
use Rattle.std.proofs.Common.{◌≡◌, ℕ, [], ◌∷◌, Option, None, Result, Ok, Err, refl, ap}
use Rattle.std.specs.Prelude.{IfOk}
use Rattle.ga_text.specs.Lines.{Text}
use Rattle.ga_scheduler.specs.declared.schedule.Schedule.{Schedule}
use Rattle.ga_dap_protocol.specs.Sent.{OutboxContent}
use Rattle.ga_dap_protocol.specs.declared.request.ClientRequest.{ClientRequest}
use Rattle.ga_dap_queries.specs.Sending.{Messages, SendsMessage, SendsMessages, refused_response}
use Rattle.ga_dap_queries.proofs.Sent.{sent_one}
use Rattle.ga_dap_control.specs.declared.launched.LaunchedSession.{LaunchedSession}
use Rattle.ga_dap.specs.declared.sources.SourceError.{SourceError}
use Rattle.ga_dap.specs.Launches.{FileReadRelation, RefusesLaunch, ReadsAndLaunchesFile, launch_error_message, source_error_text}

pub not_launched : {S E : Type 0} (host : S) (request : ClientRequest) (why : Text) (old new : OutboxContent) (result : Result (Option LaunchedSession) E)
    → IfOk result (λ (l : Option LaunchedSession). (l ≡ None) × SendsMessage old (refused_response request why) new)
    → IfOk result (λ (l : Option LaunchedSession). (messages : Messages) × RefusesLaunch host request why messages host l × SendsMessages old messages new)
not_launched host request why old new (Ok l) h =
    (refused_response request why ∷ [], (refl, refl, h.0), sent_one old (refused_response request why) new h.1)
not_launched host request why old new (Err e) h = tt

pub not_read : {S E : Type 0} (G : FileReadRelation S) (host after : S) (request : ClientRequest) (path : Text) (limit : ℕ) (schedule : Schedule) (why : SourceError) (words : Text)
    (old new : OutboxContent) (result : Result (Option LaunchedSession) E) → G host path (Err why) after → words ≡ source_error_text why
    → IfOk result (λ (l : Option LaunchedSession). (l ≡ None) × SendsMessage old (launch_error_message request path words) new)
    → IfOk result (λ (l : Option LaunchedSession). (messages : Messages) × ReadsAndLaunchesFile G host request path limit schedule messages after l × SendsMessages old messages new)
not_read G host after request path limit schedule why words old new (Ok l) gives e h = (
  launch_error_message request path words ∷ [],
  (Err why, gives, (ap (λ (z : Text). launch_error_message request path z ∷ []) e, h.0)),
  sent_one old (launch_error_message request path words) new h.1,
)
not_read G host after request path limit schedule why words old new (Err e') gives e h = tt
