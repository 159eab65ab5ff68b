-- What a turn comes to, from what its parts come to.
use Rattle.std.proofs.Common.{◌≡◌, ◌≢◌, ◌∙◌, [], ◌++◌, true, false, refl, sym, subst, inl, inr, append_assoc}
use Rattle.ga_text.specs.Lines.{Bytes}
use Rattle.ga_dap_protocol.specs.Framing.{IsMessage}
use Rattle.ga_dap_protocol.specs.Messages.{HoldsNoRequest}
use Rattle.ga_dap_protocol.specs.Sent.{OutboxContent}
use Rattle.ga_dap_protocol.specs.declared.request.ClientRequest.{ClientRequest}
use Rattle.ga_dap_protocol.specs.declared.request.RequestError.{RequestError}
use Rattle.ga_dap_protocol.specs.declared.request.RequestError.TheVariants as fault
use Rattle.ga_dap_queries.specs.Sending.{SendsMessages}
use Rattle.ga_dap.specs.declared.session.Session.{Session}
use Rattle.ga_dap.specs.declared.serving.SessionEnd.{SessionEnd}
use Rattle.ga_dap.specs.declared.serving.SessionEnd.TheVariants as end
use Rattle.ga_dap.specs.declared.turn.Progress.{Progress}
use Rattle.ga_dap.specs.declared.turn.Progress.TheVariants.{On, End}
use Rattle.ga_dap.specs.Client.{RequestArrivalRelation, IsRequestInContent, IsRequestReadDue, has_session_active_run, invalid_request_output}
use Rattle.ga_dap.specs.Client.AnswersContent.{carried, wanting, no_request}
use Rattle.ga_dap.specs.Launches.{FileReadRelation}
use Rattle.ga_dap.specs.inner.Turning.{AnswersRequestOrEnds, AnswersContentOrEnds, DeclinesRequestOrEndsSession, TakesMessageOrEnds, ContinuesRunOrEnds, EndsSessionInsteadOfTurn, MakesTurnOrEnds, server_state_of_parts}
use Rattle.ga_dap.proofs.Known.{back_again}

pub content_so : {S : Type 0} (G : FileReadRelation S) (host after : S) (s t : Session) (content : Bytes) (request : ClientRequest) (old new : OutboxContent) (progress : Progress)
    → IsRequestInContent content request → AnswersRequestOrEnds G host s request old progress new after t → AnswersContentOrEnds G host s content old progress new after t
content_so G host after s t content request old new On is h = (
  h.0,
  elim h.1 [ inl answers ↦ carried request is answers | inr refused ↦ wanting request is refused.0 refused.1 ],
  h.2,
)
content_so G host after s t content request old new (End ending) is h = h

pub declined_so : {S : Type 0} (G : FileReadRelation S) (host : S) (s : Session) (content : Bytes) (why : RequestError) (old new : OutboxContent) (progress : Progress)
    → why ≢ fault.Memory → HoldsNoRequest content why → DeclinesRequestOrEndsSession why old progress new → AnswersContentOrEnds G host s content old progress new host s
declined_so G host s content why old new On ne holds h = (invalid_request_output why, no_request why ne holds refl refl refl, h)
declined_so G host s content why old new (End ending) ne holds h = h

pub takes_so : {S : Type 0} (G : FileReadRelation S) (host after : S) (s t : Session) (content text all rest : Bytes) (old new : OutboxContent) (progress : Progress)
    → IsMessage content text → all ≡ text ++ rest → AnswersContentOrEnds G host s content old progress new after t → TakesMessageOrEnds G host s all old progress new after t rest
takes_so G host after s t content text all rest old new On whole e h = (content, text, h.0, whole, e, h.1, h.2)
takes_so G host after s t content text all rest old new (End ending) whole e h = let P : SessionEnd → Type 0 = λ z. TakesMessageOrEnds G host s all old (End z) new after t rest in subst P (sym h) (text, e)

pub turned_so : {S A : Type 0} (G : FileReadRelation S) (T : RequestArrivalRelation A) (host after : S) (arrivals came : A) (s t : Session) (ahead left ahead' rest : Bytes) (old new : OutboxContent)
    (progress : Progress) → old.bytes ≡ [] → IsRequestReadDue T (has_session_active_run s) ahead arrivals true came
    → TakesMessageOrEnds G host s (ahead ++ left) old progress new after t (ahead' ++ rest)
    → MakesTurnOrEnds G T (server_state_of_parts host arrivals s old.seq ahead left) progress new.bytes (server_state_of_parts after came t new.seq ahead' rest)
turned_so G T host after arrivals came s t ahead left ahead' rest old new On none time h = (
  true,
  time,
  record {
    content = h.0;
    text = h.1;
    whole = h.3;
    taken = h.4;
    messages = h.2;
    answers = h.5;
    sends = subst (λ (z : OutboxContent). SendsMessages z h.2 new) (sym (back_again old none)) h.6;
  },
)
turned_so G T host after arrivals came s t ahead left ahead' rest old new (End end.Done) none time h = (h.0, ahead', h.0 ∙ sym h.1)
turned_so G T host after arrivals came s t ahead left ahead' rest old new (End (end.BrokenFrame why)) none time h = (h.1, ahead', h.0)
turned_so G T host after arrivals came s t ahead left ahead' rest old new (End end.Memory) none time h = (tt, h.0 ++ ahead', h.1 ∙ sym (append_assoc h.0 ahead' rest))
turned_so G T host after arrivals came s t ahead left ahead' rest old new (End end.StreamFault) none time h = (tt, ahead', h)

pub gone_on_so : {S A : Type 0} (G : FileReadRelation S) (T : RequestArrivalRelation A) (host : S) (arrivals came : A) (s t : Session) (ahead left : Bytes) (old new : OutboxContent)
    (progress : Progress) → old.bytes ≡ [] → IsRequestReadDue T (has_session_active_run s) ahead arrivals false came → ContinuesRunOrEnds s old progress new t
    → MakesTurnOrEnds G T (server_state_of_parts host arrivals s old.seq ahead left) progress new.bytes (server_state_of_parts host came t new.seq ahead left)
gone_on_so G T host arrivals came s t ahead left old new On none time h = (
  false,
  time,
  record {
    before = h.0;
    after = h.1;
    running = h.3;
    messages = h.2;
    goes = h.4;
    session = h.5;
    sends = subst (λ (z : OutboxContent). SendsMessages z h.2 new) (sym (back_again old none)) h.6;
    files = refl;
    ahead = refl;
    left = refl;
  },
)
gone_on_so G T host arrivals came s t ahead left old new (End ending) none time h =
    let P : SessionEnd → Type 0 = λ z. EndsSessionInsteadOfTurn (server_state_of_parts host arrivals s old.seq ahead left) z in (subst P (sym h) tt, ahead, refl)
