-- Turns, one after the other.
use Rattle.std.proofs.Common.{◌≡◌, ◌∙◌, ℕ, suc, [], ◌++◌, Option, Some, refl, sym, ap, inr}
use Rattle.std.specs.Prelude.{false}
use Rattle.std.proofs.lemmas.List.{append-nil}
use Rattle.ga_text.specs.Lines.{Bytes}
use Rattle.ga_text.specs.Output.{IsTextWrittenOrPending}
use Rattle.ga_dap_protocol.specs.Sent.{OutboxContent}
use Rattle.ga_dap.specs.declared.session.Session.{Session}
use Rattle.ga_dap.specs.declared.serving.SessionEnd.{SessionEnd}
use Rattle.ga_dap.specs.declared.serving.SessionEnd.TheVariants as end
use Rattle.ga_dap.specs.Client.{ServerState, RequestArrivalRelation, ServesIterations, IsServerIteration, IsSessionEnd, IsOutputWritten, new_session, initial_server_state, empty_outbox_content}
use Rattle.ga_dap.specs.Launches.{FileReadRelation}
use Rattle.ga_dap.specs.inner.Turning.{EndsSessionInsteadOfTurn, server_state_of_parts}

pub begins_so : {S A : Type 0} (files : S) (arrivals : A) (session : Session) (out : OutboxContent) (inbox left : Bytes) → session ≡ new_session → out ≡ empty_outbox_content 0 → inbox ≡ []
    → server_state_of_parts files arrivals session out.seq inbox left ≡ initial_server_state files arrivals left
begins_so files arrivals session out inbox left s o i =
    ap (λ (z : Session). server_state_of_parts files arrivals z out.seq inbox left) s ∙ ap (λ (z : OutboxContent). server_state_of_parts files arrivals new_session z.seq inbox left) o
    ∙ ap (λ (z : Bytes). server_state_of_parts files arrivals new_session 0 z left) i

pub serves_on : {S A : Type 0} (G : FileReadRelation S) (T : RequestArrivalRelation A) (begin : ServerState S A) (count : ℕ) (said : Bytes) (s : ServerState S A) (sent : Bytes) (t : ServerState S A)
    → ServesIterations G T begin count said s → s.session.is_over ≡ false → IsServerIteration G T s sent t → ServesIterations G T begin (suc count) (said ++ sent) t
serves_on G T begin count said s sent t serves not_configured makes = (s, said, sent, serves, not_configured, makes, refl)

-- what is pending is written
pub pends : (contents : Option Bytes) (before said pending : Bytes) → contents ≡ Some (before ++ said) → IsTextWrittenOrPending contents before (said ++ pending) pending
pends contents before said pending held = record { sent = said; held = held; splits = refl }

-- where no turn is made, the session ends
pub ends_so : {S A : Type 0} (s : ServerState S A) (ending : SessionEnd) → s.session.is_over ≡ false → EndsSessionInsteadOfTurn s ending → IsSessionEnd s ending
ends_so s end.Done not_configured ends = inr ends
ends_so s (end.BrokenFrame why) not_configured ends = (not_configured, ends)
ends_so s end.Memory not_configured ends = not_configured
ends_so s end.StreamFault not_configured ends = tt

-- nothing is pending any more: all that was said is written
pub all_sent : (contents : Option Bytes) (before said : Bytes) → IsTextWrittenOrPending contents before said [] → contents ≡ Some (before ++ said)
all_sent contents before said h = h.held ∙ ap (λ (t : Bytes). Some (before ++ t)) (sym (h.splits ∙ append-nil h.sent))

-- all that was said was written
pub written_all : (ending : SessionEnd) (said : Bytes) → IsOutputWritten ending said said
written_all end.Done said = refl
written_all end.Memory said = refl
written_all (end.BrokenFrame why) said = refl
written_all end.StreamFault said = ([], sym (append-nil said))
