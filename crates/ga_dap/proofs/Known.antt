-- Requests that are answered in one way.
use Rattle.ga_dap_queries.specs.declared.request_name.RequestName.TheVariants as the
use Rattle.std.proofs.Common.{◌≡◌, ◌∙◌, ℕ, ◌<◌, Bool, List, ap, [], ◌∷◌, Result, Ok, Err, sym, subst, ◌≢◌, refl}
use Rattle.ga_grid.specs.declared.node_id.NodeId.{NodeId}
use Rattle.ga_dap_views.specs.Threads.{has_thread}
use Rattle.ga_dap_queries.specs.declared.debuggee.Debuggee.{Debuggee}
use Rattle.ga_dap_control.specs.Configuring.{AreNodesWithThreads}
use Rattle.ga_dap_protocol.specs.Sent.{OutboxContent}
use Rattle.ga_dap_queries.specs.Sending.{Message, Messages, SendsMessage, SendsMessages}
use Rattle.ga_dap.specs.declared.unanswered.NoResponse.{NoResponse}
use Rattle.ga_dap.specs.declared.unanswered.NoResponse.TheVariants.{Memory, Untold}
use Rattle.ga_dap.specs.Client.{outbox_content_of_bytes}
use Rattle.ga_dap.specs.inner.Carrying.{SendsReplyOrLacksMemory}
use Rattle.std.specs.Prelude.{false}
use Rattle.ga_dap_protocol.specs.declared.request.ClientRequest.{ClientRequest}
use Rattle.ga_dap_queries.specs.declared.request_name.RequestName.{RequestName}
use Rattle.ga_dap_control.specs.Requests.{AnswersImmediateRequest}
use Rattle.ga_dap_control.specs.declared.launched.LaunchedSession.{LaunchedSession}
use Rattle.ga_dap.specs.declared.session.Session.{Session}
use Rattle.ga_dap.specs.Answering.{AnswersKnownRequest, ChangesLaunchedProgramOnly, AnswersRequestIfLaunched, PerformsRequest, needs_stopped_chip}
use Rattle.ga_dap.specs.Launches.{FileReadRelation}

-- ---- marks of the nodes that have something to show

pub shown_so : (p : Debuggee) (nodes : List NodeId) (marks : ℕ → Bool) → nodes ≡ p.nodes.items → ((n : ℕ) → n < 144 → marks n ≡ has_thread p.lab nodes n) → AreNodesWithThreads p marks
shown_so p nodes marks e h = λ n below. h n below ∙ ap (λ (z : List NodeId). has_thread p.lab z n) e

-- ---- what was sent and is taken back; messages in a row; calls that carried out what they promise

-- where nothing was there, what is taken back is what was there
pub back_again : (o : OutboxContent) → o.bytes ≡ [] → outbox_content_of_bytes [] o.seq ≡ o
back_again o none = ap (λ (b : List ℕ). outbox_content_of_bytes b o.seq) (sym none)

pub sent_again : (o p : OutboxContent) (messages : Messages) (new : OutboxContent) → o.bytes ≡ [] → p ≡ outbox_content_of_bytes [] o.seq → SendsMessages p messages new → SendsMessages o messages new
sent_again o p messages new none e sent =
    let P : OutboxContent → Type 0 = λ z. SendsMessages z messages new in subst P (e ∙ back_again o none) sent

-- messages, and some after them
pub sent_then : (old : OutboxContent) (first : Message) (between : OutboxContent) (rest : Messages) (new : OutboxContent) → SendsMessage old first between → SendsMessages between rest new
    → SendsMessages old (first ∷ rest) new
sent_then old first between rest new one all = (between, one, all)

-- what a call did, in other words
pub carries_so : (result : Result (Unit {0}) NoResponse) (P Q : Messages → Type 0) (Stays Still : Type 0) (old new : OutboxContent)
    → SendsReplyOrLacksMemory result P Stays old new → ((messages : Messages) → P messages → Q messages) → (Stays → Still) → SendsReplyOrLacksMemory result Q Still old new
carries_so (Ok done) P Q Stays Still old new h f g = (h.0, f h.0 h.1, h.2)
carries_so (Err Memory) P Q Stays Still old new h f g = g h
carries_so (Err Untold) P Q Stays Still old new h f g = tt

-- a request that the session itself doesn't answer is one of what was launched
pub of_launched : {S : Type 0} (G : FileReadRelation S) (host : S) (s : Session) (command : RequestName) (request : ClientRequest) (messages : Messages) (new : Session)
    → command ≢ the.Initialize → command ≢ the.Launch → command ≢ the.Disconnect → command ≢ the.Terminate
    → ChangesLaunchedProgramOnly (AnswersRequestIfLaunched command s.launched request) s messages new → AnswersKnownRequest G host s command request messages host new
of_launched G host s the.Initialize request messages new i l d t does = absurd (i refl)
of_launched G host s the.Launch request messages new i l d t does = absurd (l refl)
of_launched G host s the.SetBreakpoints request messages new i l d t does = (does, refl)
of_launched G host s the.SetFunctionBreakpoints request messages new i l d t does = (does, refl)
of_launched G host s the.SetInstructionBreakpoints request messages new i l d t does = (does, refl)
of_launched G host s the.DataBreakpointInfo request messages new i l d t does = (does, refl)
of_launched G host s the.SetDataBreakpoints request messages new i l d t does = (does, refl)
of_launched G host s the.SetExceptionBreakpoints request messages new i l d t does = (does, refl)
of_launched G host s the.ConfigurationDone request messages new i l d t does = (does, refl)
of_launched G host s the.Threads request messages new i l d t does = (does, refl)
of_launched G host s the.StackTrace request messages new i l d t does = (does, refl)
of_launched G host s the.Scopes request messages new i l d t does = (does, refl)
of_launched G host s the.Variables request messages new i l d t does = (does, refl)
of_launched G host s the.Continue request messages new i l d t does = (does, refl)
of_launched G host s the.Next request messages new i l d t does = (does, refl)
of_launched G host s the.StepIn request messages new i l d t does = (does, refl)
of_launched G host s the.StepOut request messages new i l d t does = (does, refl)
of_launched G host s the.Pause request messages new i l d t does = (does, refl)
of_launched G host s the.StepBack request messages new i l d t does = (does, refl)
of_launched G host s the.ReverseContinue request messages new i l d t does = (does, refl)
of_launched G host s the.Evaluate request messages new i l d t does = (does, refl)
of_launched G host s the.ExceptionInfo request messages new i l d t does = (does, refl)
of_launched G host s the.Disassemble request messages new i l d t does = (does, refl)
of_launched G host s the.Terminate request messages new i l d t does = absurd (t refl)
of_launched G host s the.Disconnect request messages new i l d t does = absurd (d refl)

-- one that makes no move and evaluates nothing is answered in place
pub of_place : (command : RequestName) (l : LaunchedSession) (request : ClientRequest) (messages : Messages) (new : LaunchedSession)
    → command ≢ the.StepBack → command ≢ the.ReverseContinue → command ≢ the.Evaluate
    → AnswersImmediateRequest command l request messages new → PerformsRequest command l request messages new
of_place the.Initialize l request messages new b r e does = does
of_place the.Launch l request messages new b r e does = does
of_place the.SetBreakpoints l request messages new b r e does = does
of_place the.SetFunctionBreakpoints l request messages new b r e does = does
of_place the.SetInstructionBreakpoints l request messages new b r e does = does
of_place the.DataBreakpointInfo l request messages new b r e does = does
of_place the.SetDataBreakpoints l request messages new b r e does = does
of_place the.SetExceptionBreakpoints l request messages new b r e does = does
of_place the.ConfigurationDone l request messages new b r e does = does
of_place the.Threads l request messages new b r e does = does
of_place the.StackTrace l request messages new b r e does = does
of_place the.Scopes l request messages new b r e does = does
of_place the.Variables l request messages new b r e does = does
of_place the.Continue l request messages new b r e does = does
of_place the.Next l request messages new b r e does = does
of_place the.StepIn l request messages new b r e does = does
of_place the.StepOut l request messages new b r e does = does
of_place the.Pause l request messages new b r e does = does
of_place the.StepBack l request messages new b r e does = absurd (b refl)
of_place the.ReverseContinue l request messages new b r e does = absurd (r refl)
of_place the.Evaluate l request messages new b r e does = absurd (e refl)
of_place the.ExceptionInfo l request messages new b r e does = does
of_place the.Disassemble l request messages new b r e does = does
of_place the.Terminate l request messages new b r e does = does
of_place the.Disconnect l request messages new b r e does = does

-- and needs no stopped chip
pub of_run : (command : RequestName) → command ≢ the.Continue → command ≢ the.Next → command ≢ the.StepIn → command ≢ the.StepOut → command ≢ the.StepBack
    → command ≢ the.ReverseContinue → command ≢ the.Evaluate → false ≡ needs_stopped_chip command
of_run the.Initialize c n i o b r e = refl
of_run the.Launch c n i o b r e = refl
of_run the.SetBreakpoints c n i o b r e = refl
of_run the.SetFunctionBreakpoints c n i o b r e = refl
of_run the.SetInstructionBreakpoints c n i o b r e = refl
of_run the.DataBreakpointInfo c n i o b r e = refl
of_run the.SetDataBreakpoints c n i o b r e = refl
of_run the.SetExceptionBreakpoints c n i o b r e = refl
of_run the.ConfigurationDone c n i o b r e = refl
of_run the.Threads c n i o b r e = refl
of_run the.StackTrace c n i o b r e = refl
of_run the.Scopes c n i o b r e = refl
of_run the.Variables c n i o b r e = refl
of_run the.Continue c n i o b r e = absurd (c refl)
of_run the.Next c n i o b r e = absurd (n refl)
of_run the.StepIn c n i o b r e = absurd (i refl)
of_run the.StepOut c n i o b r e = absurd (o refl)
of_run the.Pause c n i o b r e = refl
of_run the.StepBack c n i o b r e = absurd (b refl)
of_run the.ReverseContinue c n i o b r e = absurd (r refl)
of_run the.Evaluate c n i o b r e = absurd (e refl)
of_run the.ExceptionInfo c n i o b r e = refl
of_run the.Disassemble c n i o b r e = refl
of_run the.Terminate c n i o b r e = refl
of_run the.Disconnect c n i o b r e = refl
