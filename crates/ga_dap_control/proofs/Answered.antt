-- What is sent for a request, and the state after it.
use Rattle.std.proofs.Common.{◌≡◌, ◌∙◌, ◌++◌, ◌<◌, ◌+◌, ◌&&◌, ◌||◌, arith, inl, inr, map, ℕ, zero, suc, Bool, true, false, List, [], ◌∷◌, Option, None, Result, Ok, Err, refl, sym, ap, subst}
use Rattle.std.specs.Prelude.{OnOk, codes}
use Rattle.std.specs.List.{list_all, list_any}
use Rattle.std.proofs.lemmas.Bool.{cases_eq}
use Rattle.ga_debug_info.specs.declared.notes.DebugInfo.{DebugInfo}
use Rattle.ga_scheduler.specs.Running.{ScheduledMachine}
use Rattle.ga_state_expectations.specs.declared.source.LineExpectation.{LineExpectation}
use Rattle.ga_dap_breakpoints.specs.declared.breakpoint.Breakpoint.{Breakpoint}
use Rattle.ga_grid.specs.declared.node_id.NodeId.{NodeId}
use Rattle.ga_dap_breakpoints.specs.declared.going.HaltReason.{HaltReason}
use Rattle.ga_dap_breakpoints.specs.declared.hits.HitTally.{HitTally}
use Rattle.ga_dap_breakpoints.specs.Going.{IsMoveResult, tally_after_events, continue_plan, step_plan}
use Rattle.ga_dap_protocol.specs.Sent.{OutboxContent}
use Rattle.ga_dap_protocol.specs.declared.request.ClientRequest.{ClientRequest}
use Rattle.ga_dap_breakpoints.specs.declared.stepping.StepMove.{StepMove}
use Rattle.ga_dap_queries.specs.Events.{thread_change_messages, thread_change_messages_below}
use Rattle.ga_dap_queries.specs.Sending.{Message, Messages, SendsMessage, SendsMessages, refused_response}
use Rattle.ga_dap_queries.specs.declared.request_name.RequestName.{RequestName}
use Rattle.ga_dap_queries.specs.declared.debuggee.Debuggee.{Debuggee}
use Rattle.ga_dap_queries.proofs.Sent.{sent_one}
use Rattle.ga_dap_control.specs.declared.configuration.Configuration.{Configuration}
use Rattle.ga_dap_control.specs.declared.execution.Execution.{Execution}
use Rattle.ga_dap_control.specs.declared.launched.LaunchedSession.{LaunchedSession}
use Rattle.ga_dap_control.specs.declared.moving.DapStepKind.{DapStepKind}
use Rattle.ga_dap_control.specs.Breakpoints.{SetsLineBreakpointsIfOwnFile}
use Rattle.ga_dap_control.specs.Moving.{BeginsStep, BeginsStepMove, BeginsStepUnlessStopped}
use Rattle.ga_dap_control.specs.Requests.{SendsOneResponse, ChangesExecution, AnswersStep, ChangesConfiguration, AnswersImmediateRequest}

pub only_answers : {T E : Type 0} → (Answers : Message → Type 0) (r : Result T E) (l new : LaunchedSession) (old out : OutboxContent)
    → OnOk r ((message : Message) × Answers message × SendsMessage old message out) → new ≡ l → OnOk r ((messages : Messages) × SendsOneResponse Answers l messages new × SendsMessages old messages out)
only_answers Answers (Ok x) l new old out p same = (p.0 ∷ [], (p.0, p.1, refl, same), sent_one old p.0 out p.2)
only_answers Answers (Err e) l new old out p same = tt

pub moves_so : {T E : Type 0} → (Begins : Messages → Execution → Type 0) (r : Result T E) (l new : LaunchedSession) (execution : Execution) (old out : OutboxContent)
    → OnOk r ((messages : Messages) × Begins messages execution × SendsMessages old messages out) → new ≡ record l { execution = execution }
    → OnOk r ((messages : Messages) × ChangesExecution Begins l messages new × SendsMessages old messages out)
moves_so Begins (Ok x) l new execution old out p same = (p.0, (execution, p.1, same), p.2)
moves_so Begins (Err e) l new execution old out p same = tt

pub steps_so : {T E : Type 0} → (kind : DapStepKind) (r : Result T E) (l new : LaunchedSession) (request : ClientRequest) (execution : Execution) (old out : OutboxContent)
    → OnOk r ((message : Message) × BeginsStep l.program kind l.execution request message execution × SendsMessage old message out) → new ≡ record l { execution = execution }
    → OnOk r ((messages : Messages) × AnswersStep kind l request messages new × SendsMessages old messages out)
steps_so kind (Ok x) l new request execution old out p same = (p.0 ∷ [], (p.0, execution, p.1, refl, same), sent_one old p.0 out p.2)
steps_so kind (Err e) l new request execution old out p same = tt

-- a request that is answered nowhere is refused, and what was launched stays
pub unknown_refused : {T E : Type 0} → (r : Result T E) (l : LaunchedSession) (request : ClientRequest) (old out : OutboxContent)
    → OnOk r (SendsMessage old (refused_response request (codes "no such request")) out)
    → OnOk r ((messages : Messages) × ((messages ≡ refused_response request (codes "no such request") ∷ []) × (l ≡ l)) × SendsMessages old messages out)
unknown_refused (Ok x) l request old out sent = (refused_response request (codes "no such request") ∷ [], (refl, refl), sent_one old (refused_response request (codes "no such request")) out sent)
unknown_refused (Err e) l request old out sent = tt

-- what the client set is set, and hits are counted anew
abbrev set_anew : LaunchedSession → Configuration → LaunchedSession
set_anew l settings = record l { settings = settings; execution = record l.execution { tally = None } }

pub sets_so : (Becomes : Message → Configuration → Type 0) (l : LaunchedSession) (settings : Configuration) (old out : OutboxContent)
    → ((message : Message) × Becomes message settings × SendsMessage old message out)
    → (messages : Messages) × ChangesConfiguration Becomes l messages (set_anew l settings) × SendsMessages old messages out
sets_so Becomes l settings old out p = (p.0 ∷ [], (p.0, settings, p.1, refl, refl), sent_one old p.0 out p.2)

pub with_command : {T E : Type 0} → (r : Result T E) (a b : RequestName) (l : LaunchedSession) (request : ClientRequest) (new : LaunchedSession) (old out : OutboxContent) → b ≡ a
    → OnOk r ((messages : Messages) × AnswersImmediateRequest a l request messages new × SendsMessages old messages out)
    → OnOk r ((messages : Messages) × AnswersImmediateRequest b l request messages new × SendsMessages old messages out)
with_command r a b l request new old out e p =
    subst (λ (z : RequestName). OnOk r ((messages : Messages) × AnswersImmediateRequest z l request messages new × SendsMessages old messages out)) (sym e) p

pub begins_unless : (b can : Bool) (kind : DapStepKind) (r : Execution) (request : ClientRequest) (stepping : Option StepMove) (message : Message) (new : Execution) → can ≡ b
    → can ≡ true → BeginsStepMove r request stepping message new → BeginsStepUnlessStopped b kind r request stepping message new
begins_unless b can kind r request stepping message new e is p = subst (λ (z : Bool). BeginsStepUnlessStopped z kind r request stepping message new) (sym is ∙ e) p

pub stopped_unless : (b can : Bool) (kind : DapStepKind) (r : Execution) (request : ClientRequest) (stepping : Option StepMove) (message : Message) (new : Execution) → can ≡ b
    → can ≡ false → BeginsStepUnlessStopped false kind r request stepping message new → BeginsStepUnlessStopped b kind r request stepping message new
stopped_unless b can kind r request stepping message new e is p = subst (λ (z : Bool). BeginsStepUnlessStopped z kind r request stepping message new) (sym is ∙ e) p

pub lines_if : (b own : Bool) (p : Debuggee) (set : Configuration) (request : ClientRequest) (message : Message) (new : Configuration) (to : Bool) → own ≡ b → own ≡ to
    → SetsLineBreakpointsIfOwnFile to p set request message new → SetsLineBreakpointsIfOwnFile b p set request message new
lines_if b own p set request message new to e is sets = subst (λ (z : Bool). SetsLineBreakpointsIfOwnFile z p set request message new) (sym is ∙ e) sets

-- marks that are the same change the same
pub changed_alike : (f g now : ℕ → Bool) → ((n : ℕ) → f n ≡ g n) → (k : ℕ) → thread_change_messages_below f now k ≡ thread_change_messages_below g now k
unfolding thread_change_messages_below
changed_alike f g now same zero = refl
changed_alike f g now same (suc n) =
    ap (λ (z : List Message). z ++ thread_change_messages (f n) (now n) n) (changed_alike f g now same n)
    ∙ ap (λ (z : Bool). thread_change_messages_below g now n ++ thread_change_messages z (now n) n) (same n)

pub gone_by : (a b : List Breakpoint) (x y : List LineExpectation) (u v : HitTally) (s t : Bool) (r : ScheduledMachine) (most events : ℕ) (halt : HaltReason) → a ≡ b → x ≡ y → u ≡ v → s ≡ t
    → IsMoveResult (continue_plan a x u s r) r most events halt → IsMoveResult (continue_plan b y v t r) r most events halt
gone_by a b x y u v s t r most events halt e d g f p =
    subst (λ (z : List Breakpoint). IsMoveResult (continue_plan z y v t r) r most events halt) e
    (subst (λ (z : List LineExpectation). IsMoveResult (continue_plan a z v t r) r most events halt) d
    (subst (λ (z : HitTally). IsMoveResult (continue_plan a x z t r) r most events halt) g (subst (λ (z : Bool). IsMoveResult (continue_plan a x u z r) r most events halt) f p)))

pub stepped_so : (notes : DebugInfo) (a b : List Breakpoint) (x y : List LineExpectation) (u v : HitTally) (s t : Bool) (by : StepMove) (r : ScheduledMachine) (most events : ℕ) (halt : HaltReason) → a ≡ b → x ≡ y → u ≡ v → s ≡ t
    → IsMoveResult (step_plan notes a x u s by r) r most events halt → IsMoveResult (step_plan notes b y v t by r) r most events halt
stepped_so notes a b x y u v s t by r most events halt e d g f p =
    subst (λ (z : List Breakpoint). IsMoveResult (step_plan notes z y v t by r) r most events halt) e
    (subst (λ (z : List LineExpectation). IsMoveResult (step_plan notes a z v t by r) r most events halt) d
    (subst (λ (z : HitTally). IsMoveResult (step_plan notes a x z t by r) r most events halt) g
    (subst (λ (z : Bool). IsMoveResult (step_plan notes a x u z by r) r most events halt) f p)))

-- what was hit so often, by what counted it
pub hits_so : (first : Option NodeId) (a b : List Breakpoint) (u v : HitTally) (r : ScheduledMachine) (events : ℕ) (tally : HitTally) → a ≡ b → u ≡ v
    → tally ≡ tally_after_events first a u r events → tally ≡ tally_after_events first b v r events
hits_so first a b u v r events tally e g is =
    is ∙ ap (λ (z : List Breakpoint). tally_after_events first z u r events) e ∙ ap (λ (z : HitTally). tally_after_events first b z r events) g

pub none_more : (f : ℕ → Bool) (k : ℕ) (b : Bool) → ((n : ℕ) → n < k → f n ≡ false) → b ≡ f k → b ≡ false → (n : ℕ) → n < k + 1 → f n ≡ false
none_more f k b before e is n lt = elim (cases_eq n k) as (λ w. f n ≡ false) [
  | inl q ↦ ap f q ∙ sym e ∙ is
  | inr ne ↦ before n (omega (arith, lt, ne))
]

pub any_map : {A B : Type 0} (f : B → Bool) (g : A → B) (xs : List A) → list_any (λ (x : A). f (g x)) xs ≡ list_any f (map g xs)
any_map f g [] = refl
any_map f g (x ∷ xs) = ap (λ (z : Bool). f (g x) || z) (any_map f g xs)

pub all_map : {A B : Type 0} (f : B → Bool) (g : A → B) (xs : List A) → list_all (λ (x : A). f (g x)) xs ≡ list_all f (map g xs)
all_map f g [] = refl
all_map f g (x ∷ xs) = ap (λ (z : Bool). f (g x) && z) (all_map f g xs)
