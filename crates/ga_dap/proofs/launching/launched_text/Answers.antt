use Rattle.std.proofs.Common.{◌≡◌, ℕ, [], ◌∷◌, Option, None, Result, Ok, Err, refl, sym, subst}
use Rattle.std.specs.Prelude.{IfOk}
use Rattle.ga_text.specs.Lines.{Bytes, Text}
use Rattle.ga_scheduler.specs.declared.schedule.Schedule.{Schedule}
use Rattle.ga_dap_protocol.specs.Sent.{OutboxContent}
use Rattle.ga_dap_protocol.specs.declared.request.ClientRequest.{ClientRequest}
use Rattle.ga_dap_queries.specs.Sending.{Messages, SendsMessage, SendsMessages}
use Rattle.ga_dap_queries.proofs.Sent.{sent_one}
use Rattle.ga_dap_control.specs.declared.launched.LaunchedSession.{LaunchedSession}
use Rattle.ga_dap.specs.Opening.{IsRefusedProgramText}
use Rattle.ga_dap.specs.Launches.{LaunchesText, launch_messages, launch_error_message}
use Rattle.ga_dap.proofs.launching.launched_text.Goals as goal

-- the reason is reported why nothing is launched
refused_so : {E : Type 0} (result : Result (Option LaunchedSession) E) (text : Bytes) (path : Text) (limit : ℕ) (schedule : Schedule) (request : ClientRequest) (why : Text) (old new : OutboxContent)
    → IsRefusedProgramText text → IfOk result (λ (l : Option LaunchedSession). (l ≡ None) × SendsMessage old (launch_error_message request path why) new)
    → IfOk result (λ (l : Option LaunchedSession). (messages : Messages) × LaunchesText text path limit schedule request messages l × SendsMessages old messages new)
refused_so (Ok l) text path limit schedule request why old new none h =
    let P : Option LaunchedSession → Type 0 = λ z. LaunchesText text path limit schedule request (launch_error_message request path why ∷ []) z in
    (launch_error_message request path why ∷ [], subst P (sym h.0) (none, why, refl), sent_one old (launch_error_message request path why) new h.1)
refused_so (Err e) text path limit schedule request why old new none h = tt

pub returns-in_ok-tell_launched-in-Ok : goal.returns-in_ok-tell_launched-in-Ok
returns-in_ok-tell_launched-in-Ok c =
    let told = c.in_ok-tell_launched-in-Ok.ensures in (
      launch_messages c.args.request.now told.0,
      (
        record {
          opens = c.in-Ok.ensures.ok;
          nodes = c.in-Ok.ensures.nodes;
          stored_at = c.in-Ok.ensures.path;
          unset = record {
            points = c.new-settings.ensures.points;
            placed = c.new-settings.ensures.placed;
            stops = c.new-settings.ensures.stops;
            stuck = c.new-settings.ensures.stuck;
            broken = c.new-settings.ensures.broken;
            number = c.new-settings.ensures.next;
          };
          order = refl;
          stands = refl;
          not_configured = refl;
          entry = c.stops_on_entry.ensures;
          none_reported = refl;
        },
        told.0,
        told.1,
        refl,
      ),
      told.2,
    )

pub returns-in-Err-SourceFault : goal.returns-in-Err-SourceFault
returns-in-Err-SourceFault c =
    refused_so c.refuse_file.result c.args.text.items c.args.path.now c.args.limit c.args.schedule c.args.request.now c.as_str-in-Err-SourceFault.result.now c.args.out.now c.refuse_file.new.out
    (rw c.in-Err-SourceFault.field-0-is at c.in-Err-SourceFault.ensures.err) c.refuse_file.ensures
