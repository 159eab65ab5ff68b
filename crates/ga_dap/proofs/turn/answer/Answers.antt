use Rattle.std.proofs.Common.{[], refl, ap, inr}
use Rattle.ga_dap.specs.Client.{out_of_memory_messages, empty_outbox_content, outbox_content_of_bytes}
use Rattle.ga_dap.proofs.Known.{sent_again}
use Rattle.ga_dap.proofs.turn.answer.Goals as goal

pub returns-in-Err-Memory : goal.returns-in-Err-Memory
returns-in-Err-Memory g c =
    let stays = rw c.in-Err-Memory.field-0-is at c.in-Err-Memory.ensures in (
      out_of_memory_messages c.args.request.now,
      inr (refl, stays),
      sent_again c.args.out.now (empty_outbox_content c.seq-seq.result) (out_of_memory_messages c.args.request.now) c.in-Ok.refusal c.requires (ap (outbox_content_of_bytes []) c.seq-seq.ensures) c.in-Ok.ensures,
    )
