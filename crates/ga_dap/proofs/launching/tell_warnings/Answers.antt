use Rattle.std.proofs.Common.{[], ◌∷◌, codes, inr, refl}
use Rattle.ga_dap_queries.proofs.Sent.{ok_then, sent_one}
use Rattle.ga_dap.specs.Launches.{output_message}
use Rattle.ga_dap.proofs.launching.tell_warnings.Goals as goal

pub returns-else-is_empty : goal.returns-else-is_empty
returns-else-is_empty c =
    let told = output_message (codes "stderr") c.args.warnings.now in
    ok_then c.emit_output.result c.emit_output.ensures.sent (λ sent. (told ∷ [], inr (c.args.warnings.now, refl), sent_one c.args.out.now told c.emit_output.new.out sent))
