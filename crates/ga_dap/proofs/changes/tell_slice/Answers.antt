use Rattle.std.proofs.Common.{◌++◌, refl}
use Rattle.ga_dap_queries.proofs.Sent.{ok_then, sent_both}
use Rattle.ga_dap.proofs.changes.tell_slice.Goals as goal

pub returns : goal.returns
returns c =
    let told = c.in_ok-tell_threads.ensures in
    ok_then c.tell_end.result c.tell_end.ensures
    (λ last. (told.0 ++ last.0, (told.0, last.0, told.1, last.1, refl), sent_both c.args.out.now told.0 c.tell_threads.new.out last.0 c.tell_end.new.out told.2 last.2))
