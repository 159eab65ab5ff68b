use Rattle.std.proofs.Common.{ℕ, List, [], ◌++◌, ◌≡◌, take, drop, sym, ap, ◌∙◌, take-append-drop}
use Rattle.ga_text.proofs.WriteLemmas.{said_cut, said_kept, said_written, said_same}
use Rattle.ga_text.proofs.Taking.{no_bytes}
use Rattle.ga_text.proofs.output.write_all.Goals as goal

pub returns-in-Ok-eq0 : goal.returns-in-Ok-eq0
returns-in-Ok-eq0 g c = λ before said h.
    said_cut _ before said (drop c.in-Ok-eq0.field-0 c.bytes.rest.now)
    (said_written _ _ before said (take c.in-Ok-eq0.field-0 c.bytes.rest.now) (drop c.in-Ok-eq0.field-0 c.bytes.rest.now) c.in-Ok-eq0.ensures.bytes
    (said_same _ before said c.bytes.rest.now _ (sym (take-append-drop c.in-Ok-eq0.field-0 c.bytes.rest.now)) (c.bytes.invariant before said h)))

pub bytes-preserved : goal.bytes-preserved
bytes-preserved g c = λ before said h.
    let split : c.bytes.rest.now ≡ take c.in-Ok.count c.bytes.rest.now ++ c.split_at.result.1.now =
    sym (take-append-drop c.in-Ok.count c.bytes.rest.now) ∙ ap (λ (l : List ℕ). take c.in-Ok.count c.bytes.rest.now ++ l) (sym c.split_at.ensures.back) in
    said_written _ _ before said (take c.in-Ok.count c.bytes.rest.now) c.split_at.result.1.now c.in-Ok.ensures.bytes
    (said_same _ before said c.bytes.rest.now _ split (c.bytes.invariant before said h))

pub returns-in-Err : goal.returns-in-Err
returns-in-Err g c = λ before said h.
    said_cut _ before said c.bytes.rest.now (said_kept _ _ before said c.bytes.rest.now c.in-Err.ensures.bytes (c.bytes.invariant before said h))

pub returns-in-Err-flush : goal.returns-in-Err-flush
returns-in-Err-flush g c = λ before said h.
    let none = no_bytes c.bytes.rest.now c.bytes-test.ensures in
    said_cut _ before said [] (said_kept _ _ before said [] c.in-Err-flush.ensures.bytes (said_same _ before said c.bytes.rest.now [] none (c.bytes.invariant before said h)))
