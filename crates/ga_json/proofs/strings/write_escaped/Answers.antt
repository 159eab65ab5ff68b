use Rattle.std.proofs.Common.{◌+◌, drop, get_or, refl, ap, arith}
use Rattle.std.proofs.lemmas.List.{drop_more, drop_all}
use Rattle.ga_json.specs.Compact.{escaped_byte_text, escaped_text}
use Rattle.ga_json.proofs.Says.{begins, keeps, goes_on, pushed, ends, cuts_here}
use Rattle.ga_json.proofs.strings.write_escaped.Goals as goal

pub bytes-init : goal.bytes-init
bytes-init g c = begins g.W.Write.contents c.args.writer.now (escaped_text c.args.text.now)

pub returns-in_err-make_room : goal.returns-in_err-make_room
returns-in_err-make_room g c =
    cuts_here c.from_residual.result c.make_room.new.self c.from_residual.ensures.0 c.bytes.invariant c.in_err-make_room.ensures.said

pub bytes-preserved : goal.bytes-preserved
bytes-preserved g c =
    let text = c.args.text.now in
    let i = c.bytes.byte-index in
    let byte = get_or text i 0 in
    let new = record c.make_room.new.self { pending = c.push_escaped.new.out } in
    goes_on new (escaped_byte_text byte) (escaped_text (drop (i + 1) text)) (keeps c.make_room.new.self c.bytes.invariant c.in_ok-make_room.ensures.said)
    (ap escaped_text (drop_more text i 0 (omega arith))) (pushed g.W.Write.contents c.make_room.new.self new (escaped_byte_text byte) refl c.push_escaped.ensures)

pub returns : goal.returns
returns g c = ends (ap escaped_text (drop_all c.bytes.byte-index c.args.text.now (omega arith))) c.bytes.invariant
