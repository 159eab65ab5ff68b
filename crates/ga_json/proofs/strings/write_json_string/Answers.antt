use Rattle.std.proofs.Common.{[], ◌∷◌, ◌++◌, refl}
use Rattle.ga_json.specs.Compact.{escaped_text, quoted_text}
use Rattle.ga_json.proofs.Says.{begins, goes_on, ends_with, cuts}
use Rattle.ga_json.proofs.strings.write_json_string.Goals as goal

pub returns-in_err-write_text : goal.returns-in_err-write_text
returns-in_err-write_text g c =
    let text = c.args.text.now in
    cuts c.from_residual.result c.write_text.new.self (34 ∷ []) (escaped_text text ++ 34 ∷ []) c.from_residual.ensures.0
    (begins g.W.Write.contents c.args.writer.now (quoted_text text)) refl c.in_err-write_text.ensures

pub returns-in_err-write_escaped : goal.returns-in_err-write_escaped
returns-in_err-write_escaped g c =
    let text = c.args.text.now in
    let start = begins g.W.Write.contents c.args.writer.now (quoted_text text) in
    let opened = goes_on c.write_text.new.self (34 ∷ []) (escaped_text text ++ 34 ∷ []) start refl c.in_ok-write_text.ensures in
    cuts c.from_residual-in_err-write_escaped.result c.write_escaped.new.writer (escaped_text text) (34 ∷ [])
    c.from_residual-in_err-write_escaped.ensures.0 opened refl c.in_err-write_escaped.ensures

pub returns : goal.returns
returns g c =
    let text = c.args.text.now in
    let start = begins g.W.Write.contents c.args.writer.now (quoted_text text) in
    let opened = goes_on c.write_text.new.self (34 ∷ []) (escaped_text text ++ 34 ∷ []) start refl c.in_ok-write_text.ensures in
    ends_with c.write_text-2.result c.write_text-2.new.self (goes_on c.write_escaped.new.writer (escaped_text text) (34 ∷ []) opened refl c.in_ok-write_escaped.ensures)
    c.write_text-2.ensures
