use Rattle.std.proofs.Common.{◌≡◌, [], ◌∷◌, ◌++◌, ◌∙◌, ap, refl, append_assoc}
use Rattle.std.proofs.lemmas.Grind.{flat_map-append}
use Rattle.ga_text.specs.Lines.{Text}
use Rattle.ga_json.specs.Compact.{escaped_byte_text, escaped_text, quoted_text}
use Rattle.ga_json.proofs.Says.{begins, goes_on, ends_with, cuts}
use Rattle.ga_json.proofs.strings.write_joined_string.Goals as goal

-- the escapes of both parts, one after another
parts : (front rest : Text) → quoted_text (front ++ rest) ≡ 34 ∷ (escaped_text front ++ (escaped_text rest ++ 34 ∷ []))
parts front rest =
    ap (λ (z : Text). 34 ∷ (z ++ 34 ∷ [])) (flat_map-append escaped_byte_text front rest)
    ∙ ap (λ (z : Text). 34 ∷ z) (append_assoc (escaped_text front) (escaped_text rest) (34 ∷ []))

pub returns-in_err-write_text : goal.returns-in_err-write_text
returns-in_err-write_text g c =
    let front = c.args.front.now in
    let rest = c.args.rest.now in
    cuts c.from_residual.result c.write_text.new.self (34 ∷ []) (escaped_text front ++ (escaped_text rest ++ 34 ∷ [])) c.from_residual.ensures.0
    (begins g.W.Write.contents c.args.writer.now (quoted_text (front ++ rest))) (parts front rest) c.in_err-write_text.ensures

pub returns-in_err-write_escaped : goal.returns-in_err-write_escaped
returns-in_err-write_escaped g c =
    let front = c.args.front.now in
    let rest = c.args.rest.now in
    let start = begins g.W.Write.contents c.args.writer.now (quoted_text (front ++ rest)) in
    let opened = goes_on c.write_text.new.self (34 ∷ []) (escaped_text front ++ (escaped_text rest ++ 34 ∷ [])) start (parts front rest) c.in_ok-write_text.ensures in
    cuts c.from_residual-in_err-write_escaped.result c.write_escaped.new.writer (escaped_text front) (escaped_text rest ++ 34 ∷ [])
    c.from_residual-in_err-write_escaped.ensures.0 opened refl c.in_err-write_escaped.ensures

pub returns-in_err-write_escaped-2 : goal.returns-in_err-write_escaped-2
returns-in_err-write_escaped-2 g c =
    let front = c.args.front.now in
    let rest = c.args.rest.now in
    let start = begins g.W.Write.contents c.args.writer.now (quoted_text (front ++ rest)) in
    let opened = goes_on c.write_text.new.self (34 ∷ []) (escaped_text front ++ (escaped_text rest ++ 34 ∷ [])) start (parts front rest) c.in_ok-write_text.ensures in
    let half = goes_on c.write_escaped.new.writer (escaped_text front) (escaped_text rest ++ 34 ∷ []) opened refl c.in_ok-write_escaped.ensures in
    cuts c.from_residual-in_err-write_escaped-2.result c.write_escaped-2.new.writer (escaped_text rest) (34 ∷ [])
    c.from_residual-in_err-write_escaped-2.ensures.0 half refl c.in_err-write_escaped-2.ensures

pub returns : goal.returns
returns g c =
    let front = c.args.front.now in
    let rest = c.args.rest.now in
    let start = begins g.W.Write.contents c.args.writer.now (quoted_text (front ++ rest)) in
    let opened = goes_on c.write_text.new.self (34 ∷ []) (escaped_text front ++ (escaped_text rest ++ 34 ∷ [])) start (parts front rest) c.in_ok-write_text.ensures in
    let half = goes_on c.write_escaped.new.writer (escaped_text front) (escaped_text rest ++ 34 ∷ []) opened refl c.in_ok-write_escaped.ensures in
    ends_with c.write_text-2.result c.write_text-2.new.self (goes_on c.write_escaped-2.new.writer (escaped_text rest) (34 ∷ []) half refl c.in_ok-write_escaped-2.ensures)
    c.write_text-2.ensures
