use Rattle.std.proofs.Common.{◌∙◌, ◌+◌, ◌++◌, ◌∷◌, ℕ, List, Some, ap, sym, drop}
use Rattle.ga_source.specs.Recovery.{fault_at_line_of_word}
use Rattle.ga_asm_text.specs.Source.{fault_line_text, listed_fault_text}
use Rattle.ga_asm_text.specs.inner.{fault_lines_of_tokens}
use Rattle.ga_asm_text.proofs.FaultListing.{tells_skipped, tells_one, left_repeated, left_listed}
use Rattle.ga_asm_text.proofs.fault_lines.FaultLines.push_next.Goals as goal

pub returns-then-is_repeated_fault-clause-told : goal.returns-then-is_repeated_fault-clause-told
returns-then-is_repeated_fault-clause-told c =
    let l = c.args.self.now in
    tells_skipped c.args.text.now.items _ _
    (left_repeated l.lines l.words.now l.last l.faults.items l.told c.index.result.now c.fault_on_line_of_word-fault.result c.requires
    (c.fault_on_line_of_word-fault.ensures ∙ ap (fault_at_line_of_word l.words.now) c.index.ensures) (sym c.is_repeated_fault.ensures ∙ c.if-is_repeated_fault.true))

pub returns-clause-told : goal.returns-clause-told
returns-clause-told c =
    let l = c.args.self.now in
    let fault = c.fault_on_line_of_word-fault.result in
    let left = drop (l.told + 1) l.faults.items in
    tells_one c.args.text.now.items c.push_listed.new.text.items (listed_fault_text l.lines fault) _ _
    (c.in_ok-push_listed.ensures ∙ ap (λ (line : List ℕ). c.args.text.now.items ++ fault_line_text fault line) c.line.ensures.line)
    (left_listed l.lines l.words.now l.last l.faults.items l.told c.index.result.now fault c.requires (c.fault_on_line_of_word-fault.ensures ∙ ap (fault_at_line_of_word l.words.now) c.index.ensures) (sym c.is_repeated_fault.ensures ∙ c.if-is_repeated_fault.false)
    ∙ ap (λ (source : List ℕ). listed_fault_text l.lines fault ∷ fault_lines_of_tokens source l.words.now (Some fault) left) (sym c.line.ensures.same))
