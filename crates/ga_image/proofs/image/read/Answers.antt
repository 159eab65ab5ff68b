use Rattle.std.proofs.Common.{◌≡◌, ◌+◌, ◌≤◌, arith, sym, ◌∙◌, ap, subst, refl}
use Rattle.std.proofs.lemmas.Bool.{eqb-true}
use Rattle.std.proofs.lemmas.List.{nil_from_length}
use Rattle.ga_text.specs.Lines.{lines_of_text}
use Rattle.ga_image.specs.Reading.{ImageReadProgress, read_result_of_lines, initial_read_progress}
use Rattle.ga_image.specs.inner.{progress_of_parser, stage_of_parser}
use Rattle.ga_image.proofs.Room.{room, IsSized, line_less, start_room, reads_on, reads_fault, reads_end, reads_cut, still_open}
use Rattle.ga_image.proofs.image.read.Goals as goal

pub returns-in-Err : goal.returns-in-Err
returns-in-Err c =
    sym (sym c.loop-rest.invariant.same
    ∙ reads_fault (progress_of_parser c.loop-rest.parser) c.loop-rest.line c.loop-rest.rest.now _ c.first_line.result.1.now c.in-Err.cause c.first_line.ensures.splits (sym c.in-Err.ensures.fault))

pub loop-rest-init : goal.loop-rest-init
loop-rest-init c =
    let Holds : ImageReadProgress → Type 0 = λ progress. (read_result_of_lines progress 1 (lines_of_text c.args.text.now) ≡ read_result_of_lines initial_read_progress 1 (lines_of_text c.args.text.now)) × (1 + room progress ≤ 22767) × IsSized progress in
    let begun = start_room in
    let all : Holds (progress_of_parser c.new-parser.result) = subst Holds (sym c.new-parser.ensures) (refl, omega arith, begun.1) in
    record { same = all.0; counts = all.1; sized = all.2 }

pub loop-rest-preserved : goal.loop-rest-preserved
loop-rest-preserved c =
    let before = progress_of_parser c.loop-rest.parser in
    let less = line_less before c.first_line.result.0.now c.loop-rest.invariant.sized (sym c.in_default.ensures.fault) in
    let onward = reads_on before c.loop-rest.line c.loop-rest.rest.now _ c.first_line.result.1.now c.first_line.ensures.splits (sym c.in_default.ensures.fault) in
    let Holds : ImageReadProgress → Type 0 = λ progress. (read_result_of_lines progress (c.loop-rest.line + 1) (lines_of_text c.first_line.result.1.now) ≡ read_result_of_lines initial_read_progress 1 (lines_of_text c.args.text.now)) × (c.loop-rest.line + 1 + room progress ≤ 22767) × IsSized progress in
    let all : Holds (progress_of_parser c.read_line.new.self) = subst Holds (sym c.in_default.ensures.read) (sym onward ∙ c.loop-rest.invariant.same, omega (arith, less.0), less.1) in
    record { same = all.0; counts = all.1; sized = all.2 }

pub returns-in-Ended : goal.returns-in-Ended
returns-in-Ended c =
    let rest = nil_from_length c.loop-rest.rest.now (eqb-true _ _ (sym c.is_empty.ensures ∙ c.loop-rest-test.false)) in
    sym (sym c.loop-rest.invariant.same ∙ ap (λ t. read_result_of_lines (progress_of_parser c.loop-rest.parser) c.loop-rest.line (lines_of_text t)) rest
    ∙ reads_end (progress_of_parser c.loop-rest.parser) c.loop-rest.line (ap stage_of_parser c.in-Ended.is))

pub returns-in_default-stage : goal.returns-in_default-stage
returns-in_default-stage c =
    let rest = nil_from_length c.loop-rest.rest.now (eqb-true _ _ (sym c.is_empty.ensures ∙ c.loop-rest-test.false)) in
    sym (sym c.loop-rest.invariant.same ∙ ap (λ t. read_result_of_lines (progress_of_parser c.loop-rest.parser) c.loop-rest.line (lines_of_text t)) rest
    ∙ reads_cut (progress_of_parser c.loop-rest.parser) c.loop-rest.line (still_open c.loop-rest.parser.stage c.in_default-stage.not-Ended))
