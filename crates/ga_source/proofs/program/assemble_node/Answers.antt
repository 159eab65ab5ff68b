use Rattle.std.specs.Prelude.{Err}
use Rattle.std.proofs.Common.{inl, inr, refl, rules, ◌≡◌, ◌∙◌, sym, ap, subst, List}
use Rattle.ga_parser.specs.declared.item.LocatedRequest.{LocatedRequest}
use Rattle.ga_parser.specs.declared.item.AssemblyRequest.{AssemblyRequest}
use Rattle.ga_parser.specs.declared.item.InitialRegisters.{InitialRegisters}
use Rattle.ga_parser.specs.Plain.{PlainRequests, optional_register_operand}
use Rattle.ga_source.specs.Made.{requested_cells, AreDistinctCells}
use Rattle.ga_parser.specs.inner.Drafting.{texts_of_tokens}
use Rattle.ga_source.specs.inner.{requests_without_lines, ArePlain, AreRegisterNumbersInRange}
use Rattle.ga_source.proofs.CellGroups.{plain_words}
use Rattle.ga_source.proofs.PlainNodes.{plain_requests, plain_registers}
use Rattle.ga_parser.proofs.PlainAsked.{plain_told, plain_untold}
use Rattle.ga_parser.specs.Requests.{refusal_of_source_fault}
use Rattle.ga_source.proofs.program.assemble_node.Goals as goal

pub returns-clause-asked : goal.returns-clause-asked
returns-clause-asked c = record {
  begins = refl;
  requests = c.in_ok-asked.ensures.asked;
}

pub returns-clause-asks : goal.returns-clause-asks
returns-clause-asks c = λ plain is. (plain_told c.args.line c.args.tokens.now plain is c.in_ok-asked.field-0 c.in_ok-asked.ensures.asked).0

pub returns-clause-names : goal.returns-clause-names
returns-clause-names c = λ plain is. (plain_told c.args.line c.args.tokens.now plain is c.in_ok-asked.field-0 c.in_ok-asked.ensures.asked).1

pub returns-in_err-asked-clause-refused : goal.returns-in_err-asked-clause-refused
returns-in_err-asked-clause-refused c =
    let e : c.from_residual.result ≡ Err c.in_err-asked.field-0.0 = search rules in
    rw e (λ plain kinds is free. elim c.in_err-asked.ensures.refused [
      | inl memory ↦ memory
      | inr refused ↦ absurd (plain_untold c.args.line c.args.tokens.now plain is (refusal_of_source_fault c.in_err-asked.field-0.0) refused kinds)
    ])

pub returns-in_err-packed-clause-refused : goal.returns-in_err-packed-clause-refused
returns-in_err-packed-clause-refused c =
    let e : c.from_residual-in_err-packed.result ≡ Err c.in_err-packed.field-0.0 = search rules in
    rw e (λ plain kinds is free.
    c.in_err-packed.ensures.refused (subst (λ (list : List LocatedRequest). ArePlain (requests_without_lines list)) (sym c.as_slice.ensures.value)
    (plain_requests (texts_of_tokens c.args.tokens.now) plain c.in_ok-asked.field-0.asked.items c.in_ok-asked.field-0.registers is (plain_told c.args.line c.args.tokens.now plain is c.in_ok-asked.field-0 c.in_ok-asked.ensures.asked).0)))

pub returns-in_err-set_registers-clause-refused : goal.returns-in_err-set_registers-clause-refused
returns-in_err-set_registers-clause-refused c =
    let e : c.from_residual-in_err-set_registers.result ≡ Err c.in_err-set_registers.field-0.0 = search rules in
    rw e (λ plain kinds is free.
    absurd (c.in_err-set_registers.ensures.refused (subst (λ (r : InitialRegisters). AreRegisterNumbersInRange (optional_register_operand r.p) (optional_register_operand r.a) (optional_register_operand r.b)) (sym c.registers_of-registers.ensures)
    (plain_registers (texts_of_tokens c.args.tokens.now) plain c.in_ok-asked.field-0.asked.items c.in_ok-asked.field-0.registers c.as_slice-2.result.now c.requests_have_cells.result is (plain_told c.args.line c.args.tokens.now plain is c.in_ok-asked.field-0 c.in_ok-asked.ensures.asked).0
    (c.as_slice-2.ensures.value ∙ (plain_told c.args.line c.args.tokens.now plain is c.in_ok-asked.field-0 c.in_ok-asked.ensures.asked).1)))))

pub returns-in_err-load-clause-refused : goal.returns-in_err-load-clause-refused
returns-in_err-load-clause-refused c =
    let e : c.from_residual-in_err-load.result ≡ Err c.in_err-load.field-0.0 = search rules in
    rw e (λ plain kinds is free.
    let asks = (plain_told c.args.line c.args.tokens.now plain is c.in_ok-asked.field-0 c.in_ok-asked.ensures.asked).0 in
    let same : plain.requests ≡ requests_without_lines c.as_slice.result.now = ap (λ (p : PlainRequests). p.requests) (sym asks) ∙ ap requests_without_lines (sym c.as_slice.ensures.value) in
    let are : ArePlain (requests_without_lines c.as_slice.result.now) = subst (λ (list : List LocatedRequest). ArePlain (requests_without_lines list)) (sym c.as_slice.ensures.value)
    (plain_requests (texts_of_tokens c.args.tokens.now) plain c.in_ok-asked.field-0.asked.items c.in_ok-asked.field-0.registers is asks) in
    absurd (c.in_err-load.ensures.refused (requested_cells 0 (requests_without_lines c.as_slice.result.now)) (c.in_ok-packed.ensures.cells are)
    (plain_words 0 (requests_without_lines c.as_slice.result.now) are) (subst (λ (list : List AssemblyRequest). AreDistinctCells (requested_cells 0 list)) same free)))
