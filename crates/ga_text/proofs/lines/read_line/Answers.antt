use Rattle.std.proofs.Common.{[], ◌∷◌, ◌++◌, refl, ◌∙◌, sym, arith, length-append}
use Rattle.ga_text.proofs.WriteLemmas.{line_none, line_same, line_piece, line_all, at_err}
use Rattle.std.specs.Prelude.{Result}
use Rattle.ga_text.specs.Input.{ReadsLine}
use Rattle.ga_text.specs.declared.output.WriteError.{WriteError}
use Rattle.ga_text.specs.declared.lines.LineEnd.{LineEnd}
use Rattle.ga_text.proofs.lines.read_line.Goals as goal

pub parts-init : goal.parts-init
parts-init g c = record {
  within = c.requires;
  goes_on = omega arith;
  part = λ left known. ([], left, known, line_none _ _ c.clear.ensures, omega arith);
  same = refl;
  said = λ before said h. h;
}

pub returns-then-read_buffered_line-clause-reads : goal.returns-then-read_buffered_line-clause-reads
returns-then-read_buffered_line-clause-reads g c = λ left known.
    let inv = c.parts.invariant.part left known in
    let took = c.if-read_buffered_line.ensures.takes in
    let piece = took.0 in (
      inv.1,
      inv.2,
      record {
        part = inv.0 ++ piece;
        is_line = line_piece _ _ _ inv.0 piece c.parts.input.bytes (10 ∷ c.read_buffered_line.new.self.bytes) inv.1 inv.3 took.1.0 took.1.1 took.2;
        counts = omega (arith, inv.4, took.1.2, length-append inv.0 piece);
      },
    )

pub returns-in_err-flush-clause-reads : goal.returns-in_err-flush-clause-reads
returns-in_err-flush-clause-reads g c = λ left known.
    let inv = c.parts.invariant.part left known in
    let took = c.if-read_buffered_line.ensures.takes in
    let piece = took.0 in (
      inv.1,
      inv.2,
      at_err (λ (r : Result LineEnd WriteError). ReadsLine c.args.input.now left c.read_buffered_line.new.line.items c.read_buffered_line.new.self inv.1 r) c.from_residual.result c.from_residual.ensures.0 (λ why. record {
        part = inv.0 ++ piece;
        is_line = line_all _ _ _ inv.0 piece c.parts.input.bytes inv.1 inv.3 took.1.0 took.1.1 took.2;
        counts = omega (arith, inv.4, took.1.3, length-append inv.0 piece);
        none_left = took.1.2;
      }),
    )

pub parts-preserved : goal.parts-preserved
parts-preserved g c = record {
  within = c.in-HasBytes.ensures.within;
  goes_on = let took = c.if-read_buffered_line.ensures.takes in omega (arith, c.parts.invariant.goes_on, took.1.3, c.in-HasBytes.ensures.taken);
  part = λ left known.
      let inv = c.parts.invariant.part left known in
      let took = c.if-read_buffered_line.ensures.takes in
      let piece = took.0 in
      let filled = c.in-HasBytes.ensures.fills inv.1 inv.2 in (
        inv.0 ++ piece,
        filled.0,
        filled.1,
        line_same _ _ _ inv.1 _ filled.2 (line_all _ _ _ inv.0 piece c.parts.input.bytes inv.1 inv.3 took.1.0 took.1.1 took.2),
        omega (arith, inv.4, took.1.3, c.in-HasBytes.ensures.taken, length-append inv.0 piece),
      );
  same = c.in_ok-flush.ensures.said.0 ∙ c.parts.invariant.same;
  said = λ before said h. c.in_ok-flush.ensures.said.1 before said (c.parts.invariant.said before said h);
}

pub returns-in-End-clause-reads : goal.returns-in-End-clause-reads
returns-in-End-clause-reads g c = λ left known.
    let inv = c.parts.invariant.part left known in
    let took = c.if-read_buffered_line.ensures.takes in
    let piece = took.0 in
    let filled = c.in-End.ensures.fills inv.1 inv.2 in (
      filled.0,
      filled.1,
      (
        record {
          part = inv.0 ++ piece;
          is_line = line_same _ _ _ inv.1 _ filled.2.0 (line_all _ _ _ inv.0 piece c.parts.input.bytes inv.1 inv.3 took.1.0 took.1.1 took.2);
          counts = omega (arith, inv.4, took.1.3, c.in-End.ensures.taken, length-append inv.0 piece);
          none_left = c.in-End.ensures.filled;
        },
        filled.2.1,
      ),
    )

pub returns-in-PastLimit-clause-reads : goal.returns-in-PastLimit-clause-reads
returns-in-PastLimit-clause-reads g c = λ left known.
    let inv = c.parts.invariant.part left known in
    let took = c.if-read_buffered_line.ensures.takes in
    let piece = took.0 in
    let filled = c.in-PastLimit.ensures.fills inv.1 inv.2 in (
      filled.0,
      filled.1,
      record {
        byte = filled.2.1.0;
        takes = record {
          part = inv.0 ++ piece;
          is_line = line_same _ _ _ inv.1 _ filled.2.1.1 (line_all _ _ _ inv.0 piece c.parts.input.bytes inv.1 inv.3 took.1.0 took.1.1 took.2);
          counts = omega (arith, inv.4, took.1.3, c.in-PastLimit.ensures.taken, length-append inv.0 piece);
          none_left = c.in-PastLimit.ensures.filled;
        };
        full = omega (arith, filled.2.0, c.in-PastLimit.ensures.taken);
      },
    )

pub returns-in-Failed-clause-reads : goal.returns-in-Failed-clause-reads
returns-in-Failed-clause-reads g c = λ left known.
    let inv = c.parts.invariant.part left known in
    let took = c.if-read_buffered_line.ensures.takes in
    let piece = took.0 in
    let filled = c.in-Failed.ensures.fills inv.1 inv.2 in (
      filled.0,
      filled.1,
      record {
        part = inv.0 ++ piece;
        is_line = line_same _ _ _ inv.1 _ (sym filled.2) (line_all _ _ _ inv.0 piece c.parts.input.bytes inv.1 inv.3 took.1.0 took.1.1 took.2);
        counts = omega (arith, inv.4, took.1.3, c.in-Failed.ensures.taken, length-append inv.0 piece);
        none_left = c.in-Failed.ensures.filled;
      },
    )
