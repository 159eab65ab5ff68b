use Rattle.std.proofs.Common.{◌≡◌, drop, length}
use Rattle.ga_source.specs.Stores.{code_lines_with_literals, code_lines_with_word}
use Rattle.ga_source.proofs.stores.note_code.Given as goal

abbrev pub invariant-loop-i : goal.invariant-loop-i
invariant-loop-i l = record {
  size : length l.code ≡ 192;
  noted : code_lines_with_literals l.code l.group.lines.items l.p l.i (drop l.i l.group.items.items) ≡ code_lines_with_word l.fn.code l.group;
}
