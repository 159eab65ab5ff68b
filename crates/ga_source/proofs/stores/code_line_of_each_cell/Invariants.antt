use Rattle.std.proofs.Common.{◌≡◌, drop, length}
use Rattle.ga_source.specs.Stores.{code_lines_with_groups, code_line_of_each_cell}
use Rattle.ga_source.proofs.stores.code_line_of_each_cell.Given as goal

abbrev pub invariant-groups : goal.invariant-groups
invariant-groups l = record {
  size : length l.code ≡ 192;
  noted : code_lines_with_groups l.code (drop l.group-index l.program.groups.items) ≡ code_line_of_each_cell l.program;
}
