use Rattle.std.proofs.Common.{◌≡◌, ◌+◌, ◌-◌, ◌*◌, ◌≤◌, length, take, map}
use Rattle.std.specs.List.{All}
use Rattle.ga_provenance.specs.declared.lines.UsedValue.{UsedValue}
use Rattle.ga_provenance.specs.Lines.{values_due_for_listing, first_provenance_lines, IsLineOfMovedValue}
use Rattle.ga_provenance.specs.inner.{HasValuePartInRange, IsValueInHistory, origin_of_used_value}
use Rattle.ga_provenance.proofs.GrowingLines.{AreListed}
use Rattle.ga_provenance.proofs.lines.find_provenance_lines_at.Given as goal

abbrev pub invariant-listing : goal.invariant-listing
invariant-listing l = record {
  lab : l.search.lab.now ≡ l.lab;
  uses : l.uses.items ≡ values_due_for_listing l.lab l.fn.value l.lines.items;
  lines : l.lines.items ≡ first_provenance_lines l.lab l.fn.value (length l.lines.items);
  passed : AreListed l.lab l.lines.items (take l.next l.uses.items);
  parts : All (λ (usage : UsedValue). HasValuePartInRange usage.used) l.uses.items;
  origins : l.origins.items ≡ map (origin_of_used_value l.lab) l.uses.items;
  kept : All (IsValueInHistory l.lab) l.origins.items;
  most : length l.lines.items ≤ l.most;
  moved : All (IsLineOfMovedValue l.lab) l.lines.items;
}

-- each line uses at most three values
abbrev pub decreases-listing : goal.decreases-listing
decreases-listing l = 4 * (l.most - length l.lines.items) + (length l.uses.items - l.next)
