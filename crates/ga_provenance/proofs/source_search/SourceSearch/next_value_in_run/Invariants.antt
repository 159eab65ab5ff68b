use Rattle.std.proofs.Common.{◌≡◌, drop}
use Rattle.std.specs.List.{find}
use Rattle.ga_provenance.specs.Lines.{is_next_value_in_run}
use Rattle.ga_provenance.proofs.source_search.SourceSearch.next_value_in_run.Given as goal

-- none of the values so far is next
abbrev pub invariant-origins : goal.invariant-origins
invariant-origins l = record {
  lab : l.search.lab.now ≡ l.fn.self.lab.now;
  passed : find (is_next_value_in_run l.fn.self.lab.now l.traced.value) (drop l.next-index l.next-items) ≡ find (is_next_value_in_run l.fn.self.lab.now l.traced.value) l.next-items;
}
