use Rattle.std.proofs.Common.{◌≡◌, map, take}
use Rattle.std.specs.List.{All}
use Rattle.ga_provenance.specs.Origins.{origin_of_value}
use Rattle.ga_provenance.specs.inner.{IsValueInHistory}
use Rattle.ga_provenance.proofs.source_search.SourceSearch.trace_value_sources.Given as goal

abbrev pub invariant-sources : goal.invariant-sources
invariant-sources l = record {
  lab : l.search.lab.now ≡ l.fn.self.lab.now;
  origins : l.origins.items ≡ map (origin_of_value l.fn.self.lab.now) (take l.source-index l.source-items);
  kept : All (IsValueInHistory l.fn.self.lab.now) l.origins.items;
}
