use Rattle.std.proofs.Common.{◌≡◌}
use Rattle.ga_provenance.specs.inner.{IsValueTraced}
use Rattle.ga_provenance.proofs.Runs.{IsGrowing}
use Rattle.ga_provenance.proofs.lines.find_line.Given as goal

abbrev pub invariant-run : goal.invariant-run
invariant-run l = record {
  lab : l.search.lab.now ≡ l.fn.search.lab.now;
  traced : IsValueTraced l.fn.search.lab.now l.oldest;
  user : l.line.user ≡ l.fn.usage.user;
  used : l.line.used ≡ l.fn.usage.used;
  value : l.line.value ≡ l.fn.value;
  run : IsGrowing l.fn.search.lab.now l.lines l.fn.value l.line.count l.line.period l.oldest.value;
}

abbrev pub decreases-run : goal.decreases-run
decreases-run l = l.oldest.value.step
