use Rattle.std.proofs.Common.{sym, ◌∙◌, ap, subst}
use Rattle.std.specs.List.{All}
use Rattle.std.proofs.lemmas.List.Elements.{All-push}
use Rattle.ga_lab.specs.Machine.{MachineState}
use Rattle.ga_provenance.specs.Origins.{origin_of_value}
use Rattle.ga_provenance.specs.inner.{IsValueInHistory}
use Rattle.ga_provenance.proofs.Finding.{mapped_more}
use Rattle.ga_provenance.proofs.source_search.SourceSearch.trace_value_sources.Goals as goal

pub sources-preserved : goal.sources-preserved
sources-preserved c =
    let s = c.args.self.lab.now in
    let found = c.origin_of_value-found.result.1 in
    let lab = c.sources.invariant.lab in
    record {
      lab = c.origin_of_value-found.ensures.lab ∙ lab;
      origins = mapped_more (origin_of_value s) c.as_slice-source-items.result.now c.sources.source-index c.source-item.result found c.sources.origins.items c.push.new.self.items c.sources-test.true c.source-item.is c.sources.invariant.origins
          (c.origin_of_value-found.ensures.value ∙ ap (λ (z : MachineState). origin_of_value z c.source-item.result) lab) c.push.ensures.items;
      kept = subst (All (IsValueInHistory s)) (sym c.push.ensures.items)
          (All-push (IsValueInHistory s) c.sources.origins.items found c.sources.invariant.kept (subst (λ (z : MachineState). IsValueInHistory z found) lab c.origin_of_value-found.ensures.kept));
    }
