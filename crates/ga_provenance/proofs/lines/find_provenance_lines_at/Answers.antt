use Rattle.std.proofs.Common.{◌≡◌, ◌<◌, ◌≤◌, false, true, ◌∷◌, [], length, map, sym, ◌∙◌, ap, subst, arith}
use Rattle.std.specs.List.{All}
use Rattle.std.proofs.lemmas.List.{length-append, length-map}
use Rattle.std.proofs.lemmas.List.Elements.{All-get_or, All-append}
use Rattle.ga_lab.specs.Machine.{MachineState}
use Rattle.ga_provenance.specs.declared.lines.UsedValue.{UsedValue}
use Rattle.ga_provenance.specs.declared.lines.ProvenanceLine.{ProvenanceLine}
use Rattle.ga_provenance.specs.Origins.{origin_of_value}
use Rattle.ga_provenance.specs.Sources.{value_sources}
use Rattle.ga_provenance.specs.Lines.{is_value_listed, provenance_line_of_use, oldest_value_of_run}
use Rattle.ga_provenance.specs.inner.{HasValuePartInRange, IsValueInHistory, origin_of_used_value}
use Rattle.ga_provenance.proofs.GrowingLines.{read_origin, more_origins, grown_lines, grown_uses, passed_more, passed_next, next_is_here, none_next, lines_cut, lines_whole, moved_more, parts_more}
use Rattle.ga_provenance.proofs.lines.find_provenance_lines_at.Goals as goal

pub listing-preserved-then-is_value_listed : goal.listing-preserved-then-is_value_listed
listing-preserved-then-is_value_listed c =
    let s = c.args.lab.now in
    let lines = c.listing.lines.items in
    let uses = c.listing.uses.items in
    let found = c.index-origin.result.now in
    let l : c.listing.next < length uses = omega (arith, c.listing-test.true, c.len.ensures, c.listing.uses.ok.0) in
    let made = read_origin s uses c.listing.origins.items c.listing.next c.index-usage.result.now found c.listing.invariant.origins l c.index-usage.ensures c.index-origin.ensures in
    let listed : is_value_listed lines found ≡ true = ap (λ z. is_value_listed z found) (sym c.deref.ensures.value) ∙ sym c.is_value_listed.ensures ∙ c.if-is_value_listed.true in
    record {
      lab = c.listing.invariant.lab;
      uses = c.listing.invariant.uses;
      lines = c.listing.invariant.lines;
      passed = passed_more s lines uses c.listing.next c.index-usage.result.now found l c.index-usage.ensures made listed c.listing.invariant.passed;
      parts = c.listing.invariant.parts;
      origins = c.listing.invariant.origins;
      kept = c.listing.invariant.kept;
      most = c.listing.invariant.most;
      moved = c.listing.invariant.moved;
    }

pub returns-then-as_slice-most-clause-lines : goal.returns-then-as_slice-most-clause-lines
returns-then-as_slice-most-clause-lines c =
    let s = c.args.lab.now in
    let lines = c.listing.lines.items in
    let uses = c.listing.uses.items in
    let found = c.index-origin.result.now in
    let l : c.listing.next < length uses = omega (arith, c.listing-test.true, c.len.ensures, c.listing.uses.ok.0) in
    let made = read_origin s uses c.listing.origins.items c.listing.next c.index-usage.result.now found c.listing.invariant.origins l c.index-usage.ensures c.index-origin.ensures in
    let listed : is_value_listed lines found ≡ false = ap (λ z. is_value_listed z found) (sym c.deref.ensures.value) ∙ sym c.is_value_listed.ensures ∙ c.if-is_value_listed.false in
    lines_cut s c.args.value lines c.index-usage.result.now c.listing.invariant.lines
    (next_is_here s c.args.value lines uses c.listing.next c.index-usage.result.now found c.listing.invariant.uses c.listing.invariant.passed l c.index-usage.ensures made listed)

pub find_line-after-requires-clause-kept : goal.find_line-after-requires-clause-kept
find_line-after-requires-clause-kept c =
    let s = c.args.lab.now in
    let uses = c.listing.uses.items in
    let origins = c.listing.origins.items in
    let found = c.index-origin.result.now in
    let few = ap length c.listing.invariant.origins ∙ length-map uses (origin_of_used_value s) in
    let l : c.listing.next < length origins = omega (arith, c.listing-test.true, c.len.ensures, c.listing.uses.ok.0, few) in
    subst (λ (z : MachineState). IsValueInHistory z found) (sym c.listing.invariant.lab)
    (subst (IsValueInHistory s) (sym c.index-origin.ensures) (All-get_or (IsValueInHistory s) origins c.listing.next found l c.listing.invariant.kept))

pub listing-preserved : goal.listing-preserved
listing-preserved c =
    let s = c.args.lab.now in
    let value = c.args.value in
    let lines = c.listing.lines.items in
    let more = c.push-in-listing.new.self.items in
    let uses = c.listing.uses.items in
    let usage = c.index-usage.result.now in
    let found = c.index-origin.result.now in
    let l : c.listing.next < length uses = omega (arith, c.listing-test.true, c.len.ensures, c.listing.uses.ok.0) in
    let made = read_origin s uses c.listing.origins.items c.listing.next usage found c.listing.invariant.origins l c.index-usage.ensures c.index-origin.ensures in
    let listed : is_value_listed lines found ≡ false = ap (λ z. is_value_listed z found) (sym c.deref.ensures.value) ∙ sym c.is_value_listed.ensures ∙ c.if-is_value_listed.false in
    let lab = c.listing.invariant.lab in
    let line = c.find_line-after.result.1 in
    let next = next_is_here s value lines uses c.listing.next usage found c.listing.invariant.uses c.listing.invariant.passed l c.index-usage.ensures made listed in
    let line_is : line ≡ provenance_line_of_use s lines usage =
    c.find_line-after.ensures.line
    ∙ ap (λ (z : MachineState). provenance_line_of_use z c.deref-in-listing.result.now usage) lab
    ∙ ap (λ z. provenance_line_of_use s z usage) c.deref-in-listing.ensures.value in
    let sources : c.find_line-after.result.2.items ≡ value_sources s (oldest_value_of_run line) =
    c.find_line-after.ensures.used
    ∙ ap (λ (z : ProvenanceLine). value_sources c.listing.search.lab.now (oldest_value_of_run z)) (sym c.find_line-after.ensures.line)
    ∙ ap (λ (z : MachineState). value_sources z (oldest_value_of_run line)) lab in
    let grown = c.in_ok-push-3.ensures.items in
    let user : c.len-in-listing.result ≡ length more = c.len-in-listing.ensures ∙ c.push-in-listing.new.self.ok.0 in
    let a = ap length grown in
    let b = length-append lines (line ∷ []) in
    record {
      lab = c.find_line-after.ensures.lab ∙ lab;
      uses = grown_uses s value lines more line uses c.push_used.new.uses.items c.len-in-listing.result c.find_line-after.result.2.items c.listing.invariant.uses grown user sources c.in_ok-push_used.ensures.ok;
      lines = grown_lines s value lines more usage line c.listing.invariant.lines next line_is grown;
      passed = passed_next s lines more line uses c.push_used.new.uses.items _ c.listing.next usage l c.index-usage.ensures grown line_is c.in_ok-push_used.ensures.ok c.listing.invariant.passed;
      parts = parts_more uses c.push_used.new.uses.items c.len-in-listing.result c.find_line-after.result.2.items c.in_ok-push_used.ensures.ok c.find_line-after.ensures.parts c.listing.invariant.parts;
      origins = more_origins s uses c.push_used.new.uses.items c.len-in-listing.result c.listing.origins.items c.push_origins.new.origins.items c.find_line-after.result.2.items c.find_line-after.result.3.items c.listing.invariant.origins c.in_ok-push_used.ensures.ok c.in_ok-push_origins.ensures
          (c.find_line-after.ensures.origins ∙ ap (λ (z : MachineState). map (origin_of_value z) c.find_line-after.result.2.items) lab);
      kept = subst (All (IsValueInHistory s)) (sym c.in_ok-push_origins.ensures) (All-append (IsValueInHistory s) c.listing.origins.items c.find_line-after.result.3.items c.listing.invariant.kept (subst (λ (z : MachineState). All (IsValueInHistory z) c.find_line-after.result.3.items) lab c.find_line-after.ensures.kept));
      most = (let long = ap length c.as_slice.ensures.value in omega (arith, a, b, long, c.if-as_slice-most.false, c.listing.invariant.most));
      moved = moved_more s lines more usage line line_is
          (subst (λ (u : UsedValue). HasValuePartInRange u.used) (sym c.index-usage.ensures) (All-get_or (λ (u : UsedValue). HasValuePartInRange u.used) uses c.listing.next usage l c.listing.invariant.parts)) grown c.listing.invariant.moved;
    }

pub returns-clause-lines : goal.returns-clause-lines
returns-clause-lines c =
    let s = c.args.lab.now in
    let l : length c.listing.uses.items ≤ c.listing.next = omega (arith, c.listing-test.false, c.len.ensures, c.listing.uses.ok.0) in
    lines_whole s c.args.value c.listing.lines.items c.listing.invariant.lines (none_next s c.args.value c.listing.lines.items c.listing.uses.items c.listing.next c.listing.invariant.uses c.listing.invariant.passed l)
