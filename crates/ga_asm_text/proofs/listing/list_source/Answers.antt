use Rattle.std.proofs.Common.{List, ℕ, [], Some, inl, refl, sym, ap, subst, ◌∙◌}
use Rattle.std.proofs.lemmas.List.{append-nil}
use Rattle.ga_asm_text.specs.inner.{IsListingOutcome}
use Rattle.ga_asm_text.proofs.Sources.{lists, lists_nothing}
use Rattle.ga_asm_text.proofs.listing.list_source.Goals as goal

pub returns-in-Some : goal.returns-in-Some
returns-in-Some g c = λ left before known held.
    let got = c.in-Ok.ensures left known in
    let source = c.in-Ok.source.items in
    let is = subst (λ (text : List ℕ). IsListingOutcome text c.in-Some.listed.is_faulty c.in-Some.listed.text.items) c.as_slice.ensures.value c.in-Some.ensures in
    let done = c.write_listed.ensures before source held is in
    (got.0, got.1, done.0, got.2, got.3, done.1, lists source got.4.0 got.0 got.1 done.0 c.write_listed.result got.4.1 got.4.2 done.2)

pub returns-in-Ok : goal.returns-in-Ok
returns-in-Ok g c = λ left before known held.
    let got = c.in-Ok.ensures left known in
    (got.0, got.1, [], got.2, got.3, held ∙ ap Some (sym (append-nil before)), inl refl)

pub returns : goal.returns
returns g c = λ left before known held.
    let got = c.in-Err.ensures left known in
    (got.0, got.1, [], got.2, got.3, held ∙ ap Some (sym (append-nil before)), lists_nothing got.0 got.1 c.in-Err.status got.5)
