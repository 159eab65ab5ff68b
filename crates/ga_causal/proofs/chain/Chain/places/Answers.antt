use Rattle.std.proofs.Common.{◌≡◌, ◌∙◌, ℕ, zero, suc, ◌+◌, ◌<◌, List, [], ◌∷◌, ◌++◌, length, map, take, get_or, refl, sym, ap, arith, add-one}
use Rattle.std.proofs.lemmas.List.{take_all}
use Rattle.ga_causal.specs.declared.chain.ChainLink.{ChainLink}
use Rattle.ga_causal.proofs.chain.Chain.places.Goals as goal

abbrev place_of : ChainLink → ℕ
place_of link = link.place

next_place : (links : List ChainLink) (i : ℕ) (d : ChainLink) → i < length links → map place_of (take (suc i) links) ≡ map place_of (take i links) ++ (get_or links i d).place ∷ []
next_place [] i d l = absurd (omega (arith, l))
next_place (x ∷ xs) zero d l = refl
next_place (x ∷ xs) (suc i) d l = ap (λ z. x.place ∷ z) (next_place xs i d (omega (arith, l)))

more_places : (links : List ChainLink) (i : ℕ) (d : ChainLink) (old new : List ℕ) → i < length links → old ≡ map place_of (take i links) → new ≡ old ++ (get_or links i d).place ∷ [] → new ≡ map place_of (take (i + 1) links)
more_places links i d old new l p q =
    q ∙ ap (λ z. z ++ (get_or links i d).place ∷ []) p ∙ sym (ap (λ (n : ℕ). map place_of (take n links)) (add-one i) ∙ next_place links i d l)

pub each-preserved : goal.each-preserved
each-preserved c = (
  more_places c.links-links.result.now c.each.link-index _ _ _ (omega arith) c.each.invariant.0 c.push_reserved.ensures.items,
  omega (arith, c.push_reserved.ensures.len, c.each.invariant.1),
  omega (arith, c.push_reserved.ensures.capacity, c.each.invariant.2),
)

pub returns : goal.returns
returns c =
    c.each.invariant.0 ∙ ap (λ z. map place_of z) (take_all c.each.link-index c.links-links.result.now (omega arith)) ∙ ap (λ z. map place_of z) c.links-links.ensures
