use Rattle.std.proofs.Common.{◌≡◌, ◌≤◌, length, map, take, vec_len}
use Rattle.std.specs.Prelude.{vec_capacity}
use Rattle.ga_causal.specs.declared.chain.ChainLink.{ChainLink}
use Rattle.ga_causal.proofs.chain.Chain.places.Given as goal

abbrev pub invariant-each : goal.invariant-each
invariant-each l =
    (l.places.items ≡ map (λ (link : ChainLink). link.place) (take l.link-index l.links)) × (vec_len l.places ≡ l.link-index)
    × (length l.links ≤ vec_capacity l.places)
