-- Chains of direct dependence.
use Rattle.std.specs.Prelude.{ℕ, zero, suc, ◌≡◌, ◌<◌, ◌≤◌, ◌≢◌, ◌==◌, nat_lt, Bool, false, not, ◌&&◌, if◌then◌else◌, List, [], ◌∷◌, ◌++◌, length, Option, Some, None, MatchOption, slice_index_or}
use Rattle.ga_event.specs.declared.event.EventWithLook.{EventWithLook}
use Rattle.ga_causal.specs.declared.chain.ChainLink.{ChainLink}
use Rattle.ga_causal.specs.Dependence.{dependence_rule_at, DependsDirectly, DependsOn, dependent_flags}

-- the link may follow the place: its event depends directly on the one there, by the rule that it names
abbrev pub IsNextChainLink : List EventWithLook → ℕ → ChainLink → Type 0
IsNextChainLink events before link = DependsDirectly events before link.place × (link.rule ≡ dependence_rule_at events before link.place)

-- each link may follow the one before
abbrev pub AreNextChainLinks : List EventWithLook → ℕ → List ChainLink → Type 0
AreNextChainLinks events before [] = Unit {0}
AreNextChainLinks events before (link ∷ links) = IsNextChainLink events before link × AreNextChainLinks events link.place links

-- a chain is not empty, and its first link has rule 0
abbrev pub IsChain : List EventWithLook → List ChainLink → Type 0
IsChain events [] = ⊥
IsChain events (first ∷ links) = (first.place < length events) × (first.rule ≡ 0) × AreNextChainLinks events first.place links

-- `before` is the oldest of the events on which the one at `place` depends directly and which are the cause or depend on it
pub record IsOldestCause (events : List EventWithLook) (cause place before : ℕ) : Type 0 where
  pub dependent : DependsOn events cause before
  pub direct : DependsDirectly events before place
  pub oldest : (other : ℕ) → DependsOn events cause other → DependsDirectly events other place → before ≤ other

-- the chain from the cause to a place, made from its end
pub data IsChainTo (events : List EventWithLook) (cause : ℕ) : ℕ → List ChainLink → Type 0 where
  alone : IsChainTo events cause cause (record { place = cause; rule = 0 } ∷ [])
  longer : {place before : ℕ} {links : List ChainLink} → place ≢ cause → IsOldestCause events cause place before
      → IsChainTo events cause before links
      → IsChainTo events cause place
      (links ++ record { place = place; rule = dependence_rule_at events before place } ∷ [])

-- a chain is answered exactly where the place depends on the cause, and it is the one from there
abbrev pub IsChainAnswer : List EventWithLook → ℕ → ℕ → Option (List ChainLink) → Type 0
IsChainAnswer events cause place answer = MatchOption answer (¬ DependsOn events cause place) (IsChainTo events cause place)

-- whether the event at `place` depends directly on the one at `earlier`, which is the cause or depends on it
abbrev pub is_direct_link_from_cause : List EventWithLook → ℕ → ℕ → ℕ → Bool
is_direct_link_from_cause events cause place earlier =
    slice_index_or (dependent_flags events cause) earlier false && not (dependence_rule_at events earlier place == 0)

-- the least number below a bound that passes a test; the bound where none does
abbrev pub least_number_passing_test : (ℕ → Bool) → ℕ → ℕ
least_number_passing_test test zero = zero
least_number_passing_test test (suc n) =
    if nat_lt (least_number_passing_test test n) n then least_number_passing_test test n else if test n then n else suc n

-- the oldest event on which the one at `place` depends directly and which is the cause or depends on it; `place` where there is none
abbrev pub oldest_cause : List EventWithLook → ℕ → ℕ → ℕ
oldest_cause events cause place = least_number_passing_test (is_direct_link_from_cause events cause place) place

-- the links from the cause to a place that depends on it, made from their end; at most `most` of them
unfoldable pub chain_links_to_effect : ℕ → List EventWithLook → ℕ → ℕ → List ChainLink
chain_links_to_effect zero events cause place = []
chain_links_to_effect (suc most) events cause place =
    if place == cause then record { place = cause; rule = 0 } ∷ []
    else chain_links_to_effect most events cause (oldest_cause events cause place)
    ++ record { place = place; rule = dependence_rule_at events (oldest_cause events cause place) place } ∷ []

-- the chain from the cause to a place, and none where that does not depend on it: the only answer that is found
unfoldable pub chain_from_cause : List EventWithLook → ℕ → ℕ → Option (List ChainLink)
chain_from_cause events cause place =
    if slice_index_or (dependent_flags events cause) place false then Some (chain_links_to_effect (suc place) events cause place) else None
