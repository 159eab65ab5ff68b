-- What a call means for the answers to `why` and `dump`.
use Rattle.std.proofs.Common.{◌≡◌, ℕ, ◌⊎◌, inl, inr, List, [], true, false, Option, Some, None, Result, Ok, Err, refl, sym, ap, subst, ◌∙◌, codes}
use Rattle.std.specs.Prelude.{IsOk}
use Rattle.ga_grid.specs.declared.node_id.NodeId.{NodeId}
use Rattle.ga_event.specs.Told.{count_steps}
use Rattle.ga_console.specs.Replies.{first_node_lacking_step}
use Rattle.ga_causal.specs.declared.chain.ChainLink.{ChainLink}
use Rattle.ga_event.specs.declared.made.MadeEvent.{MadeEvent}
use Rattle.ga_lab.specs.Machine.{MachineState, why_answer}
use Rattle.ga_lab.specs.declared.fault.LabFault.{LabFault}
use Rattle.ga_lab.specs.declared.fault.LabFault.TheVariants.{Memory}
use Rattle.ga_json.specs.Values.{JsonValue}
use Rattle.ga_explorer_json.specs.Refusals.{refusal_json_about_step}
use Rattle.ga_explorer_json.specs.Steps.{chain_json, AreEventsOfChainLinks, IsChainJson, IsWhyJson}

module _ (s : MachineState) (from : NodeId) (k : ℕ) (to : NodeId) (j : ℕ) where
  abbrev pub lacks : NodeId
  lacks = first_node_lacking_step s from k to

  chain_answered : (right : Result (Option (List ChainLink)) LabFault) (answer : JsonValue) → right ≡ why_answer s from.number k to.number j → IsChainJson s lacks right answer → IsWhyJson s from k to j answer
  chain_answered right answer e h = inl (subst (λ (z : Result (Option (List ChainLink)) LabFault). IsChainJson s lacks z answer) e h)

  pub why_none : why_answer s from.number k to.number j ≡ Ok None → IsWhyJson s from k to j (chain_json false [])
  why_none e = chain_answered (Ok None) (chain_json false []) (sym e) refl

  pub why_some : (links : List ChainLink) (events told : List MadeEvent) → why_answer s from.number k to.number j ≡ Ok (Some links) → AreEventsOfChainLinks s told links → events ≡ told
      → IsWhyJson s from k to j (chain_json true events)
  why_some links events told e same is =
      chain_answered (Ok (Some links)) (chain_json true events) (sym e) (told, same, ap (chain_json true) is)

  pub why_refused : (why : LabFault) → (why_answer s from.number k to.number j ≡ Err why) ⊎ ((why ≡ Memory) × IsOk (why_answer s from.number k to.number j))
      → IsWhyJson s from k to j (refusal_json_about_step (codes "why") lacks (count_steps lacks.number s.kept) why)
  why_refused why (inl e) = chain_answered (Err why) (refusal_json_about_step (codes "why") lacks (count_steps lacks.number s.kept) why) (sym e) refl
  why_refused why (inr e) = inr (e.1, ap (refusal_json_about_step (codes "why") lacks (count_steps lacks.number s.kept)) e.0)
