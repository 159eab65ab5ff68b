use Rattle.std.proofs.Common.{[], Some, None, ap, ◌≡◌, ◌++◌, ℕ, List, length, take, Ok, ◌⊎◌, inl, inr, subst}
use Rattle.ga_lab.specs.Machine.{MachineState}
use Rattle.ga_explorer.specs.Opening.{ExplorerState}
use Rattle.ga_picture.specs.Following.{IsSilentSessionResult}
use Rattle.ga_wasm.specs.inner.{node_numbers_of_events}
use Rattle.ga_wasm.proofs.makers.ga_kept.Goals as goal

-- The reports of the machine that was reached.
kept_told : (limit result : ℕ) (input old new read rest text : List ℕ) (seen : MachineState) (last : ExplorerState)
    → input ≡ read ++ rest → IsSilentSessionResult None limit read rest text (Ok last) → seen ≡ last.lab
    → (result ≡ 0) ⊎ ((nodes : List ℕ) × (nodes ≡ node_numbers_of_events seen) × (result ≡ length nodes) × (take result new ≡ take (length old) nodes))
    → (result ≡ 0) ⊎ ((read rest text : List ℕ) × (last : ExplorerState) × (input ≡ read ++ rest) × IsSilentSessionResult None limit read rest text (Ok last)
    × (nodes : List ℕ) × (nodes ≡ node_numbers_of_events last.lab) × (result ≡ length nodes) × (take result new ≡ take (length old) nodes))
kept_told limit result input old new read rest text seen last splits reached same (inl none) = inl none
kept_told limit result input old new read rest text seen last splits reached same (inr told) =
    inr (read, rest, text, last, splits, reached, told.0, subst (λ s. told.0 ≡ node_numbers_of_events s) same told.1, told.2, told.3)

pub returns-in-Ok : goal.returns-in-Ok
returns-in-Ok c =
    let done = c.in-Ok.ensures c.args.input.now [] (ap Some c.streams-refusal.ensures.0) (ap Some c.streams-refusal.ensures.1) in
    kept_told c.args.limit c.tell.result c.args.input.now c.args.output.now c.tell.new.output done.0 done.1 done.2 c.lab.result.now c.in-Ok.explorer
    done.3 done.6 c.lab.ensures c.tell.ensures
