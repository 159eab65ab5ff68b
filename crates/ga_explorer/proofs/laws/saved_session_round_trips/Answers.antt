use Rattle.std.proofs.Common.{subst}
use Rattle.ga_lab.specs.Machine.{initial_state}
use Rattle.ga_explorer_text.specs.Saved.{saved_session_lines}
use Rattle.ga_explorer.specs.Leading.{LinesLeadToState}
use Rattle.ga_explorer.proofs.Leading.{lines_lead}
use Rattle.ga_explorer.proofs.laws.saved_session_round_trips.Goals as goal

pub returns : goal.returns
returns c = λ s h.
    subst (λ z. LinesLeadToState (initial_state s.load s.limit) (saved_session_lines s) z) (c.states_reachable_by_steps.ensures s h) (lines_lead (initial_state s.load s.limit) s.kept)
