use Rattle.std.proofs.Common.{rules, Bool, length, ℕ, ◌-◌, List, [], ◌++◌, refl, Some, sym, ap, subst, ◌∙◌, append_assoc}
use Rattle.std.proofs.lemmas.List.{append-nil}
use Rattle.ga_console.specs.Session.{ServesCommandsWithLimitRefusal}
use Rattle.ga_console.proofs.RunLemmas.{written_fresh}
use Rattle.ga_explorer.specs.Opening.{IsTextBeforeCommands, ExplorerState, explorer_state}
use Rattle.ga_explorer_json.specs.Session.{AnswersJsonAndContinues, AnswersJsonAndEndsSession, long_input_refusal_line}
use Rattle.ga_explorer_json.specs.Session.RunsJsonExplorer.{served, unbegun}
use Rattle.ga_explorer_json.proofs.session.explore_json.Goals as goal

pub returns-in-Ok : goal.returns-in-Ok
returns-in-Ok g c = λ left before known held.
    let begun = c.in-Ok.ensures.begun left before known held in
    let text : List ℕ = begun.4.1 in
    let silent = begun.3 ∙ ap Some (ap (λ (t : List ℕ). before ++ t) begun.4.0 ∙ append-nil before) in
    let done = c.serve_objects-ending.ensures.serves begun.0 before [] begun.2 (written_fresh _ before [] _ (ap g.W.Write.contents c.new-said.ensures.stream ∙ silent) c.new-said.ensures.nothing) in
    let there = done.6 in
    let session = c.serve_objects-ending.new.session in
    let last = explorer_state session.lab session.notes in
    let Q : Bool → ExplorerState → ℕ → Type 0 = λ b e n.
    ServesCommandsWithLimitRefusal long_input_refusal_line (AnswersJsonAndContinues b) (AnswersJsonAndEndsSession b) (16777216 - n) e done.0 done.1 done.2 last c.serve_objects-ending.result in
    let first = c.new-session.result in
    let serves = subst (λ n. Q first.is_strict (explorer_state first.lab first.notes) n) begun.4.3 done.7 in
    let served_here = subst (λ b. Q b c.in-Ok.begun (length text)) c.new-session.ensures.strict (subst (λ e. Q first.is_strict e (length text)) c.new-session.ensures.explorer serves) in (
      text ++ done.0,
      done.1,
      done.3,
      begun.4.2 ∙ ap (λ (l : List ℕ). text ++ l) done.4 ∙ sym (append_assoc text done.0 done.1),
      done.5,
      search rules,
      served c.serve_objects-ending.result c.report_session_end_status.ensures (record {
        text = text;
        commands = done.0;
        begun = c.in-Ok.begun;
        said = done.2;
        splits = refl;
        front = subst (IsTextBeforeCommands text) done.4 begun.4.4;
        opens = begun.4.5;
        last = last;
        serves = served_here;
        out = done.8;
      }),
    )

pub returns-in-Err : goal.returns-in-Err
returns-in-Err g c = λ left before known held.
    let begun = c.in-Err.ensures.begun left before known held in
    (begun.4.0, begun.0, begun.1, begun.4.1, begun.2, begun.3, unbegun begun.4.2)
