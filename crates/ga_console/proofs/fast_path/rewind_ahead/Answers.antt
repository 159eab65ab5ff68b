use Rattle.std.proofs.Common.{◌≡◌, ℕ, ◌-◌, List, length, take, drop, length-drop, subst, arith}
use Rattle.std.proofs.lemmas.List.{take_all}
use Rattle.ga_console.specs.inner.Run.{IsNumberAhead}
use Rattle.ga_console.proofs.AheadLemmas.{rewind_front}
use Rattle.ga_console.proofs.fast_path.rewind_ahead.Goals as goal

pub returns : goal.returns
returns c =
    let text = c.args.text.now in
    let behind : take (length text - 11) (drop 11 text) ≡ drop 11 text = take_all (length text - 11) (drop 11 text) (omega (arith, length-drop 11 text)) in
    rewind_front text c.in_ok-node.node c.in_ok-step.step c.in_ok-step.digits c.in-32.len_at_least c.requires (omega arith) (omega arith) c.in_ok-node.ensures
    (subst (λ (bytes : List ℕ). IsNumberAhead bytes c.in_ok-step.step c.in_ok-step.digits) behind c.in_ok-step.ensures)
