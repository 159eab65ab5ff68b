use Rattle.std.proofs.Common.{ℕ, List, [], ◌∙◌, ap, sym, refl, append-nil, Some}
use Rattle.ga_debug_info.proofs.faults.tell.Goals as goal

pub returns : goal.returns
returns g c = λ before held.
    c.write_all.ensures before c.args.text.now (record { sent = []; held = held ∙ ap (λ (t : List ℕ). Some t) (sym (append-nil before)); splits = refl })
