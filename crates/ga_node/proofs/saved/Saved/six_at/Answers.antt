use Rattle.std.proofs.Common.{◌≤◌, get_or, Some, ◌∙◌, ap, subst, length, sym}
use Rattle.ga_node.specs.inner.Packed.{unpacked_place_value}
use Rattle.ga_node.proofs.Packing.{first_six, six_at}
use Rattle.ga_node.proofs.saved.Saved.six_at.Goals as goal

pub returns : goal.returns
returns c =
    let ws = c.self.inside.words.items in
    let words = c.deref.ensures.0 in
    let most : length ws ≤ 6 = subst (λ z. length z ≤ 6) words c.deref.ensures.1 in
    six_at ws c.args.self.now c.args.i (first_six ws c.args.self.now c.self.invariant most c.self.view_is) c.requires
    ∙ ap Some (ap (λ z. unpacked_place_value (get_or z c.args.i 0)) (sym words) ∙ sym c.unpack.ensures)
