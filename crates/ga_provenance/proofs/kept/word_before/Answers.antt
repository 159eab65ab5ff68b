use Rattle.std.proofs.Common.{◌+◌, sym, subst}
use Rattle.ga_node.specs.declared.place.NodePlace.{NodePlace}
use Rattle.ga_lab.specs.Holding.{HoldsPlaceValue}
use Rattle.ga_provenance.specs.Origins.{node_after_steps}
use Rattle.ga_provenance.proofs.Resting.{held_old, held_left, word_held, held_word}
use Rattle.ga_provenance.proofs.kept.word_before.Goals as goal

pub returns-in-Some-clause-value : goal.returns-in-Some-clause-value
returns-in-Some-clause-value c =
    let s = c.args.lab.now in
    let n = c.args.node.number in
    word_held c.args.kept (node_after_steps s n c.args.at) c.in-Some.old
    (subst (λ (what : NodePlace). HoldsPlaceValue (node_after_steps s n c.args.at) what c.in-Some.old) c.place.ensures
    (held_old s n c.args.at c.in-Some.old c.place.result c.in-Some.ensures.within c.in-Some.ensures.value))

pub returns-in-None-clause-value : goal.returns-in-None-clause-value
returns-in-None-clause-value c =
    let s = c.args.lab.now in
    let n = c.args.node.number in
    word_held c.args.kept (node_after_steps s n c.args.at) c.args.word
    (subst (λ (what : NodePlace). HoldsPlaceValue (node_after_steps s n c.args.at) what c.args.word) c.place.ensures
    (held_left s n c.args.at c.args.word c.place.result c.requires.within c.in-None.ensures.left
    (subst (λ (what : NodePlace). HoldsPlaceValue (node_after_steps s n (c.args.at + 1)) what c.args.word) (sym c.place.ensures)
    (held_word c.args.kept (node_after_steps s n (c.args.at + 1)) c.args.word c.requires.behind))))
