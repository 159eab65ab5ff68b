use Rattle.std.proofs.Common.{rules, arith, refl, ◌≡◌, ◌++◌, ◌∷◌, []}
use Rattle.std.proofs.lemmas.List.{drop_all}
use Rattle.ga_source.proofs.Bodies.{one_numbered, all_numbered}
use Rattle.ga_source.proofs.numbered_words.number_words.Goals as goal

pub loop-word-init : goal.loop-word-init
loop-word-init c = rw c.new-all.ensures.items refl

pub loop-word-preserved : goal.loop-word-preserved
loop-word-preserved c =
    let pushed : c.push.new.self.items ≡ c.loop-word.all.items ++ c.with_number.result ∷ [] = search rules in
    rw c.saturating_add-number.ensures (one_numbered c.args.words.now c.loop-word.word-index c.loop-word.number _ c.with_number.result c.loop-word.all.items c.push.new.self.items _ (omega arith) c.with_number.ensures pushed c.loop-word.invariant)

pub returns : goal.returns
returns c = all_numbered c.loop-word.number _ c.loop-word.all.items _ (drop_all c.loop-word.word-index c.args.words.now c.loop-word-test.false) c.loop-word.invariant
