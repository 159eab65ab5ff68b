use Rattle.std.proofs.Common.{◌<◌, List, length, sym, subst}
use Rattle.std.specs.Prelude.{IfSome}
use Rattle.ga_parser.specs.declared.item.AssemblyItem.{AssemblyItem}
use Rattle.ga_source.specs.inner.{AreItemsFitting, IsWordOfItems}
use Rattle.ga_source.proofs.Laying.{four_codes, word_found}
use Rattle.ga_source.proofs.loading.word_of.Goals as goal

pub opcode_word-word-requires-clause-last : goal.opcode_word-word-requires-clause-last
opcode_word-word-requires-clause-last c =
    let same = c.as_slice-items.ensures.value in
    four_codes c.args.labels.now c.args.group.now.address c.as_slice-items.result.now (subst (AreItemsFitting c.args.labels.now c.args.group.now.address) (sym same) c.requires.fit)

pub returns-clause-word : goal.returns-clause-word
returns-clause-word c =
    let same = c.as_slice-items.ensures.value in
    let items = c.as_slice-items.result.now in
    let fit = subst (AreItemsFitting c.args.labels.now c.args.group.now.address) (sym same) c.requires.fit in
    let some = subst (λ (list : List AssemblyItem). 0 < length list) (sym same) c.requires.begun in
    subst (λ (list : List AssemblyItem). IfSome c.with_last.result (λ word. IsWordOfItems c.args.labels.now list word)) same
    (word_found c.args.labels.now c.args.group.now.address items c.opcode_word-word.result c.with_last.result some fit c.opcode_word-word.ensures.ops c.opcode_word-word.ensures.behind
    c.with_last.ensures.has c.with_last.ensures.before c.with_last.ensures.behind)
