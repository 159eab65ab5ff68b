use Rattle.std.proofs.Common.{rules, arith, ◌≡◌, ◌∙◌, sym, Some, ◌<◌, ◌++◌, ◌∷◌, [], false, length, slice_index_or, ap, subst}
use Rattle.ga_grid.specs.declared.node_id.NodeId.{NodeId}
use Rattle.std.specs.Prelude.{Err}
use Rattle.ga_grid.specs.Grid.{optional_node_number}
use Rattle.ga_parser.specs.declared.fault.SourceFaultCause.TheVariants.{Memory}
use Rattle.ga_source.specs.Programs.{HasProgram}
use Rattle.ga_source.proofs.Loaded.{one_more_at}
use Rattle.ga_source.proofs.Refusing.{not_node, too_few, no_such, begun_twice, first_refused, left_first}
use Rattle.ga_source.proofs.Bodies.{one_more_read, one_more_asked}
use Rattle.ga_source.proofs.program.assemble_first.Goals as goal

pub returns-clause-loaded : goal.returns-clause-loaded
returns-clause-loaded c =
    let n = c.in-Some.id.number in
    let program = c.in_ok-program.program in
    let in_id = c.in-Some.id.in_range in
    let in_chip : n < length c.args.chip.now = omega arith in
    let in_begun : n < length c.args.begun.now = omega arith in
    let pushed : c.push.new.self.items ≡ c.args.programs.now.items ++ program ∷ [] = search rules in
    let fresh : slice_index_or c.args.begun.now n false ≡ false = search rules in
    one_more_at c.args.chip.now c.args.begun.now c.args.programs.now.items c.push.new.self.items n c.index-2.result c.assemble_node.new.node program in_chip in_begun c.index-2.ensures.value pushed fresh c.requires.loaded
    (ap (λ id. id.number) c.in_ok-program.ensures.node)
    (subst (λ before. HasProgram before c.assemble_node.new.node program) c.node_mut.ensures.value c.in_ok-program.ensures.loaded)

pub returns-clause-read : goal.returns-clause-read
returns-clause-read c = λ all first.
    one_more_read c.args.words.now c.split_at.result.1.now c.split_at-2.result.0.now _ c.in_ok-word.field-0.now c.in_ok-word-2.field-0.now c.body_length-count.result
    c.in_ok-program.program c.args.programs.now.items c.push.new.self.items all
    (omega arith) c.in_ok-word.ensures.told (sym c.is_node_keyword.ensures ∙ c.if-not-is_node_keyword.false) c.in_ok-word-2.ensures.told
    (sym c.in-Some.ensures ∙ ap (λ (id : NodeId). Some id.number) (sym c.in_ok-program.ensures.node)) (search rules) c.split_at.ensures.back c.split_at-2.ensures.front
    c.body_length-count.ensures.front c.body_length-count.ensures.behind c.in_ok-program.ensures.asks c.in_ok-program.ensures.names first

pub returns-then-not-is_node_keyword-clause-refused : goal.returns-then-not-is_node_keyword-clause-refused
returns-then-not-is_node_keyword-clause-refused c = λ sound.
    absurd (not_node c.args.begun.now c.args.words.now _ c.in_ok-word.field-0.now c.requires.many c.in_ok-word.ensures.told (sym c.is_node_keyword.ensures ∙ c.if-not-is_node_keyword.true) sound)

pub returns-then-words-lt2-clause-refused : goal.returns-then-words-lt2-clause-refused
returns-then-words-lt2-clause-refused c = λ sound. absurd (too_few c.args.begun.now c.args.words.now c.requires.many (omega arith) sound)

pub returns-in_default-clause-refused : goal.returns-in_default-clause-refused
returns-in_default-clause-refused c = λ sound.
    absurd (no_such c.args.begun.now c.args.words.now _ c.in_ok-word-2.field-0.now c.requires.many c.in_ok-word-2.ensures.told (sym c.node_named.ensures ∙ ap optional_node_number c.in_default.is) sound)

pub returns-then-begun-index-clause-refused : goal.returns-then-begun-index-clause-refused
returns-then-begun-index-clause-refused c = λ sound.
    absurd (begun_twice c.args.begun.now c.args.words.now _ c.in_ok-word-2.field-0.now c.requires.many c.in_ok-word-2.ensures.told c.in-Some.id.number c.index.result
    (sym c.in-Some.ensures) c.index.ensures.value c.if-begun-index.true sound)

pub returns-in_err-program-clause-refused : goal.returns-in_err-program-clause-refused
returns-in_err-program-clause-refused c =
    let e : c.from_residual-in_err-program.result ≡ Err c.in_err-program.field-0.0 = search rules in
    rw e (λ sound.
    first_refused c.args.begun.now c.args.words.now _ c.in_ok-word-2.field-0.now c.requires.many c.in_ok-word-2.ensures.told (c.in_err-program.field-0.0.cause ≡ Memory)
    c.split_at.result.1.now c.split_at-2.result.0.now c.body_length-count.result c.split_at.ensures.back c.split_at-2.ensures.front c.body_length-count.ensures.front
    c.in_err-program.ensures.refused sound)

pub returns-clause-sound : goal.returns-clause-sound
returns-clause-sound c = λ sound.
    left_first c.args.begun.now c.args.words.now _ c.in_ok-word-2.field-0.now c.requires.many c.in_ok-word-2.ensures.told c.split_at.result.1.now c.in-Some.id.number c.index-2.result c.body_length-count.result
    c.split_at.ensures.back (sym c.in-Some.ensures) c.body_length-count.ensures.next c.body_length-count.ensures.behind c.index-2.ensures.value sound

pub returns-clause-asked : goal.returns-clause-asked
returns-clause-asked c = λ all first.
    one_more_asked c.args.words.now c.split_at.result.1.now c.split_at-2.result.0.now _ c.in_ok-word.field-0.now c.in_ok-word-2.field-0.now c.body_length-count.result
    c.in_ok-program.program c.args.programs.now.items c.push.new.self.items all
    (omega arith) c.in_ok-word.ensures.told (sym c.is_node_keyword.ensures ∙ c.if-not-is_node_keyword.false) c.in_ok-word-2.ensures.told
    (sym c.in-Some.ensures ∙ ap (λ (id : NodeId). Some id.number) (sym c.in_ok-program.ensures.node)) (search rules) c.split_at.ensures.back c.split_at-2.ensures.front
    c.body_length-count.ensures.said c.body_length-count.ensures.said_behind c.in_ok-program.ensures.asked first
