use Rattle.std.proofs.Common.{rules}
use Rattle.std.proofs.lemmas.List.{drop_all}
use Rattle.ga_source.proofs.Bodies.{none_read, all_read, none_asked, all_asked}
use Rattle.ga_source.proofs.Refusing.{none_there, source_sound}
use Rattle.ga_source.proofs.program.assemble_words.Goals as goal

pub loop-start-init : goal.loop-start-init
loop-start-init c = record {
  size = c.none_begun-begun.ensures.size;
  loaded = search rules;
  groups = search rules;
  read = none_read c.args.words.now c.new-programs.result.items c.new-programs.ensures.items;
  asked = none_asked c.args.words.now c.new-programs.result.items c.new-programs.ensures.items;
  sound = source_sound c.args.words.now _ (none_there c.none_begun-begun.result c.none_begun-begun.ensures.empty);
}

pub returns-clause-read : goal.returns-clause-read
returns-clause-read c =
    all_read c.args.words.now _ c.loop-start.programs.items (drop_all c.loop-start.start c.args.words.now c.loop-start-test.false) c.loop-start.invariant.read

pub returns-clause-asked : goal.returns-clause-asked
returns-clause-asked c =
    all_asked c.args.words.now _ c.loop-start.programs.items (drop_all c.loop-start.start c.args.words.now c.loop-start-test.false) c.loop-start.invariant.asked
