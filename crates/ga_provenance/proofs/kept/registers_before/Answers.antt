use Rattle.std.proofs.Common.{sym, ◌∙◌, arith}
use Rattle.std.proofs.lemmas.Bool.{and_parts}
use Rattle.ga_provenance.specs.declared.kept.TrackedPlace.TheVariants.{A, B}
use Rattle.ga_provenance.specs.inner.{is_unchanged_by_step}
use Rattle.ga_provenance.proofs.Resting.{word_rests}
use Rattle.ga_provenance.proofs.kept.registers_before.Goals as goal

pub returns-then-both_rest : goal.returns-then-both_rest
returns-then-both_rest c =
    let s = c.args.lab.now in
    let n = c.args.node.number in
    let held = c.requires.held in
    let rest = and_parts (is_unchanged_by_step A c.args.told.now) (is_unchanged_by_step B c.args.told.now) (sym c.both_rest.ensures ∙ c.if-both_rest.true) in
    record {
      whole = held.whole;
      within = omega (arith, held.within);
      a = word_rests s n c.args.at c.args.behind.a A c.args.told.now held.whole c.requires.told rest.0 held.a;
      b = word_rests s n c.args.at c.args.behind.b B c.args.told.now held.whole c.requires.told rest.1 held.b;
      a_fits = held.a_fits;
      b_fits = held.b_fits;
    }
