use Rattle.std.proofs.Common.{rules, if◌then◌else◌, Bool, ap, sym, ◌∙◌}
use Rattle.ga_explorer_text.specs.Texts.{transfers_text, no_link_refusal}
use Rattle.ga_explorer_text.proofs.words_text.write_link_words.Goals as goal

pub returns-then-are_neighbours : goal.returns-then-are_neighbours
returns-then-are_neighbours g c = (
  search rules,
  λ before said h.
      let done = c.say_linked.ensures.1 before said h in
      let s = c.args.lab.now in (
        done.0,
        done.1 ∙ ap (λ (z : Bool). if z then transfers_text s c.args.from c.args.to else no_link_refusal) (sym c.if-are_neighbours.true ∙ c.are_neighbours.ensures),
        done.2,
      ),
)

pub returns-else-are_neighbours : goal.returns-else-are_neighbours
returns-else-are_neighbours g c = (
  search rules,
  λ before said h.
      let s = c.args.lab.now in (
        no_link_refusal,
        ap (λ (z : Bool). if z then transfers_text s c.args.from c.args.to else no_link_refusal) (sym c.if-are_neighbours.false ∙ c.are_neighbours.ensures),
        c.write_text.ensures.1 before said h,
      ),
)
