use Rattle.std.proofs.Common.{rules, ℕ, length, ◌∙◌, ap, inl, refl}
use Rattle.ga_display.specs.Texts.{event_counts_text}
use Rattle.ga_console.proofs.ReplyLemmas.{replies}
use Rattle.ga_console.proofs.readings.write_count_reply.Goals as goal

pub returns : goal.returns
returns g c = λ wording. (
  search rules,
  λ before said h.
      let by_kept = ap (λ (n : ℕ). event_counts_text n c.counts.result.made c.counts.result.limit) c.counts.ensures.kept in
      let by_made = ap (λ (n : ℕ). event_counts_text (length c.args.lab.now.kept) n c.counts.result.limit) c.counts.ensures.made in
      let by_limit = ap (event_counts_text (length c.args.lab.now.kept) c.args.lab.now.made) c.counts.ensures.limit in (
        event_counts_text c.counts.result.kept c.counts.result.made c.counts.result.limit,
        inl (replies _ _ c.args.lab.now c.args.lab.now (by_kept ∙ by_made ∙ by_limit) refl),
        c.write_event_counts.ensures.1 before said h,
      ),
)
