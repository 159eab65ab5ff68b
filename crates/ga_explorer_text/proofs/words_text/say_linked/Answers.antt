use Rattle.std.proofs.Common.{rules, ◌≡◌, ℕ, List, ◌++◌, length, refl, sym, ap, ◌∙◌, arith}
use Rattle.std.specs.Prelude.{flat_map}
use Rattle.ga_text.proofs.WriteLemmas.{truncated_here, truncated_within}
use Rattle.ga_scheduler.specs.Words.{link_transfers, unlisted_transfers}
use Rattle.ga_explorer_text.specs.Texts.{transfer_line_text, link_words_head_line, transfers_text}
use Rattle.ga_explorer_text.proofs.Saying.{line_written, line_truncated, all_said, none_left}
use Rattle.ga_explorer_text.proofs.words_text.say_linked.Goals as goal

pub returns-in_err-write_blocks : goal.returns-in_err-write_blocks
returns-in_err-write_blocks g c = (
  search rules,
  λ before said h.
      let s = c.args.lab.now in
      let lines : List ℕ = flat_map (transfer_line_text c.args.from c.args.to) (link_transfers s c.args.from.number c.args.to.number) in
      let whole : List ℕ = transfers_text s c.args.from c.args.to in (
        whole,
        refl,
        truncated_here c.from_residual.result _ before (said ++ whole) _ c.from_residual.ensures.0
            (truncated_within _ before said c.as_slice.result.now lines whole
            (ap (λ (z : List ℕ). z ++ lines) (c.as_slice.ensures.value ∙ c.head_line.ensures ∙ ap (link_words_head_line c.args.from c.args.to) c.count_transfers-count.ensures))
            (c.in_err-write_blocks.ensures.1 before said h)),
      ),
)

pub telling-init : goal.telling-init
telling-init g c =
    let s = c.args.lab.now in
    let line = transfer_line_text c.args.from c.args.to in record {
      same = search rules;
      up_to = λ before said h. record {
        front = c.as_slice.result.now;
        splits = ap (λ (z : List ℕ). z ++ flat_map line (unlisted_transfers s c.new-words.result))
            (c.as_slice.ensures.value ∙ c.head_line.ensures ∙ ap (link_words_head_line c.args.from c.args.to) c.count_transfers-count.ensures)
            ∙ ap (λ z. link_words_head_line c.args.from c.args.to (length (link_transfers s c.args.from.number c.args.to.number)) ++ flat_map line z) (c.new-words.ensures s);
        is_said = c.in_ok-write_blocks.ensures.1 before said h;
      };
      left = let all : length (unlisted_transfers s c.new-words.result) ≡ c.count_transfers-count.result = ap length (c.new-words.ensures s) ∙ sym c.count_transfers-count.ensures in omega (arith, all);
    }

pub returns-in_default : goal.returns-in_default
returns-in_default g c = (
  search rules,
  λ before said h.
      let s = c.args.lab.now in
      let whole : List ℕ = transfers_text s c.args.from c.args.to in (
        whole,
        refl,
        all_said _ before said whole _ _ (ap (flat_map (transfer_line_text c.args.from c.args.to)) c.in_default.ensures.end) (c.telling.invariant.up_to before said h),
      ),
)

pub returns-in_err-say_sent : goal.returns-in_err-say_sent
returns-in_err-say_sent g c = (
  search rules,
  λ before said h.
      let s = c.args.lab.now in
      let line = transfer_line_text c.args.from c.args.to in
      let whole : List ℕ = transfers_text s c.args.from c.args.to in
      let done = c.telling.invariant.up_to before said h in (
        whole,
        refl,
        truncated_here c.from_residual-in_err-say_sent.result _ before (said ++ whole) _ c.from_residual-in_err-say_sent.ensures.0
            (line_truncated _ before said whole _ (line c.in-Some.sent) _ done.front (ap (flat_map line) c.in-Some.ensures.word) done.splits
            (c.in_err-say_sent.ensures.1 before (said ++ done.front) done.is_said)),
      ),
)

pub telling-preserved : goal.telling-preserved
telling-preserved g c =
    let line = transfer_line_text c.args.from c.args.to in record {
      same = search rules;
      up_to = λ before said h.
          let done = c.telling.invariant.up_to before said h in
          line_written _ before said (transfers_text c.args.lab.now c.args.from c.args.to) _ (line c.in-Some.sent) _ done.front _ (ap (flat_map line) c.in-Some.ensures.word) done.splits
          (c.in_ok-say_sent.ensures.1 before (said ++ done.front) done.is_said);
      left = omega (arith, c.telling.invariant.left, ap length c.in-Some.ensures.word);
    }

pub returns : goal.returns
returns g c = (
  search rules,
  λ before said h.
      let s = c.args.lab.now in
      let whole : List ℕ = transfers_text s c.args.from c.args.to in (
        whole,
        refl,
        all_said _ before said whole _ _
            (ap (flat_map (transfer_line_text c.args.from c.args.to)) (none_left (unlisted_transfers s c.telling.words) (omega (arith, c.telling.invariant.left))))
            (c.telling.invariant.up_to before said h),
      ),
)
