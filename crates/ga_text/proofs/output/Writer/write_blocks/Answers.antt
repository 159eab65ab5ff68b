use Rattle.std.proofs.Common.{ℕ, List, [], ◌++◌, ◌≡◌, drop, refl, sym, ap, ◌∙◌, append_assoc, take-append-drop}
use Rattle.std.proofs.lemmas.List.{append-nil}
use Rattle.ga_text.proofs.WriteLemmas.{truncated_here, truncated_within, cut_assoc, written_as, said_assoc, written_pending}
use Rattle.ga_text.proofs.Taking.{no_bytes}
use Rattle.ga_text.proofs.output.Writer.write_blocks.Goals as goal

pub pieces-init : goal.pieces-init
pieces-init g c = (refl, λ before said h. ([], refl, written_pending _ before said _ h))

pub returns-in_err-write_text : goal.returns-in_err-write_text
returns-in_err-write_text g c = (
  c.in_err-write_text.ensures.0 ∙ c.pieces.invariant.0,
  λ before said h.
      let (done, whole, told) = c.pieces.invariant.1 before said h in
      let block : List ℕ = c.split_at.result.0.now in
      let after : List ℕ = c.split_at.result.1.now in
      let parts : c.pieces.rest.now ≡ block ++ after =
      sym (take-append-drop c.min.result c.pieces.rest.now) ∙ ap (λ (t : List ℕ). t ++ drop c.min.result c.pieces.rest.now) (sym c.split_at.ensures.front) ∙ ap (λ (t : List ℕ). block ++ t) (sym c.split_at.ensures.back) in
      truncated_here c.from_residual.result _ before (said ++ c.args.text.now) _ c.from_residual.ensures.0
      (truncated_within _ before said (done ++ block) after c.args.text.now
      (append_assoc done block after ∙ ap (λ (t : List ℕ). done ++ t) (sym parts) ∙ sym whole)
      (cut_assoc _ before said done block (c.in_err-write_text.ensures.1 before (said ++ done) told))),
)

pub pieces-preserved : goal.pieces-preserved
pieces-preserved g c = (
  c.in_ok-write_text.ensures.0 ∙ c.pieces.invariant.0,
  λ before said h.
      let (done, whole, told) = c.pieces.invariant.1 before said h in
      let block : List ℕ = c.split_at.result.0.now in
      let after : List ℕ = c.split_at.result.1.now in
      let parts : c.pieces.rest.now ≡ block ++ after =
      sym (take-append-drop c.min.result c.pieces.rest.now) ∙ ap (λ (t : List ℕ). t ++ drop c.min.result c.pieces.rest.now) (sym c.split_at.ensures.front) ∙ ap (λ (t : List ℕ). block ++ t) (sym c.split_at.ensures.back) in (
        done ++ block,
        whole ∙ ap (λ (t : List ℕ). done ++ t) parts ∙ sym (append_assoc done block after),
        said_assoc _ before said done block _ (c.in_ok-write_text.ensures.1 before (said ++ done) told),
      ),
)

pub returns : goal.returns
returns g c = (
  c.pieces.invariant.0,
  λ before said h.
      let (done, whole, told) = c.pieces.invariant.1 before said h in
      let none = no_bytes c.pieces.rest.now c.pieces-test.ensures in
      written_as _ before said done _ _ (sym (whole ∙ ap (λ (t : List ℕ). done ++ t) none ∙ append-nil done)) told,
)
