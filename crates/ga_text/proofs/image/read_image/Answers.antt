use Rattle.std.proofs.Common.{◌≡◌, ℕ, ◌-◌, Bool, true, false, List, [], ◌∷◌, ◌++◌, length, take, drop, sym, ap, ◌∙◌, subst, arith, length-append, append_assoc}
use Rattle.ga_text.proofs.Taking.{where_err}
use Rattle.std.proofs.lemmas.Bool.{false≢true}
use Rattle.ga_text.specs.Lines.{line_with_line_feed}
use Rattle.ga_text.specs.inner.{TakesLinePart, line_with_optional_feed}
use Rattle.ga_text.specs.Input.{UnreadInput}
use Rattle.ga_text.specs.Image.{image_end_line}
use Rattle.ga_text.proofs.TextLemmas.{Body, body_more, body_line, line_range, no_end, over_piece, over_all, ended_piece}
use Rattle.ga_text.proofs.image.read_image.Goals as goal

-- what was taken, at a known value of the flag
Taken : UnreadInput → List ℕ → UnreadInput → List ℕ → Bool → Type 0
Taken old text new more fed = (part : List ℕ) × TakesLinePart old part new fed × (more ≡ text ++ line_with_optional_feed part fed)

took : (old : UnreadInput) (text : List ℕ) (new : UnreadInput) (more : List ℕ) (fed value : Bool) → fed ≡ value
    → ((part : List ℕ) × TakesLinePart old part new fed × (more ≡ text ++ line_with_optional_feed part fed))
    → ((part : List ℕ) × TakesLinePart old part new value × (more ≡ text ++ line_with_optional_feed part value))
unfolding Taken
took old text new more fed value e t = subst (Taken old text new more) e t

pub returns-in_err-take_text-clause-err : goal.returns-in_err-take_text-clause-err
returns-in_err-take_text-clause-err g c = where_err c.from_residual.result _ (λ left known.
    let inv = c.parts.invariant.known left known in
    (c.parts.text.items ++ c.parts.input.bytes, inv.0, inv.1, inv.2 ∙ sym (append_assoc c.parts.text.items c.parts.input.bytes inv.0)))

pub parts-preserved-then-branch : goal.parts-preserved-then-branch
parts-preserved-then-branch g c =
    let fed = took c.parts.input c.parts.text.items c.take_text.new.self c.take_text.new.text.items c.in_ok-take_text.field-0 true c.if-branch.true c.in_ok-take_text.ensures.takes in
    let test = c.if-is_end_line.ensures in
    let body = c.parts.invariant.body in
    record {
      within = c.in_ok-take_text.ensures.within;
      body =
          let text : List ℕ = c.take_text.new.text.items in
          let range : take (length c.deref.result.now - c.parts.start) (drop c.parts.start c.deref.result.now) ≡ line_with_line_feed (body.part ++ fed.0) =
          ap (λ (t : List ℕ). take (length t - c.parts.start) (drop c.parts.start t)) c.deref.ensures.value
          ∙ line_range c.parts.text.items text c.parts.start fed.0 body fed.2 in
          let other : line_with_line_feed (body.part ++ fed.0) ≡ line_with_line_feed image_end_line → ⊥ = λ e. false≢true (test.1 (range ∙ e)) in
          let at : length text ≡ c.len-start.result = ap length (sym c.deref.ensures.value) ∙ c.deref.ensures.len ∙ sym c.len-start.ensures in
          subst (Body text) at (body_line c.parts.text.items text c.parts.start fed.0 body fed.1.0 fed.2 other);
      counts = omega (arith, c.parts.invariant.counts, fed.1.2, ap length fed.2, length-append c.parts.text.items (line_with_line_feed fed.0), length-append fed.0 (10 ∷ []));
      known = λ left known.
          let inv = c.parts.invariant.known left known in (
            inv.0,
            inv.1,
            over_piece _ c.parts.text.items _ (line_with_line_feed fed.0) c.parts.input.bytes c.take_text.new.self.bytes inv.0 inv.2
                (ended_piece c.parts.input.bytes fed.0 c.take_text.new.self.bytes fed.1.1) fed.2,
          );
    }

pub parts-preserved : goal.parts-preserved
parts-preserved g c =
    let fed = took c.parts.input c.parts.text.items c.take_text.new.self c.take_text.new.text.items c.in_ok-take_text.field-0 false c.if-branch.false c.in_ok-take_text.ensures.takes in
    let body = c.parts.invariant.body in
    record {
      within = c.in-HasBytes.ensures.within;
      body = body_more c.parts.text.items c.take_text.new.text.items c.parts.start fed.0 body fed.1.0 fed.2;
      counts = omega (arith, c.parts.invariant.counts, fed.1.3, c.in-HasBytes.ensures.taken, ap length fed.2, length-append c.parts.text.items fed.0);
      known = λ left known.
          let inv = c.parts.invariant.known left known in
          let filled = c.in-HasBytes.ensures.fills inv.0 inv.1 in (
            filled.0,
            filled.1,
            over_all _ c.parts.text.items c.take_text.new.text.items c.parts.input.bytes inv.0 inv.2
                (fed.2 ∙ ap (λ (t : List ℕ). c.parts.text.items ++ t) (sym fed.1.1)) ∙ ap (λ (t : List ℕ). c.take_text.new.text.items ++ t) filled.2,
          );
    }

pub returns-in-End-clause-reads : goal.returns-in-End-clause-reads
returns-in-End-clause-reads g c = λ left known.
    let fed = took c.parts.input c.parts.text.items c.take_text.new.self c.take_text.new.text.items c.in_ok-take_text.field-0 false c.if-branch.false c.in_ok-take_text.ensures.takes in
    let inv = c.parts.invariant.known left known in
    let filled = c.in-End.ensures.fills inv.0 inv.1 in (
      filled.0,
      filled.1,
      (
        no_end c.take_text.new.text.items c.parts.start (body_more c.parts.text.items c.take_text.new.text.items c.parts.start fed.0 c.parts.invariant.body fed.1.0 fed.2),
        record {
          splits = over_all _ c.parts.text.items c.take_text.new.text.items c.parts.input.bytes inv.0 inv.2
              (fed.2 ∙ ap (λ (t : List ℕ). c.parts.text.items ++ t) (sym fed.1.1)) ∙ ap (λ (t : List ℕ). c.take_text.new.text.items ++ t) filled.2.0;
          counts = omega (arith, c.parts.invariant.counts, fed.1.3, c.in-End.ensures.taken, ap length fed.2, length-append c.parts.text.items fed.0);
        },
        c.in-End.ensures.filled,
        filled.2.1,
      ),
    )

pub returns-in-PastLimit-clause-reads : goal.returns-in-PastLimit-clause-reads
returns-in-PastLimit-clause-reads g c = λ left known.
    let fed = took c.parts.input c.parts.text.items c.take_text.new.self c.take_text.new.text.items c.in_ok-take_text.field-0 false c.if-branch.false c.in_ok-take_text.ensures.takes in
    let inv = c.parts.invariant.known left known in
    let filled = c.in-PastLimit.ensures.fills inv.0 inv.1 in (
      filled.0,
      filled.1,
      (
        no_end c.take_text.new.text.items c.parts.start (body_more c.parts.text.items c.take_text.new.text.items c.parts.start fed.0 c.parts.invariant.body fed.1.0 fed.2),
        record {
          byte = filled.2.1.0;
          takes = record {
            splits = over_all _ c.parts.text.items c.take_text.new.text.items c.parts.input.bytes inv.0 inv.2
                (fed.2 ∙ ap (λ (t : List ℕ). c.parts.text.items ++ t) (sym fed.1.1)) ∙ ap (λ (t : List ℕ). c.take_text.new.text.items ++ t) filled.2.1.1;
            counts = omega (arith, c.parts.invariant.counts, fed.1.3, c.in-PastLimit.ensures.taken, ap length fed.2, length-append c.parts.text.items fed.0);
          };
          full = omega (arith, filled.2.0, c.in-PastLimit.ensures.taken);
        },
        c.in-PastLimit.ensures.filled,
      ),
    )

pub returns-in-Failed-clause-reads : goal.returns-in-Failed-clause-reads
returns-in-Failed-clause-reads g c = λ left known.
    let fed = took c.parts.input c.parts.text.items c.take_text.new.self c.take_text.new.text.items c.in_ok-take_text.field-0 false c.if-branch.false c.in_ok-take_text.ensures.takes in
    let inv = c.parts.invariant.known left known in
    let filled = c.in-Failed.ensures.fills inv.0 inv.1 in (
      filled.0,
      filled.1,
      (
        no_end c.take_text.new.text.items c.parts.start (body_more c.parts.text.items c.take_text.new.text.items c.parts.start fed.0 c.parts.invariant.body fed.1.0 fed.2),
        over_all _ c.parts.text.items c.take_text.new.text.items c.parts.input.bytes inv.0 inv.2
            (fed.2 ∙ ap (λ (t : List ℕ). c.parts.text.items ++ t) (sym fed.1.1)) ∙ ap (λ (t : List ℕ). c.take_text.new.text.items ++ t) (sym filled.2),
      ),
    )
