use Rattle.std.specs.Prelude.{codes}
use Rattle.std.proofs.Common.{◌≡◌, ℕ, List, ◌∷◌, ◌++◌, length, sym, ap, ◌∙◌, arith, append_assoc}
use Rattle.std.proofs.lemmas.List.{append-nil}
use Rattle.ga_word.specs.Word.{hex_digits_of_word}
use Rattle.ga_node.specs.Record.{record_of_node}
use Rattle.ga_text.specs.Digits.{spaced_words_text}
use Rattle.ga_display.proofs.Pieces.{first_words, piece_more, words_more, words_whole}
use Rattle.ga_display.proofs.node_text.push_stacks.Goals as goal

pub data-preserved : goal.data-preserved
data-preserved g c =
    let old : List ℕ = c.args.out.now.items in
    let words = (record_of_node c.args.node.now).d in
    let place = c.data.place in
    let value = ap (λ (n : ℕ). c.data.out.items ++ 32 ∷ hex_digits_of_word n) c.word_of_data_stack.ensures.value in
    record {
      text = piece_more old c.data.out.items c.push_value.new.out.items (codes " d" ++ spaced_words_text (first_words place words)) _ c.data.invariant.text (c.push_value.ensures.text ∙ value)
          ∙ ap (λ (t : List ℕ). old ++ (codes " d" ++ t)) (sym (words_more place words));
      len = omega (arith, c.data.invariant.len, c.push_value.ensures.len);
      size = λ past. c.word_of_data_stack.ensures.size (omega arith);
    }

pub returns-init : goal.returns-init
returns-init g c =
    let old : List ℕ = c.args.out.now.items in
    let words = (record_of_node c.args.node.now).d in
    let size : length words ≡ 10 = c.data.invariant.size (omega arith) in
    let whole = ap (λ (t : List ℕ). old ++ (codes " d" ++ spaced_words_text t)) (words_whole c.data.place words (omega arith)) in
    record {
      text = piece_more old c.data.out.items c.push_text-2.new.out.items (codes " d" ++ spaced_words_text words) _ (c.data.invariant.text ∙ whole) c.push_text-2.ensures.text
          ∙ ap (λ (t : List ℕ). old ++ t) (sym (append-nil (codes " d" ++ spaced_words_text words ++ codes " r")));
      len = omega (arith, c.data.invariant.len, c.push_text-2.ensures.len);
      size = λ past. absurd (omega (arith, past));
    }

pub returns-preserved : goal.returns-preserved
returns-preserved g c =
    let old : List ℕ = c.args.out.now.items in
    let front : List ℕ = codes " d" ++ spaced_words_text (record_of_node c.args.node.now).d ++ codes " r" in
    let words = (record_of_node c.args.node.now).r in
    let place = c.returns.place in
    let said : List ℕ = spaced_words_text (first_words place words) in
    let value = ap (λ (n : ℕ). c.returns.out.items ++ 32 ∷ hex_digits_of_word n) c.word_of_return_stack.ensures.value in
    record {
      text = piece_more old c.returns.out.items c.push_value-in-returns.new.out.items (front ++ said) _ c.returns.invariant.text (c.push_value-in-returns.ensures.text ∙ value)
          ∙ ap (λ (t : List ℕ). old ++ t) (append_assoc front said _ ∙ ap (λ (t : List ℕ). front ++ t) (sym (words_more place words)));
      len = omega (arith, c.returns.invariant.len, c.push_value-in-returns.ensures.len);
      size = λ past. c.word_of_return_stack.ensures.size (omega arith);
    }

pub returns-clause-text : goal.returns-clause-text
returns-clause-text g c =
    let old : List ℕ = c.args.out.now.items in
    let front : List ℕ = codes " d" ++ spaced_words_text (record_of_node c.args.node.now).d ++ codes " r" in
    let words = (record_of_node c.args.node.now).r in
    let size : length words ≡ 9 = c.returns.invariant.size (omega arith) in
    c.returns.invariant.text ∙ ap (λ (t : List ℕ). old ++ (front ++ spaced_words_text t)) (words_whole c.returns.place words (omega arith))
