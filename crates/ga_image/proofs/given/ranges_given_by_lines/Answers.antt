-- What was added and what the lines left give are together what all lines give.
use Rattle.std.specs.Prelude.{Option}
use Rattle.std.proofs.Common.{◌≡◌, ◌++◌, refl, List, [], ◌∷◌, ℕ, sym, ◌∙◌, ap, append_assoc, append-nil}
use Rattle.std.proofs.lemmas.Bool.{eqb-true}
use Rattle.std.proofs.lemmas.List.{nil_from_length}
use Rattle.ga_grid.specs.declared.node_id.NodeId.{NodeId}
use Rattle.ga_text.specs.Lines.{Line, lines_of_text}
use Rattle.ga_image.specs.declared.given.GivenRange.{GivenRange}
use Rattle.ga_image.specs.Spelling.{line_form, LineForm}
use Rattle.ga_image.specs.Given.{given_ranges_of_line, node_of_open_block, ranges_given_by_lines}
use Rattle.ga_image.proofs.given.ranges_given_by_lines.Goals as goal

next : (block : Option NodeId) (text : Line) (texts : List Line) → ranges_given_by_lines block (text ∷ texts) ≡ given_ranges_of_line block (line_form text) ++ ranges_given_by_lines (node_of_open_block block (line_form text)) texts
unfolding ranges_given_by_lines
next block text texts = refl

none_left : (block : Option NodeId) (all : List GivenRange) → all ++ ranges_given_by_lines block (lines_of_text []) ≡ all
unfolding ranges_given_by_lines
none_left block all = append-nil all

one_more : (before after all : List GivenRange) (block behind : Option NodeId) (read : Option LineForm) (text : Line) (rest more : List ℕ) → lines_of_text rest ≡ text ∷ lines_of_text more → read ≡ line_form text
    → after ≡ before ++ given_ranges_of_line block read → behind ≡ node_of_open_block block read → before ++ ranges_given_by_lines block (lines_of_text rest) ≡ all → after ++ ranges_given_by_lines behind (lines_of_text more) ≡ all
one_more before after all block behind read text rest more splits spelled added next_block kept =
    ap (λ z. z ++ ranges_given_by_lines behind (lines_of_text more)) added
    ∙ append_assoc before (given_ranges_of_line block read) (ranges_given_by_lines behind (lines_of_text more))
    ∙ ap (λ z. before ++ (given_ranges_of_line block read ++ ranges_given_by_lines z (lines_of_text more))) next_block
    ∙ ap (λ z. before ++ (given_ranges_of_line block z ++ ranges_given_by_lines (node_of_open_block block z) (lines_of_text more))) spelled
    ∙ ap (λ z. before ++ z) (sym (next block text (lines_of_text more)))
    ∙ ap (λ z. before ++ ranges_given_by_lines block z) (sym splits)
    ∙ kept

pub loop-rest-preserved : goal.loop-rest-preserved
loop-rest-preserved c =
    one_more c.loop-rest.ranges.items c.add_line.new.ranges.items _ c.loop-rest.node c.node_of_open_block-node.result _ c.first_line.result.0.now c.loop-rest.rest.now c.first_line.result.1.now
    c.first_line.ensures.splits c.parse-line.ensures c.in_ok-add_line.ensures c.node_of_open_block-node.ensures c.loop-rest.invariant

pub returns : goal.returns
returns c =
    let rest = nil_from_length c.loop-rest.rest.now (eqb-true _ _ (sym c.is_empty.ensures ∙ c.loop-rest-test.false)) in
    sym (none_left c.loop-rest.node c.loop-rest.ranges.items) ∙ ap (λ t. c.loop-rest.ranges.items ++ ranges_given_by_lines c.loop-rest.node (lines_of_text t)) (sym rest) ∙ c.loop-rest.invariant
