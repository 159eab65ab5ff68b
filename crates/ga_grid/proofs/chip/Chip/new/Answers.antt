use Rattle.std.proofs.Common.{◌≡◌, ◌∙◌, ◌++◌, ◌∷◌, [], sym, ap, map, arith}
use Rattle.std.specs.List.{range_with_len}
use Rattle.std.proofs.lemmas.List.FromFn.{map-range_with_len_more}
use Rattle.ga_node.specs.Record.{node_at_load_defaults}
use Rattle.ga_grid.specs.Grid.{initial_p_of_node, default_chip}
use Rattle.ga_grid.proofs.chip.Chip.new.Goals as goal

pub loop-number-preserved : goal.loop-number-preserved
loop-number-preserved c =
    let node : c.new-in-loop-number.result ≡ node_at_load_defaults (initial_p_of_node c.loop-number.number) = c.new-in-loop-number.ensures.kept ∙ ap node_at_load_defaults (c.initial_p.ensures.value ∙ ap initial_p_of_node c.new.ensures) in
    c.in_ok-push.ensures.items
    ∙ ap (λ z. z ++ c.new-in-loop-number.result ∷ []) c.loop-number.invariant
    ∙ ap (λ z. map (λ n. node_at_load_defaults (initial_p_of_node n)) (range_with_len 0 c.loop-number.number) ++ z ∷ []) node
    ∙ sym (map-range_with_len_more (λ n. node_at_load_defaults (initial_p_of_node n)) 0 c.loop-number.number c.loop-number.number (omega arith))

pub returns : goal.returns
unfolding default_chip
returns c = let all : c.loop-number.number ≡ 144 = omega arith in
    c.loop-number.invariant ∙ ap (λ z. map (λ n. node_at_load_defaults (initial_p_of_node n)) (range_with_len 0 z)) all
