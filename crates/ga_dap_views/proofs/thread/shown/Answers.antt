use Rattle.std.proofs.Common.{◌≡◌, ◌∙◌, ℕ, sym, ap, map, arith}
use Rattle.serde_json.specs.View.{view}
use Rattle.ga_dap_views.specs.Threads.{node_thread_object, nodes_with_threads}
use Rattle.ga_dap_views.proofs.Lists.{no_threads, thread_step}
use Rattle.ga_dap_views.proofs.thread.shown.Goals as goal

pub nodes-init : goal.nodes-init
nodes-init c = ap (map view) c.new-list.ensures.items ∙ sym (ap (map (node_thread_object c.args.lab.now)) (no_threads c.args.lab.now c.args.programs.now))

pub nodes-preserved : goal.nodes-preserved
nodes-preserved c =
    thread_step c.args.lab.now c.args.programs.now c.nodes.number c.new.result.number _ _ c.new.ensures c.nodes.invariant c.in_ok-add_thread.ensures

pub returns : goal.returns
returns c = let all : c.nodes.number ≡ 144 = omega arith in
    c.nodes.invariant ∙ ap (λ (z : ℕ). map (node_thread_object c.args.lab.now) (nodes_with_threads c.args.lab.now c.args.programs.now z)) all
