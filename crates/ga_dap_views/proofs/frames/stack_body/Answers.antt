use Rattle.std.proofs.Common.{◌≡◌, ◌+◌, ◌-◌, List, length, map, ap, subst}
use Rattle.std.specs.Prelude.{IfOk}
use Rattle.std.specs.List.{range_with_len}
use Rattle.serde_json.specs.Data.{Data}
use Rattle.serde_json.specs.View.{view}
use Rattle.serde_json.specs.declared.value.Value.{Value}
use Rattle.ga_dap_views.specs.declared.calls.OpenCall.{OpenCall}
use Rattle.ga_dap_views.proofs.Lists.{stack_so}
use Rattle.ga_dap_views.proofs.frames.stack_body.Goals as goal

pub returns : goal.returns
returns c =
    let levels = c.levels_asked-levels.result in
    subst (λ (d : Data). IfOk c.stack_frames_object.result (λ (v : Value). view v ≡ d))
    (stack_so c.args.file c.args.notes.now c.args.lab.now c.args.node c.args.start c.args.count (length c.args.calls.now + 1) (map view c.in_ok-list.list.items) (range_with_len levels.0 (levels.1 - levels.0))
    (ap (λ (z : List OpenCall). length z + 1) c.requires.calls) c.in_ok-list.ensures c.levels_asked-levels.ensures.places)
    c.stack_frames_object.ensures
