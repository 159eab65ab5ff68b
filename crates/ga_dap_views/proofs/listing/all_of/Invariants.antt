use Rattle.std.proofs.Common.{◌≡◌, map, take}
use Rattle.serde_json.specs.View.{view}
use Rattle.ga_dap_views.specs.Variables.{node_scope_object, all_scopes}
use Rattle.ga_dap_views.proofs.listing.all_of.Given as goal

abbrev pub invariant-scopes : goal.invariant-scopes
invariant-scopes l = map view l.list.items ≡ map (node_scope_object l.node.number) (take l.place all_scopes)
