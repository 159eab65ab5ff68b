use Rattle.std.proofs.Common.{◌≡◌, ◌++◌, drop, map}
use Rattle.serde_json.specs.View.{view}
use Rattle.ga_dap_views.specs.Json.{json_whole_number}
use Rattle.ga_dap_queries.proofs.telling.numbers_of.Given as goal

abbrev pub invariant-ids : goal.invariant-ids
invariant-ids l = map view l.list.items ++ map json_whole_number (drop l.id-index l.ids) ≡ map json_whole_number l.ids
