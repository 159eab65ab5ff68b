-- What `launch` asks for (Debug Adapter Protocol, "LaunchRequest": its arguments are those of this debugger).
use Rattle.std.specs.Prelude.{ℕ, Bool, true, nat_lt, ◌||◌, if◌then◌else◌, codes, bytes_eq, Option, Some, None, option_and_then, option_map, unwrap_or}
use Rattle.serde_json.specs.Data.{Data}
use Rattle.serde_json.specs.Find.{get}
use Rattle.ga_text.specs.Lines.{Text}
use Rattle.ga_text.specs.Parsing.{u32_if_fits}
use Rattle.ga_scheduler.specs.declared.schedule.Schedule.{Schedule}
use Rattle.ga_scheduler.specs.Schedules.{round_robin_schedule, greedy_schedule, random_schedule}
use Rattle.ga_dap_protocol.specs.Messages.{member_as_text, member_as_number}
use Rattle.ga_dap_queries.specs.Arguments.{parse_boolean_member}

-- a limit in range
abbrev pub history_limit_if_in_range : ℕ → Option ℕ
history_limit_if_in_range limit = if nat_lt limit 1 || nat_lt 100000000 limit then None else Some limit

-- the limit of the history: 20000000 if the client names none
abbrev pub history_limit_or_default : Option Data → Option ℕ → Option ℕ
history_limit_or_default None number = Some 20000000
history_limit_or_default (Some given) number = option_and_then history_limit_if_in_range number

abbrev pub parse_history_limit : Data → Option ℕ
parse_history_limit d = history_limit_or_default (get (codes "limit") d) (member_as_number (codes "limit") d)

-- the seed of a drawn order, as `run random` takes it: 0 where the client doesn't say
abbrev pub seed_or_default : Option Data → Option ℕ → Option ℕ
seed_or_default None number = Some 0
seed_or_default (Some given) number = option_and_then u32_if_fits number

abbrev pub parse_seed : Data → Option ℕ
parse_seed d = seed_or_default (get (codes "seed") d) (member_as_number (codes "seed") d)

-- the order of a name
abbrev pub schedule_of_name : Data → Text → Option Schedule
schedule_of_name d name =
    if bytes_eq name (codes "rounds") then Some round_robin_schedule
    else if bytes_eq name (codes "greedy") then Some greedy_schedule
    else if bytes_eq name (codes "random") then option_map random_schedule (parse_seed d)
    else None

-- the order in which the nodes are to make their events: rounds where the client doesn't say
abbrev pub schedule_or_default : Data → Option Data → Option Text → Option Schedule
schedule_or_default d None name = Some round_robin_schedule
schedule_or_default d (Some given) name = option_and_then (schedule_of_name d) name

abbrev pub parse_schedule : Data → Option Schedule
parse_schedule d = schedule_or_default d (get (codes "order") d) (member_as_text (codes "order") d)

-- whether the nodes are stopped at load until the client continues
abbrev pub stops_on_entry : Data → Bool
stops_on_entry d = unwrap_or (parse_boolean_member (codes "stopOnEntry") d) true
