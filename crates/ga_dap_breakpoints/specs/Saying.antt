-- Hit conditions as a client says them (Debug Adapter Protocol, "SourceBreakpoint": the forms are the debugger's own).
use Rattle.std.specs.Prelude.{ℕ, ◌==◌, if◌then◌else◌, codes, bytes_eq, Option, Some, None, option_map, option_and_then}
use Rattle.ga_text.specs.Lines.{Text}
use Rattle.ga_text.specs.Parsing.{split_at_space, parse_number}
use Rattle.ga_dap_breakpoints.specs.declared.condition.HitCondition.{HitCondition}
use Rattle.ga_dap_breakpoints.specs.declared.condition.HitCondition.TheVariants.{OnlyHitNumber, FromHitNumber, EachMultipleOf}

-- ---- hit conditions: N, >= N or % N, with N from 1 on

abbrev pub positive_hit_number : ℕ → Option ℕ
positive_hit_number number = if number == 0 then None else Some number

abbrev pub parse_hit_number : Text → Option ℕ
parse_hit_number text = option_and_then positive_hit_number (parse_number text)

abbrev pub hit_condition_by_operator : Text → ℕ → Option HitCondition
hit_condition_by_operator sign number = if bytes_eq sign (codes ">=") then Some (FromHitNumber number) else if bytes_eq sign (codes "%") then Some (EachMultipleOf number) else None

abbrev pub parse_split_hit_condition : Text → Option (Text × Text) → Option HitCondition
parse_split_hit_condition text None = option_map (λ number. OnlyHitNumber number) (parse_hit_number text)
parse_split_hit_condition text (Some parts) = option_and_then (hit_condition_by_operator parts.0) (parse_hit_number parts.1)

abbrev pub parse_hit_condition : Text → Option HitCondition
parse_hit_condition text = parse_split_hit_condition text (split_at_space text)
