-- Conditions and hit conditions of breakpoints (Debug Adapter Protocol, "SourceBreakpoint"): a value that the node holds after its step, and
-- how it compares with a number; and which hits count.
use Rattle.std.specs.Prelude.{ℕ, ◌%◌, ◌==◌, nat_le, Bool, true, not, ◌&&◌, Option, Some, None}
use Rattle.ga_node.specs.Record.{NodeRecord}
use Rattle.ga_scheduler.specs.Values.{is_value_test_passed}
use Rattle.ga_scheduler.specs.declared.value_test.ValueTest.{ValueTest}
use Rattle.ga_dap_breakpoints.specs.declared.condition.HitCondition.{HitCondition}
use Rattle.ga_dap_breakpoints.specs.declared.condition.HitCondition.TheVariants.{OnlyHitNumber, FromHitNumber, EachMultipleOf}

-- a node that made `steps` steps meets a condition, if there is one
abbrev pub is_optional_value_test_passed : Option ValueTest → NodeRecord → ℕ → Bool
is_optional_value_test_passed None n steps = true
is_optional_value_test_passed (Some test) n steps = is_value_test_passed test n steps

-- ---- the hits, by their numbers from 1 on

abbrev pub meets_hit_condition : Option HitCondition → ℕ → Bool
meets_hit_condition None number = true
meets_hit_condition (Some (OnlyHitNumber asked)) number = number == asked
meets_hit_condition (Some (FromHitNumber first)) number = nat_le first number
meets_hit_condition (Some (EachMultipleOf step)) number = not (step == 0) && number % step == 0
