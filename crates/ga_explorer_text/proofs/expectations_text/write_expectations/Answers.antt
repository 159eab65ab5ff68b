use Rattle.std.proofs.Common.{rules, inl, inr}
use Rattle.ga_explorer_text.proofs.expectations_text.write_expectations.Goals as goal

pub returns-in-Ok : goal.returns-in-Ok
returns-in-Ok g c = (
  search rules,
  λ before said h.
      let done = c.write_expectation_statuses.ensures.1 before said h in
      (done.0, inl (record { expectations = c.as_slice.result.now; known = rw c.as_slice.ensures.value c.in-Ok.ensures; written = done.1 }), done.2),
)

pub returns-in-Err : goal.returns-in-Err
returns-in-Err g c = (
  search rules,
  λ before said h. (c.advised_refusal_text.result.now, inr c.advised_refusal_text.ensures.text, c.write_text.ensures.1 before said h),
)
