use Rattle.std.proofs.Common.{rules, ℕ, ◌+◌, List, ◌++◌, length, drop, take, refl, ap, ◌∙◌, arith}
use Rattle.std.specs.Prelude.{flat_map}
use Rattle.ga_display.specs.Texts.{event_text, chain_header_text}
use Rattle.ga_text.proofs.WriteLemmas.{truncated_here, truncated_within, cut_assoc, written_as, said_assoc, listed_none, listed_more, listed_front, listed_all}
use Rattle.ga_console.proofs.readings.say_chain.Goals as goal

pub returns-in_err-write_chain_head : goal.returns-in_err-write_chain_head
returns-in_err-write_chain_head g c = (
  search rules,
  λ before said h.
      let events = c.args.events.now in
      let head : List ℕ = chain_header_text (length events) in
      let whole : List ℕ = head ++ flat_map event_text events in (
        whole,
        refl,
        truncated_here c.from_residual.result _ before (said ++ whole) _ c.from_residual.ensures.0
            (truncated_within _ before said head (flat_map event_text events) whole refl (c.in_err-write_chain_head.ensures.1 before said h)),
      ),
)

pub events-init : goal.events-init
events-init g c = (
  search rules,
  λ before said h.
      let events = c.args.events.now in
      let head : List ℕ = chain_header_text (length events) in
      written_as _ before said head _ _ (listed_none event_text head events) (c.in_ok-write_chain_head.ensures.1 before said h),
)

pub returns-in_err-write_event : goal.returns-in_err-write_event
returns-in_err-write_event g c = (
  search rules,
  λ before said h.
      let events = c.args.events.now in
      let head : List ℕ = chain_header_text (length events) in
      let whole : List ℕ = head ++ flat_map event_text events in
      let i : ℕ = c.events.made-index in
      let front : List ℕ = head ++ flat_map event_text (take i events) in
      let text = event_text c.made-item.result in
      let more = listed_more event_text head events i c.made-item.result text (omega arith) (ap event_text c.made-item.is) in (
        whole,
        refl,
        truncated_here c.from_residual-in_err-write_event.result _ before (said ++ whole) _ c.from_residual-in_err-write_event.ensures.0
            (truncated_within _ before said (front ++ text) (flat_map event_text (drop (i + 1) events)) whole
            (ap (λ (t : List ℕ). t ++ flat_map event_text (drop (i + 1) events)) more ∙ listed_front event_text head events (i + 1))
            (cut_assoc _ before said front text (c.in_err-write_event.ensures.1 before (said ++ front) (c.events.invariant.1 before said h)))),
      ),
)

pub events-preserved : goal.events-preserved
events-preserved g c = (
  search rules,
  λ before said h.
      let events = c.args.events.now in
      let head : List ℕ = chain_header_text (length events) in
      let i : ℕ = c.events.made-index in
      let front : List ℕ = head ++ flat_map event_text (take i events) in
      let text = event_text c.made-item.result in
      written_as _ before said (front ++ text) _ _ (listed_more event_text head events i c.made-item.result text (omega arith) (ap event_text c.made-item.is))
      (said_assoc _ before said front text _ (c.in_ok-write_event.ensures.1 before (said ++ front) (c.events.invariant.1 before said h))),
)

pub returns : goal.returns
returns g c = (
  search rules,
  λ before said h.
      let events = c.args.events.now in
      let head : List ℕ = chain_header_text (length events) in (
        head ++ flat_map event_text events,
        refl,
        written_as _ before said _ _ _ (listed_all event_text head events c.events.made-index (omega arith)) (c.events.invariant.1 before said h),
      ),
)
