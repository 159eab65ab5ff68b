use Rattle.std.proofs.Common.{◌≡◌, ◌∙◌, Bool, map, codes, refl, sym, ap, subst}
use Rattle.std.specs.List.{list_any}
use Rattle.serde_json.specs.View.{view}
use Rattle.ga_text.specs.Lines.{Text}
use Rattle.ga_dap_queries.specs.Sending.{Message, bare_success_response, refused_response}
use Rattle.ga_dap_queries.proofs.Sent.{ok_then}
use Rattle.ga_dap_control.specs.declared.configuration.Configuration.{Configuration}
use Rattle.ga_dap_control.specs.Breakpoints.{is_json_string_equal_to, SetsExceptionFiltersIfKnown}
use Rattle.ga_dap_control.proofs.breakpoints.set_filters_if.Goals as goal

pub returns-in_ok-acknowledge-clause-sent : goal.returns-in_ok-acknowledge-clause-sent
returns-in_ok-acknowledge-clause-sent c =
    let new : Configuration = record c.args.settings.now { stops = c.has_filter-stops.result; stuck = c.has_filter-stuck.result; broken = c.has_filter-broken.result } in
    let asked : Text → Bool = λ name. list_any (is_json_string_equal_to name) (map view c.args.filters.now) in
    let e : new ≡ record c.args.settings.now { stops = asked (codes "stop"); stuck = asked (codes "stuck"); broken = asked (codes "broken") } =
    ap (λ (z : Bool). record c.args.settings.now { stops = z; stuck = c.has_filter-stuck.result; broken = c.has_filter-broken.result }) c.has_filter-stops.ensures
    ∙ ap (λ (z : Bool). record c.args.settings.now { stops = asked (codes "stop"); stuck = z; broken = c.has_filter-broken.result }) c.has_filter-stuck.ensures
    ∙ ap (λ (z : Bool). record c.args.settings.now { stops = asked (codes "stop"); stuck = asked (codes "stuck"); broken = z }) c.has_filter-broken.ensures in (
      bare_success_response c.args.request.now,
      subst (λ (z : Bool). SetsExceptionFiltersIfKnown z (map view c.args.filters.now) c.args.settings.now c.args.request.now (bare_success_response c.args.request.now) new) (sym c.if-known.true) (refl, e),
      c.in_ok-acknowledge.ensures.sent,
    )

pub returns-else-known-clause-sent : goal.returns-else-known-clause-sent
returns-else-known-clause-sent c =
    let message : Message = refused_response c.args.request.now (codes "setExceptionBreakpoints: the filters are stop, stuck and broken") in
    ok_then c.refuse.result c.refuse.ensures.sent
    (λ sent. (
      message,
      subst (λ (z : Bool). SetsExceptionFiltersIfKnown z (map view c.args.filters.now) c.args.settings.now c.args.request.now message c.args.settings.now) (sym c.if-known.false) (refl, refl),
      sent,
    ))
