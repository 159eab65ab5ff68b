-- The breakpoints of a request, one after another.
use Rattle.std.proofs.Common.{◌≡◌, ◌<◌, ◌+◌, ◌∙◌, ℕ, Bool, List, [], ◌∷◌, drop, get_or, map, length, sym, ap, subst}
use Rattle.std.specs.List.{list_all}
use Rattle.std.proofs.lemmas.List.{length-map, drop_more}
use Rattle.serde_json.specs.Data.{Data}
use Rattle.serde_json.specs.View.{view}
use Rattle.serde_json.specs.declared.value.Value.{Value}
use Rattle.ga_dap_protocol.specs.declared.request.ClientRequest.{ClientRequest}
use Rattle.ga_dap_queries.specs.declared.debuggee.Debuggee.{Debuggee}
use Rattle.ga_dap_queries.specs.Sending.{Message}
use Rattle.ga_dap_control.specs.Breakpoints.{is_exception_filter_name, SetsExceptionFiltersIfKnown}
use Rattle.ga_dap_control.specs.declared.configuration.Configuration.{Configuration}
use Rattle.ga_dap_control.specs.declared.configuration.PlacedBreakpoint.{PlacedBreakpoint}
use Rattle.ga_dap_control.specs.declared.configuration.BreakpointKind.{BreakpointKind}
use Rattle.ga_dap_control.specs.Placing.{BreakpointPlacement, PlacesBreakpoint, PlacesBreakpoints}

pub places_on : (p : Debuggee) (kind : BreakpointKind) (asked : List Value) (k : ℕ) (value : Value) (first old between : BreakpointPlacement) → drop k asked ≡ value ∷ drop (k + 1) asked
    → ((new : BreakpointPlacement) → PlacesBreakpoints p kind (map view (drop k asked)) old new → PlacesBreakpoints p kind (map view asked) first new) → PlacesBreakpoint p kind (view value) old between
    → (new : BreakpointPlacement) → PlacesBreakpoints p kind (map view (drop (k + 1) asked)) between new → PlacesBreakpoints p kind (map view asked) first new
places_on p kind asked k value first old between e all one new rest =
    all new (subst (λ (z : List Value). PlacesBreakpoints p kind (map view z) old new) (sym e) (between, one, rest))

pub counted : {A B : Type 0} (f : A → B) (xs : List A) (ys : List B) → map f xs ≡ ys → length xs ≡ length ys
counted f xs ys e = sym (length-map xs f) ∙ ap length e

pub placed_so : (p : Debuggee) (kind : BreakpointKind) (xs ys : List Data) (start : BreakpointPlacement) (placed kept : List PlacedBreakpoint) (next : ℕ) (final : BreakpointPlacement) → xs ≡ ys
    → start ≡ record { told = []; placed = placed; next = next } → placed ≡ kept → PlacesBreakpoints p kind xs start final
    → PlacesBreakpoints p kind ys (record { told = []; placed = kept; next = next }) final
placed_so p kind xs ys start placed kept next final e begun same places =
    let from : start ≡ record { told = []; placed = kept; next = next } = begun ∙ ap (λ (z : List PlacedBreakpoint). record { told = []; placed = z; next = next }) same in
    subst (λ (z : BreakpointPlacement). PlacesBreakpoints p kind ys z final) from (subst (λ (z : List Data). PlacesBreakpoints p kind z start final) e places)

pub filters_so : (a b : List Data) (known : Bool) (set : Configuration) (request : ClientRequest) (message : Message) (new : Configuration) → a ≡ b
    → known ≡ list_all is_exception_filter_name a → SetsExceptionFiltersIfKnown known a set request message new → SetsExceptionFiltersIfKnown (list_all is_exception_filter_name b) b set request message new
filters_so a b known set request message new e is sets =
    subst (λ (z : List Data). SetsExceptionFiltersIfKnown (list_all is_exception_filter_name z) z set request message new) e
    (subst (λ (z : Bool). SetsExceptionFiltersIfKnown z a set request message new) is sets)

pub behind_one : (values : List Value) (i : ℕ) (value : Value) → i < length values → value ≡ get_or values i value → drop i values ≡ value ∷ drop (i + 1) values
behind_one values i value within is = drop_more values i value within ∙ ap (λ (z : Value). z ∷ drop (i + 1) values) (sym is)
