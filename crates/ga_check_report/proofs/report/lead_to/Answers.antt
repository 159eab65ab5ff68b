use Rattle.std.proofs.Common.{◌≡◌, ℕ, ◌<◌, ◌-◌, ◌∙◌, Option, Some, List, [], length, refl, sym, ap, subst, arith}
use Rattle.std.specs.Prelude.{slice_get, slice_index_or, IsSome}
use Rattle.std.proofs.lemmas.Option.{slice_get-get_or}
use Rattle.ga_node.specs.Record.{NodeRecord}
use Rattle.ga_event.specs.Apply.{replay}
use Rattle.ga_lab.specs.Machine.{MachineState, chip_of_machine}
use Rattle.ga_state_ends.specs.Ends.{EndSearchResult}
use Rattle.ga_state_ends.specs.declared.end_kind.EndKind.{EndKind}
use Rattle.ga_check_report.proofs.Leading.{state_within, path_can, led_to, on_both}
use Rattle.ga_check_report.proofs.report.lead_to.Goals as goal

numbered : (kinds listed : List EndKind) (number : ℕ) (default : EndKind) → kinds ≡ listed → number < length listed
    → slice_get listed number ≡ Some (slice_index_or kinds number default)
numbered kinds listed number default is within =
    subst (λ (z : List EndKind). slice_get listed number ≡ Some (slice_index_or z number default)) (sym is) (slice_get-get_or listed number default within)

pub path_from_initial_state-requires : goal.path_from_initial_state-requires
path_from_initial_state-requires c =
    let nothing : EndKind = record { nodes = []; unclean = []; ends = 0; state = 0 } in
    state_within (chip_of_machine c.args.lab.now) c.args.found.now (c.args.asked - 1) (slice_index_or c.kinds.result.now (c.args.asked - 1) nothing) c.requires.ends
    (numbered c.kinds.result.now c.args.found.now.kinds (c.args.asked - 1) nothing c.kinds.ensures (omega (arith, c.requires.asked, c.requires.within)))

pub make_all-requires : goal.make_all-requires
make_all-requires c =
    let nothing : EndKind = record { nodes = []; unclean = []; ends = 0; state = 0 } in
    let s : MachineState = c.args.lab.now in
    let found : EndSearchResult = c.args.found.now in
    let kind : EndKind = slice_index_or c.kinds.result.now (c.args.asked - 1) nothing in
    let path = path_can s found (c.args.asked - 1) kind c.in-Ok.events.items c.requires.ends
    (numbered c.kinds.result.now found.kinds (c.args.asked - 1) nothing c.kinds.ensures (omega (arith, c.requires.asked, c.requires.within)))
    c.in-Ok.ensures.leads in
    subst (λ (o : Option (List NodeRecord)). IsSome o) (sym (ap (replay (chip_of_machine s)) c.as_slice.ensures.value ∙ path)) refl

pub returns-in-Ok-clause-led : goal.returns-in-Ok-clause-led
returns-in-Ok-clause-led c =
    let nothing : EndKind = record { nodes = []; unclean = []; ends = 0; state = 0 } in
    let s : MachineState = c.args.lab.now in
    let found : EndSearchResult = c.args.found.now in
    let kind : EndKind = slice_index_or c.kinds.result.now (c.args.asked - 1) nothing in
    let leads : (load chip : List NodeRecord) → slice_get found.searched.chips 0 ≡ Some load → slice_get found.searched.chips kind.state ≡ Some chip
    → replay load c.as_slice.result.now ≡ Some chip = λ load chip first at. ap (replay load) c.as_slice.ensures.value ∙ c.in-Ok.ensures.leads load chip first at in
    on_both c.make_all.result
    (led_to s c.make_all.new.lab found c.args.asked kind c.as_slice.result.now c.requires.ends
    (numbered c.kinds.result.now found.kinds (c.args.asked - 1) nothing c.kinds.ensures (omega (arith, c.requires.asked, c.requires.within))) leads)
    c.make_all.ensures.made c.make_all.ensures.there
