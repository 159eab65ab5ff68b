use Rattle.std.proofs.Common.{rules, ◌≡◌, ◌∙◌, ap, sym, true, false, ◌∷◌, []}
use Rattle.ga_source.specs.Reading.{item_fits_at_spot, next_empty_cell_spot}
use Rattle.ga_parser.specs.declared.item.LocatedRequest.{LocatedRequest}
use Rattle.ga_parser.specs.declared.item.AssemblyRequest.TheVariants.{PlaceItem}
use Rattle.ga_source.specs.Cells.{placed_item}
use Rattle.ga_source.proofs.Laying.{item_fits_at_spot-extends, here-item_fits_at_spot, next-item_fits_at_spot}
use Rattle.ga_source.proofs.Walking.{pending_here, pending_next}
use Rattle.ga_source.proofs.Grouped.{putting_here, putting_next}
use Rattle.ga_source.proofs.packing.Packer.make_room.Goals as goal

pub returns-then-item_fits_at_spot-clause-pending : goal.returns-then-item_fits_at_spot-clause-pending
returns-then-item_fits_at_spot-clause-pending c =
    let has : item_fits_at_spot c.args.self.now.labels.items c.args.self.now.spot c.args.item ≡ true = search rules in
    λ before line known w. pending_here c.args.self.now before line c.args.item has known w

pub returns-clause-pending : goal.returns-clause-pending
returns-clause-pending c =
    let none : item_fits_at_spot c.args.self.now.labels.items c.args.self.now.spot c.args.item ≡ false = search rules in
    let is_next = c.next_empty_cell_spot-next.ensures.value ∙ ap next_empty_cell_spot c.in_ok-close.ensures.closed.spot_stays in
    λ before line known w. pending_next c.args.self.now c.close.new.self c.next_empty_cell_spot-next.result before line c.args.item is_next none known c.requires w c.in_ok-close.ensures.closed

pub returns-then-item_fits_at_spot-clause-putting : goal.returns-then-item_fits_at_spot-clause-putting
returns-then-item_fits_at_spot-clause-putting c =
    let p = c.args.self.now in
    let has : item_fits_at_spot p.labels.items p.spot c.args.item ≡ true = search rules in
    λ before line known w g.
    let one : LocatedRequest = record { line = line; request = PlaceItem c.args.item } in
    putting_here p before one c.args.item
    (λ labels more. ap (λ spot. placed_item spot c.args.item line ∷ []) (here-item_fits_at_spot labels p.spot c.args.item (item_fits_at_spot-extends p.labels.items labels p.spot c.args.item more known ∙ has))) w g

pub returns-clause-putting : goal.returns-clause-putting
returns-clause-putting c =
    let p = c.args.self.now in
    let none : item_fits_at_spot p.labels.items p.spot c.args.item ≡ false = search rules in
    let is_next = c.next_empty_cell_spot-next.ensures.value ∙ ap next_empty_cell_spot c.in_ok-close.ensures.closed.spot_stays in
    λ before line known w g.
    let one : LocatedRequest = record { line = line; request = PlaceItem c.args.item } in
    putting_next p c.close.new.self c.next_empty_cell_spot-next.result before one c.args.item
    (λ labels more. ap (λ spot. placed_item spot c.args.item line ∷ []) (next-item_fits_at_spot labels p.spot c.args.item (item_fits_at_spot-extends p.labels.items labels p.spot c.args.item more known ∙ none) ∙ sym is_next))
    w g c.in_ok-close.ensures.closed c.in_ok-close.ensures.gathered
