use Rattle.std.proofs.Common.{◌∷◌, ◌++◌, [], sym, subst}
use Rattle.std.proofs.lemmas.Result.{on_ok_weaker}
use Rattle.ga_parser.specs.declared.item.AssemblyRequest.{AssemblyRequest}
use Rattle.ga_source.specs.inner.{IsDataCellOrGoToAddress, ArePlainRequestsPacked}
use Rattle.ga_source.proofs.CellGroups.{plain_item}
use Rattle.ga_source.proofs.packing.Packer.take.Goals as goal

pub returns-in-PlaceItem-clause-packed : goal.returns-in-PlaceItem-clause-packed
returns-in-PlaceItem-clause-packed c =
    on_ok_weaker c.put.result (λ put requests plain w.
    let cell = plain_item c.in-PlaceItem.item (subst IsDataCellOrGoToAddress c.in-PlaceItem.is plain) in
    subst (λ (request : AssemblyRequest). ArePlainRequestsPacked c.put.new.self (requests ++ request ∷ [])) (sym c.in-PlaceItem.is) (put cell.n requests cell.is w)) c.put.ensures.packed

pub returns-in-GoToAddress-clause-packed : goal.returns-in-GoToAddress-clause-packed
returns-in-GoToAddress-clause-packed c =
    on_ok_weaker c.go-in-GoToAddress.result (λ go requests plain w.
    subst (λ (request : AssemblyRequest). ArePlainRequestsPacked c.go-in-GoToAddress.new.self (requests ++ request ∷ [])) (sym c.in-GoToAddress.is) (go c.in-GoToAddress.address requests c.first_spot_of_cell.ensures w)) c.go-in-GoToAddress.ensures.packed
