-- The values from which a value was made.
use Rattle.std.proofs.Common.{◌≡◌, ℕ, ◌-◌, List, [], ◌∷◌, map, Some, None, sym, subst, arith}
use Rattle.std.specs.Prelude.{Option, option_to_list}
use Rattle.std.specs.List.{All}
use Rattle.std.proofs.lemmas.List.Elements.{All-nil, All-cons}
use Rattle.ga_event.specs.declared.made.MadeEvent.{MadeEvent}
use Rattle.ga_event.specs.declared.made.MadeEvent.TheVariants as made
use Rattle.ga_grid.specs.declared.node_id.NodeId.{NodeId}
use Rattle.ga_lab.specs.Machine.{MachineState}
use Rattle.ga_event.specs.declared.flow.part.NodePart.{NodePart}
use Rattle.ga_event.specs.declared.flow.part.NodePart.TheVariants.{Data, Return, Ram, Rom, A, B, P, I, Io, Carry, Slot, Wait, Stop, OutsideWord}
use Rattle.ga_event.specs.Flow.{ValueFlow, CopiedFromPart, From, top_data_part, AreNodePartsInRange, ComputesNothingFromOutsideWord}
use Rattle.ga_provenance.specs.declared.value.PartValue.{PartValue}
use Rattle.ga_provenance.specs.Origins.{value_made_by_step}
use Rattle.ga_provenance.specs.Sources.{source_of_sent_word, source_values_of_flow}
use Rattle.ga_provenance.specs.inner.{HasValuePartInRange}

parts_stand : (node : NodeId) (k : ℕ) (parts : List NodePart) → AreNodePartsInRange parts → All HasValuePartInRange (map (value_made_by_step node k) parts)
parts_stand node k [] are = All-nil HasValuePartInRange
parts_stand node k (at ∷ rest) are = All-cons HasValuePartInRange (value_made_by_step node k at) (map (value_made_by_step node k) rest) are.0 (parts_stand node k rest are.1)

sender_stands : (told : Option MadeEvent) → All HasValuePartInRange (option_to_list (source_of_sent_word told))
sender_stands None = All-nil HasValuePartInRange
sender_stands (Some (made.Own node step kind)) = All-nil HasValuePartInRange
sender_stands (Some (made.Pass w i r j word)) = All-cons HasValuePartInRange (value_made_by_step w (i - 1) top_data_part) [] (omega arith) (All-nil HasValuePartInRange)

sources_stand : (node : NodeId) (k : ℕ) (told : Option MadeEvent) (flow : ValueFlow) → ComputesNothingFromOutsideWord flow → All HasValuePartInRange (source_values_of_flow node k told flow)
sources_stand node k told (CopiedFromPart OutsideWord) is = sender_stands told
sources_stand node k told (CopiedFromPart (Data at)) is = parts_stand node k (Data at ∷ []) (is, tt)
sources_stand node k told (CopiedFromPart (Return at)) is = parts_stand node k (Return at ∷ []) (is, tt)
sources_stand node k told (CopiedFromPart (Ram at)) is = parts_stand node k (Ram at ∷ []) (is, tt)
sources_stand node k told (CopiedFromPart (Rom at)) is = parts_stand node k (Rom at ∷ []) (is, tt)
sources_stand node k told (CopiedFromPart A) is = parts_stand node k (A ∷ []) (tt, tt)
sources_stand node k told (CopiedFromPart B) is = parts_stand node k (B ∷ []) (tt, tt)
sources_stand node k told (CopiedFromPart P) is = parts_stand node k (P ∷ []) (tt, tt)
sources_stand node k told (CopiedFromPart I) is = parts_stand node k (I ∷ []) (tt, tt)
sources_stand node k told (CopiedFromPart Io) is = parts_stand node k (Io ∷ []) (tt, tt)
sources_stand node k told (CopiedFromPart Carry) is = parts_stand node k (Carry ∷ []) (tt, tt)
sources_stand node k told (CopiedFromPart Slot) is = parts_stand node k (Slot ∷ []) (tt, tt)
sources_stand node k told (CopiedFromPart Wait) is = parts_stand node k (Wait ∷ []) (tt, tt)
sources_stand node k told (CopiedFromPart Stop) is = parts_stand node k (Stop ∷ []) (tt, tt)
sources_stand node k told (From parts) is = parts_stand node k parts is

pub parts_of_step : (s : MachineState) (value : PartValue) (k : ℕ) (told : Option MadeEvent) (flow : ValueFlow) (values : List PartValue) → ComputesNothingFromOutsideWord flow → values ≡ source_values_of_flow value.node k told flow → All HasValuePartInRange values
parts_of_step s value k told flow values are is = subst (All HasValuePartInRange) (sym is) (sources_stand value.node k told flow are)
