-- What the calls of `whence` mean for its answer.
use Rattle.std.proofs.Common.{◌≡◌, ◌≤◌, ℕ, Bool, true, false, List, length, Option, Some, codes, ap, subst, refl, inl, inr}
use Rattle.ga_grid.specs.declared.node_id.NodeId.{NodeId}
use Rattle.ga_debug_info.specs.declared.notes.DebugInfo.{DebugInfo}
use Rattle.ga_event.specs.declared.flow.part.NodePart.{NodePart}
use Rattle.ga_event.specs.Told.{count_steps}
use Rattle.ga_lab.specs.Machine.{MachineState, has_step}
use Rattle.ga_lab.specs.declared.fault.LabFault.TheVariants.{NoStep}
use Rattle.ga_provenance.specs.declared.value.PartValue.{PartValue}
use Rattle.ga_provenance.specs.declared.lines.ProvenanceLine.{ProvenanceLine}
use Rattle.ga_provenance.specs.Lines.{AreProvenanceLinesOf}
use Rattle.ga_explorer_text.specs.Whence.{named_or_selected_part_value, last_written_line_number}
use Rattle.ga_json.specs.Values.{JsonValue}
use Rattle.ga_explorer_json.specs.Refusals.{refusal_json_about_step}
use Rattle.ga_explorer_json.specs.Whence.{provenance_lines_json, IsQueriedValueJson, IsProvenanceJson}

pub whence_nowhere : (notes : Option DebugInfo) (s : MachineState) (node : NodeId) (step : ℕ) (at : Option NodePart) (first : ℕ) → has_step s node.number step ≡ false
    → IsProvenanceJson notes s node step at first (refusal_json_about_step (codes "whence") node (count_steps node.number s.kept) NoStep)
whence_nowhere notes s node step at first e = inl (e, refl)

pub whence_here : (notes : Option DebugInfo) (s : MachineState) (node : NodeId) (step : ℕ) (at : Option NodePart) (first : ℕ) (value : Option PartValue) (answer : JsonValue) → has_step s node.number step ≡ true
    → value ≡ named_or_selected_part_value s node step at → IsQueriedValueJson notes s node step first value answer → IsProvenanceJson notes s node step at first answer
whence_here notes s node step at first value answer e is h = inr (e, subst (λ o. IsQueriedValueJson notes s node step first o answer) is h)

pub lines_found : (notes : Option DebugInfo) (s : MachineState) (node : NodeId) (step first : ℕ) (value : PartValue) (lines written : List ProvenanceLine) (is_whole : Bool) → written ≡ lines
    → AreProvenanceLinesOf s value lines is_whole → length lines ≤ last_written_line_number first → (is_whole ≡ false → length lines ≡ last_written_line_number first)
    → IsQueriedValueJson notes s node step first (Some value) (provenance_lines_json notes s node step first value written is_whole)
lines_found notes s node step first value lines written is_whole same told most cut =
    inr (record {
      lines = lines;
      is_whole = is_whole;
      told = told;
      most = most;
      cut = cut;
      json = ap (λ (z : List ProvenanceLine). provenance_lines_json notes s node step first value z is_whole) same;
    })
