-- What `ga144 asm --json` prints (docs/JSON.md, "Assembly"; this project's own): an object for the image of a source and one for each warning; or one for each
-- line of standard error about a source without an image.
use Rattle.std.specs.Prelude.{◌≡◌, ℕ, pos, ◌⊎◌, List, [], ◌∷◌, ◌++◌, length, flat_map, codes}
use Rattle.std.specs.List.{All}
use Rattle.ga_text.specs.Lines.{Bytes, Text}
use Rattle.ga_text.specs.Image.{HasNoEndLine}
use Rattle.ga_json.specs.Values.{JsonValue, number, string}
use Rattle.ga_json.specs.FieldValues.{text_json}
use Rattle.ga_json.specs.Fields.{NamedValue, json_object}
use Rattle.ga_json.specs.Compact.{json_line}
use Rattle.ga_json.specs.Diagnostics.{diagnostics_json}
use Rattle.ga_json.specs.declared.format.ReportFormat.{ReportFormat}
use Rattle.ga_json.specs.declared.format.ReportFormat.TheVariants as format
use Rattle.ga_parser.specs.declared.fault.SourceFault.{SourceFault}
use Rattle.ga_source.specs.declared.program.Program.{Program}
use Rattle.ga_source.specs.Cells.{HasRequestedCellGroups}
use Rattle.ga_source.specs.Programs.{AreProgramsOfSource}
use Rattle.ga_source.specs.Recovery.{AreFaultsOfSource}
use Rattle.ga_debug_info.specs.Faults.{reported_faults_text, error_prefix, out_of_memory_text, input_too_long_text, store_warning_text, stores_of_programs}
use Rattle.ga_state_expectations.specs.declared.cause.ExpectationFault.{ExpectationFault}
use Rattle.ga_state_expectations.specs.Faults.{expectation_faults_text}
use Rattle.ga_state_expectations.specs.Sources.{HasFaultyExpectations}
use Rattle.ga_console.specs.Race.{IsTruncationOfText}
use Rattle.ga_console.specs.declared.run.Status.{Status}
use Rattle.ga_console.specs.declared.run.Status.TheVariants.{Done, ImageRefused, StreamFault, NotFinished, CommandRefused}
use Rattle.ga_asm_text.specs.Source.{IsAssembledImage, ReadsSourceThatSatisfies, WritesAssembly}

-- ---- an image

abbrev pub image_json_fields : Text → ℕ → Text → List NamedValue
image_json_fields file nodes image =
    (codes "answer", string (codes "image")) ∷ (codes "file", text_json file) ∷ (codes "nodes", number (pos nodes)) ∷ (codes "text", text_json image) ∷ []

abbrev pub image_json_object : Text → ℕ → Text → JsonValue
image_json_object file nodes image = json_object (image_json_fields file nodes image)

-- the lines of standard error about stores over code
abbrev pub store_warnings_text : List Program → Text
store_warnings_text programs = flat_map store_warning_text (stores_of_programs programs)

-- the image with the number of its nodes' programs, and the warnings
abbrev pub image_and_warnings_json : Text → ℕ → Text → Text → Text
image_and_warnings_json file nodes image warnings = json_line (image_json_object file nodes image) ++ diagnostics_json file warnings

-- The image is the source's; its programs are counted, and the warnings are theirs.
pub record IsImageWithWarnings (source image : Text) (nodes : ℕ) (warnings : Text) : Type 0 where
  pub assembled : IsAssembledImage source image
  pub programs : List Program
  pub asked : AreProgramsOfSource source programs
  pub groups : All HasRequestedCellGroups programs
  pub count : nodes ≡ length programs
  pub warned : warnings ≡ store_warnings_text programs

abbrev pub IsImageJson : Text → Text → Text → Type 0
IsImageJson file source text = (image warnings : Text) × (nodes : ℕ) × IsImageWithWarnings source image nodes warnings × (text ≡ image_and_warnings_json file nodes image warnings)

-- ---- a source without an image

-- what standard error has: that memory ran out, the faults of the source, or those of its lines `expect`
abbrev pub AreSourceFaultLines : Text → Text → Type 0
AreSourceFaultLines source lines =
    (lines ≡ out_of_memory_text)
    ⊎ ((first : SourceFault) × (faults : List SourceFault) × AreFaultsOfSource source first faults × (lines ≡ reported_faults_text error_prefix faults))
    ⊎ ((faults : List ExpectationFault) × HasFaultyExpectations source faults × (lines ≡ expectation_faults_text error_prefix faults))

abbrev pub IsRefusalJson : Text → Text → Text → Type 0
IsRefusalJson file source text = (lines : Text) × AreSourceFaultLines source lines × (text ≡ diagnostics_json file lines)

-- the source wasn't read whole: memory ran out, or it is too long
abbrev pub IsUnreadSourceJson : Text → Text → Type 0
IsUnreadSourceJson file text = (text ≡ diagnostics_json file out_of_memory_text) ⊎ (text ≡ diagnostics_json file input_too_long_text)

-- ---- what may have been written

-- Where read was read of the input, and rest is left of it.
abbrev pub WritesAssemblyJson : Text → Bytes → Bytes → Text → Status → Type 0
WritesAssemblyJson file read rest text Done = ReadsSourceThatSatisfies read rest (λ source. IsImageJson file source text)
WritesAssemblyJson file read rest text ImageRefused = IsUnreadSourceJson file text ⊎ ReadsSourceThatSatisfies read rest (λ source. IsRefusalJson file source text)
WritesAssemblyJson file read rest text StreamFault =
    ((text ≡ []) × HasNoEndLine read)
    ⊎ IsTruncationOfText (IsUnreadSourceJson file) text
    ⊎ ReadsSourceThatSatisfies read rest (λ source. IsTruncationOfText (IsImageJson file source) text ⊎ IsTruncationOfText (IsRefusalJson file source) text)
WritesAssemblyJson file read rest text NotFinished = ⊥
WritesAssemblyJson file read rest text CommandRefused = ⊥

-- the same, as text or as JSON
abbrev pub WritesAssemblyInFormat : ReportFormat → Bytes → Bytes → Text → Status → Type 0
WritesAssemblyInFormat format.Text read rest text status = WritesAssembly read rest text status
WritesAssemblyInFormat (format.Json file) read rest text status = WritesAssemblyJson file.now read rest text status
