-- What `ga144 check` prints of a program that isn't opened, in the format that was asked for: as text what `explore` does, as JSON an object for each line of
-- that and of what standard error has (docs/JSON.md; this project's own).
use Rattle.std.specs.Prelude.{◌≡◌, ℕ, ◌⊎◌, ◌++◌, Option, None, Result, Ok, Err}
use Rattle.ga_text.specs.Lines.{Bytes, Text}
use Rattle.ga_text.specs.Output.{TextHasPrefix}
use Rattle.ga_console.specs.declared.run.Status.{Status}
use Rattle.ga_console.specs.declared.run.Status.TheVariants.{StreamFault}
use Rattle.ga_text.specs.Input.{UnreadInput}
use Rattle.ga_explorer.specs.Opening.{ExplorerState, IsSessionOpenResult, IsUnopenedSession}
use Rattle.ga_json.specs.declared.format.ReportFormat.{ReportFormat}
use Rattle.ga_json.specs.declared.format.ReportFormat.TheVariants as format
use Rattle.ga_json.specs.Diagnostics.{diagnostics_json}

-- a text was written whole, and this is the status; or that failed
abbrev pub IsWrittenWithStatus : Text → Status → Text → Status → Type 0
IsWrittenWithStatus whole status written end = ((written ≡ whole) × (end ≡ status)) ⊎ (TextHasPrefix whole written × (end ≡ StreamFault))

-- an object for each line of the reason, and of what standard error has
abbrev pub HasRefusalJsonObjects : Option Text → Text → Bytes → Bytes → Text → Status → Type 0
HasRefusalJsonObjects chip file read rest written end =
    (reason told : Text) × (status : Status) × IsUnopenedSession chip read rest reason status
    × IsWrittenWithStatus (diagnostics_json file reason ++ diagnostics_json file told) status written end

-- the reason as text, and what standard error has
abbrev pub IsUnopenedProgramAnswer : ReportFormat → Bytes → Bytes → Text → Status → Type 0
IsUnopenedProgramAnswer format.Text read rest written end = IsUnopenedSession None read rest written end
IsUnopenedProgramAnswer (format.Json file) read rest written end = HasRefusalJsonObjects None file.now read rest written end

-- A text was taken of what was left to read, and a machine opened on it; or no session begins, and there are such objects.
abbrev pub IsJsonSessionOpenResult : Option Text → Text → ℕ → Bytes → UnreadInput → Bytes → Text → Result ExplorerState Status → Type 0
IsJsonSessionOpenResult chip file limit left input rest written (Ok begun) = IsSessionOpenResult chip limit left input rest written (Ok begun)
IsJsonSessionOpenResult chip file limit left input rest written (Err status) = (read : Bytes) × (left ≡ read ++ rest) × HasRefusalJsonObjects chip file read rest written status
