-- From what comes of a source to the objects that are written.
use Rattle.std.proofs.Common.{◌≡◌, List, ℕ, ◌++◌, inl, inr, refl, sym, subst}
use Rattle.ga_text.specs.Output.{IsImageReadWhole}
use Rattle.ga_json.specs.Diagnostics.{diagnostics_json}
use Rattle.ga_console.specs.inner.Run.{WritesTextWithStatus}
use Rattle.ga_console.specs.declared.run.Status.{Status}
use Rattle.ga_console.specs.declared.run.Status.TheVariants.{Done, ImageRefused, StreamFault, NotFinished, CommandRefused}
use Rattle.ga_asm_text.specs.SourceJson.{image_and_warnings_json, IsImageWithWarnings, AreSourceFaultLines, IsUnreadSourceJson, WritesAssemblyJson}
use Rattle.ga_asm_text.specs.inner.{status_with_listing_fault, WritesRefusalText, WritesAssemblyJsonAfterRead}

-- a text was written, and the status is that of a refusal
refusal_by : (whole text : List ℕ) (status : Status) → WritesTextWithStatus whole text status → WritesRefusalText whole text (status_with_listing_fault status)
refusal_by whole text Done written = written
refusal_by whole text StreamFault written = written
refusal_by whole text ImageRefused written = absurd written
refusal_by whole text NotFinished written = absurd written
refusal_by whole text CommandRefused written = absurd written

pub refusal_after : (whole text : List ℕ) (status result : Status) → result ≡ status_with_listing_fault status → WritesTextWithStatus whole text status → WritesRefusalText whole text result
refusal_after whole text status result e written = subst (WritesRefusalText whole text) (sym e) (refusal_by whole text status written)

-- the objects about an image were written, or a front of them
pub image_written : (file source image warnings : List ℕ) (nodes : ℕ) (text : List ℕ) (status : Status) → IsImageWithWarnings source image nodes warnings
    → WritesTextWithStatus (image_and_warnings_json file nodes image warnings) text status → WritesAssemblyJsonAfterRead file source text status
image_written file source image warnings nodes text Done is written = (image, warnings, nodes, is, written)
image_written file source image warnings nodes text StreamFault is written =
    inl (record { whole = image_and_warnings_json file nodes image warnings; is_text = (image, warnings, nodes, is, refl); front = written })
image_written file source image warnings nodes text ImageRefused is written = absurd written
image_written file source image warnings nodes text NotFinished is written = absurd written
image_written file source image warnings nodes text CommandRefused is written = absurd written

-- or those about its faults
pub faults_written : (file source lines text : List ℕ) (status : Status) → AreSourceFaultLines source lines → WritesRefusalText (diagnostics_json file lines) text status → WritesAssemblyJsonAfterRead file source text status
faults_written file source lines text ImageRefused are written = (lines, are, written)
faults_written file source lines text StreamFault are written =
    inr (record { whole = diagnostics_json file lines; is_text = (lines, are, refl); front = written })
faults_written file source lines text Done are written = absurd written
faults_written file source lines text NotFinished are written = absurd written
faults_written file source lines text CommandRefused are written = absurd written

-- what was written for the source that was read
pub assembles_as_json : (file source ahead read rest text : List ℕ) (status : Status) → read ≡ source ++ ahead → IsImageReadWhole source ahead rest → WritesAssemblyJsonAfterRead file source text status
    → WritesAssemblyJson file read rest text status
assembles_as_json file source ahead read rest text Done e part written = (source, ahead, e, part, written)
assembles_as_json file source ahead read rest text ImageRefused e part written = inr (source, ahead, e, part, written)
assembles_as_json file source ahead read rest text StreamFault e part written = inr (inr (source, ahead, e, part, written))
assembles_as_json file source ahead read rest text NotFinished e part written = written
assembles_as_json file source ahead read rest text CommandRefused e part written = written

-- and where it wasn't read whole
pub unread_as_json : (file lines read rest text : List ℕ) (status : Status) → IsUnreadSourceJson file (diagnostics_json file lines) → WritesRefusalText (diagnostics_json file lines) text status
    → WritesAssemblyJson file read rest text status
unread_as_json file lines read rest text ImageRefused is written = inl (subst (IsUnreadSourceJson file) (sym written) is)
unread_as_json file lines read rest text StreamFault is written = inr (inl (record { whole = diagnostics_json file lines; is_text = is; front = written }))
unread_as_json file lines read rest text Done is written = absurd written
unread_as_json file lines read rest text NotFinished is written = absurd written
unread_as_json file lines read rest text CommandRefused is written = absurd written
