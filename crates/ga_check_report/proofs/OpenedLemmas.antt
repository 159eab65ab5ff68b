-- A program that was opened or not, in a format.
use Rattle.std.proofs.Common.{◌≡◌, ℕ, List, Result, Ok, Err, None, sym, subst}
use Rattle.ga_text.specs.Input.{UnreadInput}
use Rattle.ga_console.specs.declared.run.Status.{Status}
use Rattle.ga_explorer.specs.Opening.{ExplorerState, IsSessionOpenResult}
use Rattle.ga_json.specs.declared.format.ReportFormat.{ReportFormat}
use Rattle.ga_json.specs.declared.format.ReportFormat.TheVariants as format
use Rattle.ga_check_report.specs.Opened.{IsUnopenedProgramAnswer, HasRefusalJsonObjects, IsJsonSessionOpenResult}
use Rattle.ga_check_report.specs.inner.{IsProgramOpenResult}

pub opened_as_text : (form : ReportFormat) (limit : ℕ) (left : List ℕ) (input : UnreadInput) (rest written : List ℕ) (result : Result ExplorerState Status) → form ≡ format.Text
    → IsSessionOpenResult None limit left input rest written result → IsProgramOpenResult form limit left input rest written result
opened_as_text form limit left input rest written (Ok begun) is it = it
opened_as_text form limit left input rest written (Err status) is it =
    let P : ReportFormat → Type 0 = λ f. IsUnopenedProgramAnswer f it.0 rest written status in
    (it.0, it.1, subst P (sym is) it.2)

pub opened_as_objects : (form : ReportFormat) (file : List ℕ) (limit : ℕ) (left : List ℕ) (input : UnreadInput) (rest written : List ℕ) (result : Result ExplorerState Status)
    → ((read : List ℕ) (status : Status) → HasRefusalJsonObjects None file read rest written status → IsUnopenedProgramAnswer form read rest written status)
    → IsJsonSessionOpenResult None file limit left input rest written result → IsProgramOpenResult form limit left input rest written result
opened_as_objects form file limit left input rest written (Ok begun) same it = it
opened_as_objects form file limit left input rest written (Err status) same it = (it.0, it.1, same it.0 status it.2)
