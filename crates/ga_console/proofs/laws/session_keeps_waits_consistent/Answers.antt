use Rattle.std.proofs.Common.{List, sym, ap, ◌∙◌, subst}
use Rattle.ga_node.specs.Record.{NodeRecord}
use Rattle.ga_grid.specs.Chip.{HaveWaitsFittingSlotsAndStops}
use Rattle.ga_lab.specs.Machine.{MachineState}
use Rattle.ga_text.specs.Lines.{lines_of_text}
use Rattle.ga_image.proofs.ReadSteady.{images_steady}
use Rattle.ga_console.proofs.Reaching.{reached_load}
use Rattle.ga_console.proofs.laws.session_keeps_waits_consistent.Goals as goal

pub returns : goal.returns
returns c = λ image limit machine last lines opens reached.
    let load = ap (λ (s : MachineState). s.load) opens.2 in
    c.machine_keeps_waits_consistent.ensures last (subst (λ (l : List NodeRecord). HaveWaitsFittingSlotsAndStops l) (sym (reached_load machine lines last reached ∙ load)) (images_steady (lines_of_text image) opens.0 opens.1))
