use Rattle.ga_explorer.proofs.Classes.{no_change_same}
use Rattle.ga_explorer.proofs.laws.only_changes_change_the_machine.Goals as goal

pub returns : goal.returns
returns c = no_change_same
