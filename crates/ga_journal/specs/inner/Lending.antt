-- A mutable reference to the history of one node.
use Rattle.std.specs.Prelude.{ℕ, List}
use Rattle.std.specs.Borrow.{Lends, MutBor, Fml}
use Rattle.ga_journal.specs.inner.Histories.{HeldNodeHistory, with_changed_history}
use Rattle.ga_journal.specs.contracts.history.History.{the_row as history_row}
use Rattle.ga_journal.specs.contracts.histories.Histories.{the_row}

-- whether the histories end with the reference's last value as the history of this number
abbrev pub LendsHistory : MutBor (List HeldNodeHistory) → ℕ → MutBor HeldNodeHistory → Fml
LendsHistory histories n history = Lends the_row history_row histories history (with_changed_history histories.now n)
