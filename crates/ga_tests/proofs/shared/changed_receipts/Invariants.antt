use Rattle.ga_tests.proofs.shared.changed_receipts.Given as goal

abbrev pub ghosts-log_of_four : goal.ghosts-log_of_four
ghosts-log_of_four g a = record { name = a.blank.name; parts = a.blank.parts }

abbrev pub ghosts-after_change : goal.ghosts-after_change
ghosts-after_change g a = record { name = a.blank.name; parts = a.blank.parts }
