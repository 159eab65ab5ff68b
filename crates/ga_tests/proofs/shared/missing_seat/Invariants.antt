use Rattle.ga_tests.proofs.shared.missing_seat.Given as goal

abbrev pub ghosts-closes_with_both : goal.ghosts-closes_with_both
ghosts-closes_with_both g a = record { name = a.blank.name; parts = a.blank.parts }
