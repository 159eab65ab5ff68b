use Rattle.ga_bench.proofs.shared.run_shared_calls.Given as goal

abbrev pub ghosts-opened : goal.ghosts-opened
ghosts-opened g a = record { name = a.blank.name; parts = a.blank.parts }
