use Rattle.m161_threads_tests.proofs.tests.bursts.burst_branded.Given as goal

abbrev pub ghosts-burst_in-L-Ledger : goal.ghosts-burst_in-L-Ledger
ghosts-burst_in-L-Ledger g a = record { name = a.steps.name; parts = a.steps.parts }

abbrev pub ghosts-burst_in-M-Ledger : goal.ghosts-burst_in-M-Ledger
ghosts-burst_in-M-Ledger g a = record { name = a.offs.name; parts = a.offs.parts }
