use Rattle.m161_pairs_tests.proofs.tests.threads.make_branded.Given as goal

abbrev pub ghosts-make_locked-L-Ledger : goal.ghosts-make_locked-L-Ledger
ghosts-make_locked-L-Ledger g a = record { name = a.steps.name; parts = a.steps.parts }

abbrev pub ghosts-make_locked-M-Ledger : goal.ghosts-make_locked-M-Ledger
ghosts-make_locked-M-Ledger g a = record { name = a.offs.name; parts = a.offs.parts }
