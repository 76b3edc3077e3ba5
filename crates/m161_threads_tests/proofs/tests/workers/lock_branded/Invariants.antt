use Rattle.m161_threads_tests.proofs.tests.workers.lock_branded.Given as goal

abbrev pub ghosts-lock_and_finish-L-Ledger : goal.ghosts-lock_and_finish-L-Ledger
ghosts-lock_and_finish-L-Ledger g a = record { name = a.steps.name; parts = a.steps.parts }

abbrev pub ghosts-lock_and_finish-M-Ledger : goal.ghosts-lock_and_finish-M-Ledger
ghosts-lock_and_finish-M-Ledger g a = record { name = a.offs.name; parts = a.offs.parts }
