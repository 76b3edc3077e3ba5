use Rattle.m161_threads.proofs.threaded.run_bursts.Given as goal

abbrev pub ghosts-run_counted-L-Ledger : goal.ghosts-run_counted-L-Ledger
ghosts-run_counted-L-Ledger g a = record { name = a.steps.name; parts = a.steps.parts }

abbrev pub ghosts-run_counted-M-Ledger : goal.ghosts-run_counted-M-Ledger
ghosts-run_counted-M-Ledger g a = record { name = a.offs.name; parts = a.offs.parts }
