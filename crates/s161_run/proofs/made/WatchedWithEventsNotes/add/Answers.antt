use Rattle.s161_run.proofs.made.WatchedWithEventsNotes.add.Goals as goal

pub returns : goal.returns
returns c = λ room so_far kept.
    let log = c.in_ok-add.ensures room so_far (kept.0, kept.1) in
    (log.0, log.1, c.in_ok-add-2.ensures so_far kept.2, c.in_ok-add-3.ensures room so_far kept.3)
