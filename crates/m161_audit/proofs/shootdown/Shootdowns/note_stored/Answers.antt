use Rattle.std.proofs.Common.{◌∙◌, ap, sym, map}
use Rattle.m161_machine.specs.StoreHistory.{stores_after}
use Rattle.m161_audit.specs.Tracking.{tracked}
use Rattle.m161_audit.specs.helpers.Progress.{after_word}
use Rattle.m161_audit.proofs.Tracked.{tracked_more}
use Rattle.m161_audit.proofs.shootdown.Shootdowns.note_stored.Goals as goal

pub returns-in-Some : goal.returns-in-Some
returns-in-Some c = λ watches stores is.
    c.note.ensures ∙ ap (map (after_word c.in-Some.word)) is ∙ tracked_more watches stores c.in-Some.word
    ∙ ap (λ o. tracked watches (stores_after o stores)) (sym c.in-Some.is)
