use Rattle.std.proofs.Common.{◌∙◌, sym}
use Rattle.std.proofs.lemmas.List.Elements.{All-append}
use Rattle.m161_machine.specs.declared.event.Entry.{Entry}
use Rattle.m161_traps.specs.Watching.{IsSeen}
use Rattle.m161_traps.proofs.Lasting.{quiet_more, seen_ran}
use Rattle.m161_traps.proofs.watch.Watch.add.Goals as goal

pub returns-then-have_run : goal.returns-then-have_run
returns-then-have_run c =
    let es = c.args.entries.now in
    let vectors = c.args.self.now.vectors in
    let quiet = c.if-self.true in
    let ran = c.have_run.ensures c.if-have_run.true in
    λ so_far h. record {
      last = λ p low. h.last p low ∙ h.quiet quiet p low ∙ sym (quiet_more p so_far es ran (h.quiet quiet p low));
      seen = All-append (λ (e : Entry). IsSeen vectors e.outcome) so_far es h.seen (seen_ran vectors es ran);
      quiet = λ still p low. quiet_more p so_far es ran (h.quiet quiet p low);
    }

pub returns : goal.returns
returns c =
    λ so_far h.
    let kept = c.in_ok-note_all.ensures so_far (record { last = h.last; seen = h.seen }) in
    record {
      last = kept.last;
      seen = kept.seen;
      quiet = λ quiet p low. sym (kept.last p low) ∙ c.are_quiet-self.ensures quiet p low;
    }
