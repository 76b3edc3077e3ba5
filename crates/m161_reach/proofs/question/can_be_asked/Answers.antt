use Rattle.std.proofs.Common.{◌∙◌, ap, sym}
use Rattle.m161_states.specs.Question.{are_bytes}
use Rattle.m161_reach.proofs.Asking.{asked_when}
use Rattle.m161_reach.proofs.question.can_be_asked.Goals as goal

pub returns-then-is_whole : goal.returns-then-is_whole
returns-then-is_whole g c =
    let bytes = sym (ap are_bytes c.memory.ensures) ∙ sym c.is_whole.ensures ∙ c.if-is_whole.true in (
      λ yes. let fits = c.fits_words.ensures.0 yes in
          asked_when c.args.boot.now.state c.args.goal.now c.requires c.law.ensures.limits bytes fits.0 fits.1 fits.2,
      λ asked. c.fits_words.ensures.1 (asked.watches, asked.keys, asked.output),
    )
