use Rattle.std.proofs.Common.{◌∙◌, ◌+◌, ◌-◌, ap, subst}
use Rattle.m161_shorten.specs.Verdicts.{NeedsNone}
use Rattle.m161_shorten.specs.helpers.Ranges.{swapped}
use Rattle.m161_shorten.specs.helpers.Tries.{NeedsAs}
use Rattle.m161_shorten.proofs.Swaps.{swapped_back}
use Rattle.m161_shorten.proofs.Trying.{not_taken}
use Rattle.m161_shorten.proofs.trial.try_swapped.Goals as goal

pub returns-in-Ok-None-clause-tries : goal.returns-in-Ok-None-clause-tries
returns-in-Ok-None-clause-tries g c =
    let is_kind = g.J.Kind.PartialEq.eq c.args.kind in
    let judges = g.J.Judge.judges c.args.judge.now in
    let es = c.args.events.now.items in
    let a = c.args.a in
    let b = c.args.b in
    let d = c.args.c in
    let back = c.swap_parts-in-Ok-None.ensures ∙ ap (swapped a (a + (d - b)) d) c.swap_parts.ensures
    ∙ swapped_back a b d es c.requires.first c.requires.second c.requires.within in
    let trial = c.deref.ensures.value ∙ c.swap_parts.ensures in
    let none = subst (λ o. NeedsAs is_kind judges c.deref.result.now o) c.in-Ok-None.field-0-is c.in-Ok-None.ensures.needs in
    not_taken is_kind judges (swapped a b d es) es c.swap_parts-in-Ok-None.new.events.items (subst (λ xs. NeedsNone is_kind judges xs) trial none) back

pub returns-in-Err-clause-err : goal.returns-in-Err-clause-err
returns-in-Err-clause-err g c =
    let es = c.args.events.now.items in
    let a = c.args.a in
    let b = c.args.b in
    let d = c.args.c in
    c.swap_parts-in-Err.ensures ∙ ap (swapped a (a + (d - b)) d) c.swap_parts.ensures
    ∙ swapped_back a b d es c.requires.first c.requires.second c.requires.within
