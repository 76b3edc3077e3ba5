use Rattle.std.proofs.Common.{Err, Ok, refl, subst, sym}
use Rattle.m161_judge.specs.Judge.{bytes_of}
use Rattle.m161_c.specs.Explored.{criteria_of}
use Rattle.m161_c.specs.Delays.{SeeksListsIn, SeeksListsOn, class_in, steps_in}
use Rattle.m161_c.specs.Seeds.{asked_with}
use Rattle.m161_c.proofs.session.Session.seek_lists.Goals as goal

pub returns-in_default-clause-does : goal.returns-in_default-clause-does
returns-in_default-clause-does c =
    let g = criteria_of c.args.keys.now c.args.watches.now c.args.never.now (bytes_of c.args.output) in (
      Err 255,
      subst (λ m. SeeksListsOn m (asked_with c.args.file.now c.args.numbers.now c.args.n g c.args.few) c.args.class.now (Err 255)) (sym c.in_default.is) refl,
      (refl, refl, refl),
    )

pub returns-in-Ok-clause-does : goal.returns-in-Ok-clause-does
returns-in-Ok-clause-does c =
    let g = criteria_of c.args.keys.now c.args.watches.now c.args.never.now (bytes_of c.args.output) in
    let told = Ok (c.in-Ok.what, c.in-Ok.events.items) in (
      told,
      subst (λ m. SeeksListsOn m (asked_with c.args.file.now c.args.numbers.now c.args.n g c.args.few) c.args.class.now told) (sym c.in-Some.is)
          (subst (λ conf. SeeksListsIn (steps_in c.args.numbers.now c.args.class.now) (asked_with c.args.file.now c.args.numbers.now c.args.n g c.args.few conf) (class_in c.args.class.now) told)
          c.conf-conf.ensures c.in-Ok.ensures.ok),
      (refl, refl, refl, refl),
    )

pub returns-in-Err-clause-does : goal.returns-in-Err-clause-does
returns-in-Err-clause-does c =
    let g = criteria_of c.args.keys.now c.args.watches.now c.args.never.now (bytes_of c.args.output) in
    let why = Err c.in-Err.answer in (
      why,
      subst (λ m. SeeksListsOn m (asked_with c.args.file.now c.args.numbers.now c.args.n g c.args.few) c.args.class.now why) (sym c.in-Some.is)
          (subst (λ conf. SeeksListsIn (steps_in c.args.numbers.now c.args.class.now) (asked_with c.args.file.now c.args.numbers.now c.args.n g c.args.few conf) (class_in c.args.class.now) why)
          c.conf-conf.ensures c.in-Err.ensures.err),
      (refl, refl, refl),
    )
