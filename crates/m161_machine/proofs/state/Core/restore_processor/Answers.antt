use Rattle.std.proofs.Common.{◌∙◌, ◌≤◌, ap, arith, subst, sym}
use Rattle.std.proofs.lemmas.List.{length-set}
use Rattle.std.proofs.lemmas.List.Elements.{All-set}
use Rattle.m161_tlb.specs.Rows.{AreApart}
use Rattle.m161_cpu.specs.Processor.{Processor}
use Rattle.m161_machine.specs.State.{CoreValue}
use Rattle.m161_machine.proofs.state.Core.restore_processor.Goals as goal

pub invariant_of-self : goal.invariant_of-self
invariant_of-self g c =
    let items = c.self.inside.processors.items in
    let count_is = ap (λ (q : Processor). q.count) c.restore.ensures in
    let made_is = ap (λ (v : CoreValue). v.state.made) c.self.view_is in
    let few = c.requires.few in
    let bound : c.restore.new.self.count ≤ c.self.inside.made = omega (arith, count_is, made_is, few) in (
      record {
        size_is = length-set items c.args.p c.restore.new.self ∙ c.self.invariant.0.size_is;
        few = c.self.invariant.0.few;
        small = c.self.invariant.0.small;
        limits_hold = c.self.invariant.0.limits_hold;
        counts = All-set (λ (q : Processor). q.count ≤ c.self.inside.made) items c.args.p c.restore.new.self bound c.self.invariant.0.counts;
        apart = λ strict. All-set (λ (q : Processor). AreApart q.rows) items c.args.p c.restore.new.self
            (subst (λ (q : Processor). AreApart q.rows) (sym c.restore.ensures)
            (c.requires.apart (sym (ap (λ (v : CoreValue). v.state.conf.strict) c.self.view_is) ∙ strict)))
            (c.self.invariant.0.apart strict);
        unit_is = c.self.invariant.0.unit_is;
      },
      c.self.invariant.1,
      c.self.invariant.2,
    )
