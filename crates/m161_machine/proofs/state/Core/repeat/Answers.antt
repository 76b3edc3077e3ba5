use Rattle.std.proofs.Common.{◌≡◌, ◌∙◌, ◌+◌, ◌++◌, ap, sym, subst, length, take, arith}
use Rattle.std.proofs.lemmas.List.{length-append}
use Rattle.m161_machine.specs.History.{Leads}
use Rattle.m161_machine.specs.History.{transfers_of}
use Rattle.m161_machine.proofs.Leading.{leads_on, leads_rest}
use Rattle.m161_machine.proofs.Transfers.{taken, transfers_append}
use Rattle.m161_machine.proofs.state.Core.repeat.Goals as goal

pub repeat_first-more-requires-clause-accepted : goal.repeat_first-more-requires-clause-accepted
repeat_first-more-requires-clause-accepted g c =
    let i = c.loop-made.invariant in
    let front = c.split_at_mut-rest.result.0.now in
    let rest = c.split_at_mut-rest.result.1.now in
    let s = c.args.self.now.state in
    let t = c.requires.accepted.0 in
    let front_is = c.split_at_mut-rest.ensures.front ∙ ap (take c.loop-made.made) i.0 in
    let made : Leads s front c.loop-made.self.state = subst (λ es. Leads s es c.loop-made.self.state) (sym front_is) i.2 in
    let all : Leads s (front ++ rest) t = subst (λ es. Leads s es t) (sym i.0 ∙ c.split_at_mut-rest.ensures.value) c.requires.accepted.1 in
    (t, leads_rest front rest s c.loop-made.self.state t made all)

pub loop-made-preserved : goal.loop-made-preserved
loop-made-preserved g c =
    let i = c.loop-made.invariant in
    let front = c.split_at_mut-rest.result.0.now in
    let rest = c.split_at_mut-rest.result.1.now in
    let s = c.args.self.now.state in
    let more = c.repeat_first-more.result in
    let whole = sym i.0 ∙ c.split_at_mut-rest.ensures.value in
    let front_is = c.split_at_mut-rest.ensures.front ∙ ap (take c.loop-made.made) i.0 in
    let made : Leads s front c.loop-made.self.state = subst (λ es. Leads s es c.loop-made.self.state) (sym front_is) i.2 in
    let first : take (c.loop-made.made + more.0) c.args.entries.now ≡ front ++ take more.0 rest =
    taken c.args.entries.now front rest c.loop-made.made more.0 whole c.split_at_mut-rest.ensures.front_len in
    let long = length-append front c.repeat_first-more.new.entries in
    let same = ap length c.repeat_first-more.ensures.same in
    let sent = transfers_append front (take more.0 rest) in
    let sent_now = ap transfers_of first in
    let sent_before = ap transfers_of front_is in
    let front_len = c.split_at_mut-rest.ensures.front_len in (
      ap (λ es. front ++ es) c.repeat_first-more.ensures.same ∙ sym c.split_at_mut-rest.ensures.value ∙ i.0,
      (let some = c.repeat_first-more.ensures.some in let within = some.1 in omega (arith, long, same, front_len, within)),
      subst (λ es. Leads s es c.repeat_first-more.new.self.state) (sym first)
          (leads_on front (take more.0 rest) s c.loop-made.self.state c.repeat_first-more.new.self.state made c.repeat_first-more.ensures.leads),
      (let so_far = i.3 in let now = c.repeat_first-more.ensures.sent in omega (arith, sent, sent_now, sent_before, so_far, now)),
      (let so_far = i.4 in let now = c.repeat_first-more.ensures.room in omega (arith, so_far, now)),
    )
