use Rattle.std.proofs.Common.{◌≡◌, ◌∙◌, sym, ℕ, ◌+◌, ◌-◌, ◌^◌, ◌<◌, ◌≤◌, ◌⊎◌, inl, inr, Bool, true, false, List, length, take, arith, rules}
use Rattle.std.proofs.lemmas.List.{length-take-le}
use Rattle.m161_machine.specs.declared.event.Entry.{Entry}
use Rattle.m161_machine.specs.declared.event.Event.TheVariants.{Step}
use Rattle.m161_machine.specs.History.{Leads}
use Rattle.m161_machine.specs.State.{State}
use Rattle.m161_machine.proofs.Made.{counted}
use Rattle.m161_machine.proofs.Accepting.{refused_by, refused_off, refused_worn}
use Rattle.m161_machine.proofs.state.Core.steps.Goals as goal

-- fewer Steps than were asked for, of a machine that is on: it is worn
worn_by : (was now asked most made : ℕ) → (most ≡ asked ⊎ (most < asked) × (was + most ≡ 2 ^ 63 - 1)) → made ≡ most → now ≡ was + made → made < asked →
    9223372036854775807 ≤ now
worn_by was now asked most made (inl whole) all now_is fewer = absurd (let bad : ⊥ = omega (arith, whole, all, fewer) in bad)
worn_by was now asked most made (inr left) all now_is fewer = let end = left.1 in omega (arith, end, all, now_is)

all_made : (asked made : ℕ) (off : Bool) → off ≡ false → (made ≡ asked ⊎ (made < asked) × (off ≡ true)) → made ≡ asked
all_made asked made off on (inl all) = all
all_made asked made off on (inr fewer) = absurd (let bad : true ≡ false = sym fewer.1 ∙ on in cc)

made_is : (made : ℕ) (kept : List Entry) (s t : State) → made ≤ length kept → Leads s (take made kept) t → t.made ≡ s.made + made
made_is made kept s t within h =
    let long = length-take-le made kept within in
    let number = counted (take made kept) s t h in omega (arith, long, number)

pub returns-in-Some-clause-end : goal.returns-in-Some-clause-end
returns-in-Some-clause-end g c =
    (search rules, refused_by c.args.self.now.state (Step c.args.p) c.in-Some.refusal (sym c.in-Some.ensures.value))

pub returns-then-is_off-clause-end : goal.returns-then-is_off-clause-end
returns-then-is_off-clause-end g c = (
  search rules,
  refused_off c.advance-made.new.self.state c.args.p (search rules) (sym c.is_off.ensures ∙ c.if-is_off.true),
)

pub returns-else-is_off-clause-end : goal.returns-else-is_off-clause-end
returns-else-is_off-clause-end g c = (
  search rules,
  refused_worn c.advance-made.new.self.state c.args.p (search rules) (sym c.is_off.ensures ∙ c.if-is_off.false)
      (worn_by c.args.self.now.state.made c.advance-made.new.self.state.made (length c.args.entries.now) c.before_worn-most.result c.advance-made.result
      c.before_worn-most.ensures.least
      (all_made (length c.split_at_mut-first.result.0.now) c.advance-made.result c.advance-made.new.self.state.board.off
      (sym c.is_off.ensures ∙ c.if-is_off.false) (c.advance-made.ensures.end) ∙ c.split_at_mut-first.ensures.front_len)
      (made_is c.advance-made.result c.advance-made.new.kept c.args.self.now.state c.advance-made.new.self.state
      (let within = c.advance-made.ensures.within in let long = c.advance-made.ensures.length in omega (arith, within, long)) c.advance-made.ensures.advances.0)
      (search rules)),
)
