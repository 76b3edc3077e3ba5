use Rattle.std.proofs.Common.{◌≡◌, ◌∙◌, ℕ, ◌+◌, ◌-◌, ◌%◌, ◌<◌, ◌≤◌, ◌⊎◌, inl, inr, arith}
use Rattle.m161_drive.specs.declared.orders.OrderState.TheVariants.{InTurns}
use Rattle.m161_drive.specs.declared.turns.Turns.{Turns}
use Rattle.m161_drive.specs.helpers.Drive.{gone_on}
use Rattle.m161_drive.proofs.Planned.{turns_further}
use Rattle.m161_drive.proofs.turns.Turns.go_on.Goals as goal

further : (n : ℕ) (t : Turns) → 0 < n → (n ≡ 0) ⊎ (1 ≤ t.made) × (t.made ≤ t.steps) →
    InTurns (record t { made = (t.made - 1 + n % t.steps) % t.steps + 1 }) ≡ gone_on n (InTurns t)
further n t some (inl none) = absurd (let bad : ⊥ = omega (arith, some, none) in bad)
further n t some (inr in_turn) = turns_further n t in_turn.0 in_turn.1

pub returns-then-more-gt0 : goal.returns-then-more-gt0
returns-then-more-gt0 c =
    let t = c.args.self.now in
    (λ i. InTurns (record t { made = (c.from.ensures i - 1 + c.args.more % c.from-steps.ensures i) % c.from-steps.ensures i + 1 }))
    ∙ further c.args.more t c.if-more-gt0.true c.requires
