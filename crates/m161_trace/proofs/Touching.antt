use Rattle.std.proofs.Common.{◌≡◌, ap, ℕ, ◌<◌, length, Ok}
use Rattle.m161_cpu.specs.declared.processor.Outcome.{Outcome}
use Rattle.m161_machine.specs.declared.event.Event.TheVariants.{Step}
use Rattle.m161_machine.specs.State.{State, next, step_result}
use Rattle.m161_trace.proofs.Near.{accepted}

-- A Step that is accepted, whatever state it leads to.

pub has_place : (p : ℕ) (s : State) (o : Outcome) → (t : State) × (next s (Step p) ≡ Ok (o, t)) → p < length s.processors
has_place p s o h = (accepted p s o h.0 h.1).place

pub outcome_is : (p : ℕ) (s : State) (o : Outcome) → (t : State) × (next s (Step p) ≡ Ok (o, t)) → (step_result p s).outcome ≡ o
outcome_is p s o h = ap (λ (r : Outcome × State). r.0) (accepted p s o h.0 h.1).given
