use Rattle.std.proofs.Common.{◌≡◌, refl, ℕ, Bool, true, false, Option, None, Some, Result, Ok, Err}
use Rattle.std.specs.Prelude.{if◌then◌else◌}
use Rattle.m161_cop0.specs.Control.{is_pending}
use Rattle.m161_cpu.specs.declared.processor.Outcome.TheVariants.{Trapped, Idle}
use Rattle.m161_cpu.specs.declared.processor.ProcessorState.{ProcessorState}
use Rattle.m161_cpu.specs.declared.processor.ProcessorState.TheVariants.{Stopped, Running, Waiting}
use Rattle.m161_cpu.specs.Fault.{exception_of, vector}
use Rattle.m161_cpu.specs.Processor.{with_state}
use Rattle.m161_cpu.specs.Resting.{is_resting, rests_in}
use Rattle.m161_cpu.specs.Scene.{Change, Scene, around, around_after, scene}
use Rattle.m161_cpu.specs.Step.{change_of_step, conflict_of, outcome_after, idle, lines_in, running_step, step_by_state, step_of, step_of_result, switches_off, tick, with_processor}
use Rattle.m161_machine.specs.State.{State, processor_at, step_result}
use Rattle.m161_machine.specs.Resting.{IdleIsRest, rests}

-- Which Steps are idle.

-- a Step that isn't at rest has another outcome than Idle
by_power : (conflict : Option (ℕ × ℕ)) (off : Bool) → outcome_after conflict off ≡ Idle → ⊥
by_power None true h = cc
by_power None false h = cc
by_power (Some conflict) off h = cc

not_idle : (s : Scene) (r : Result Change _) → (step_of_result s r).outcome ≡ Idle → ⊥
not_idle s (Ok change) h =
    by_power (conflict_of s change) (switches_off s.around.board (around_after change s.around).board) h
not_idle s (Err f) h = let bad : Trapped (exception_of f.kind) (vector f s.processor) ≡ Idle = h in cc

waiting_idle : (pending : Bool) (s : Scene) →
    (if pending then running_step (with_processor (with_state Running) s) else idle tick s).outcome ≡ Idle →
    rests_in Waiting pending ≡ true
waiting_idle true s h = absurd (not_idle (with_processor (with_state Running) s) (change_of_step (with_processor (with_state Running) s)) h)
waiting_idle false s h = refl

idle_rests : (state : ProcessorState) (s : Scene) → (step_by_state state s).outcome ≡ Idle →
    rests_in state (is_pending (lines_in s) s.processor.control) ≡ true
idle_rests Stopped s h = refl
idle_rests Running s h = absurd (not_idle s (change_of_step s) h)
idle_rests Waiting s h = waiting_idle (is_pending (lines_in s) s.processor.control) s h

waiting_rests : (pending : Bool) (s : Scene) → rests_in Waiting pending ≡ true →
    (if pending then running_step (with_processor (with_state Running) s) else idle tick s).outcome ≡ Idle
waiting_rests true s h = absurd (let bad : false ≡ true = h in cc)
waiting_rests false s h = refl

rests_idle : (state : ProcessorState) (s : Scene) → rests_in state (is_pending (lines_in s) s.processor.control) ≡ true →
    (step_by_state state s).outcome ≡ Idle
rests_idle Stopped s h = refl
rests_idle Running s h = absurd (let bad : false ≡ true = h in cc)
rests_idle Waiting s h = waiting_rests (is_pending (lines_in s) s.processor.control) s h

pub idle_is_rest : (p : ℕ) (s : State) → IdleIsRest p s
unfolding rests is_resting step_result step_of
idle_is_rest p s =
    let here = scene (processor_at p s.processors) (around p s.memory s.board s.links s.conf.strict) in
    (rests_idle here.processor.state here, idle_rests here.processor.state here)
