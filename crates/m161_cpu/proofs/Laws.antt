use Rattle.std.proofs.Common.{◌≡◌, ℕ, refl, Bool, true, false, Option, None, Some, Result, Ok, Err}
use Rattle.std.specs.Prelude.{not, ◌&&◌, if◌then◌else◌}
use Rattle.m161_cop0.specs.Control.{is_pending}
use Rattle.m161_cpu.specs.declared.processor.ProcessorState.{ProcessorState}
use Rattle.m161_cpu.specs.declared.processor.ProcessorState.TheVariants.{Stopped, Running, Waiting}
use Rattle.m161_cpu.specs.declared.processor.Outcome.TheVariants.{Ran, PoweredOff}
use Rattle.m161_cpu.specs.Processor.{with_state}
use Rattle.m161_cpu.specs.Links.{links_after}
use Rattle.m161_cpu.specs.Scene.{Around, Scene, Change, around_after}
use Rattle.m161_cpu.specs.declared.fault.StepFault.{StepFault}
use Rattle.m161_cpu.specs.Step.{Stepped, conflict_of, step_by_conflict, step_of_result, change_of_step, idle, lines_in, running_step, step_by_state, step_of, tick, with_processor}

-- What a Step leaves of the links is told by what it does to its own, and by its store.

abbrev pub Links : Around → Stepped → Type 0
Links a x = x.after.around.links ≡ links_after a.number x.link x.stored a.links

links_ended : (s : Scene) (r : Result Change StepFault) → Links s.around (step_of_result s r)
links_ended s (Ok change) = refl
links_ended s (Err f) = refl

links_waiting : (s : Scene) (pending : Bool) →
    Links s.around
    (if pending then running_step (with_processor (with_state Running) s) else idle tick s)
links_waiting s true =
    links_ended (with_processor (with_state Running) s)
    (change_of_step (with_processor (with_state Running) s))
links_waiting s false = refl

links_in : (state : ProcessorState) (s : Scene) → Links s.around (step_by_state state s)
links_in Stopped s = refl
links_in Running s = links_ended s (change_of_step s)
links_in Waiting s = links_waiting s (is_pending (lines_in s) s.processor.control)

pub step_links : (s : Scene) → Links s.around (step_of s)
unfolding step_of
step_links s = links_in s.processor.state s

-- A Step whose outcome is Ran leaves a machine on that was on.

abbrev IsOn : Stepped → Type 0
IsOn x = x.outcome ≡ Ran → x.after.around.board.off ≡ false

on_by : (before off : Bool) → before ≡ false → (if off && not before then PoweredOff else Ran) ≡ Ran → off ≡ false
on_by true off on h = absurd (let bad : true ≡ false = on in cc)
on_by false true on h = absurd (let bad : PoweredOff ≡ Ran = h in cc)
on_by false false on h = refl

on_changed : (conflict : Option (ℕ × ℕ)) (s : Scene) (change : Change) → s.around.board.off ≡ false → IsOn (step_by_conflict conflict s change)
on_changed None s change on = on_by s.around.board.off (around_after change s.around).board.off on
on_changed (Some conflict) s change on = λ h. absurd (cc)

on_ended : (s : Scene) (r : Result Change StepFault) → s.around.board.off ≡ false → IsOn (step_of_result s r)
on_ended s (Ok change) on = on_changed (conflict_of s change) s change on
on_ended s (Err f) on = λ h. absurd (cc)

on_waiting : (s : Scene) (pending : Bool) → s.around.board.off ≡ false →
    IsOn (if pending then running_step (with_processor (with_state Running) s) else idle tick s)
on_waiting s true on =
    on_ended (with_processor (with_state Running) s)
    (change_of_step (with_processor (with_state Running) s)) on
on_waiting s false on = λ h. absurd (cc)

on_in : (state : ProcessorState) (s : Scene) → s.around.board.off ≡ false → IsOn (step_by_state state s)
on_in Stopped s on = λ h. absurd (cc)
on_in Running s on = on_ended s (change_of_step s) on
on_in Waiting s on = on_waiting s (is_pending (lines_in s) s.processor.control) on

pub ran_on : (s : Scene) → s.around.board.off ≡ false → (step_of s).outcome ≡ Ran → (step_of s).after.around.board.off ≡ false
unfolding step_of
ran_on s on = on_in s.processor.state s on
