use Rattle.std.proofs.Common.{◌≡◌, refl, sym, subst, ℕ, Bool, true, false, List, [], ◌∷◌, Option, None, Some, Result, Ok, Err}
use Rattle.std.specs.Prelude.{All, if◌then◌else◌}
use Rattle.std.proofs.lemmas.List.Elements.{All-cons, All-nil}
use Rattle.m161_tlb.specs.declared.row.Row.{Row}
use Rattle.m161_cop0.specs.Control.{is_pending}
use Rattle.m161_cpu.specs.declared.processor.Outcome.{Outcome}
use Rattle.m161_cpu.specs.declared.processor.Outcome.TheVariants.{Ran, Trapped, Idle, PoweredOff, Conflict, Taken}
use Rattle.m161_cpu.specs.declared.processor.ProcessorState.{ProcessorState}
use Rattle.m161_cpu.specs.declared.processor.ProcessorState.TheVariants.{Stopped, Running, Waiting}
use Rattle.m161_cpu.specs.Processor.{with_state}
use Rattle.m161_cpu.specs.Scene.{Change, Scene, around, around_after, scene}
use Rattle.m161_cpu.specs.Step.{change_of_step, conflict_in, idle, lines_in, outcome_after, running_step, step_by_state, step_of, step_of_result, switches_off, tick, with_processor}
use Rattle.m161_machine.specs.declared.conf.Conf.{Conf}
use Rattle.m161_machine.specs.declared.event.Entry.{Entry}
use Rattle.m161_machine.specs.declared.event.Event.{Event}
use Rattle.m161_machine.specs.declared.event.Event.TheVariants.{Step, Key, Done}
use Rattle.m161_machine.specs.State.{State, answer, next, processor_at, refusal, step_result, with_step}
use Rattle.m161_machine.specs.History.{FitsMode, Leads}
use Rattle.m161_machine.proofs.Counting.{given}
use Rattle.m161_machine.proofs.Given.{gives, outcome_of}
use Rattle.m161_machine.proofs.Made.{conf_stays}

-- Only a strict machine has a conflict.

fits_strict : (o : Outcome) → FitsMode true o
fits_strict Ran = tt
fits_strict (Trapped code vector) = tt
fits_strict Idle = tt
fits_strict PoweredOff = tt
fits_strict (Conflict row other) = refl
fits_strict Taken = tt

without_conflict : (strict off : Bool) → FitsMode strict (if off then PoweredOff else Ran)
without_conflict strict true = tt
without_conflict strict false = tt

by_mode : (strict : Bool) (rows : List Row) (row : Option (ℕ × Row)) (off : Bool) → FitsMode strict (outcome_after (conflict_in strict rows row) off)
by_mode strict rows None off = without_conflict strict off
by_mode true rows (Some written) off = fits_strict (outcome_after (conflict_in true rows (Some written)) off)
by_mode false rows (Some written) off = without_conflict false off

ended_fits : (s : Scene) (r : Result Change _) → FitsMode s.around.strict (step_of_result s r).outcome
ended_fits s (Ok change) = by_mode s.around.strict s.processor.rows change.row (switches_off s.around.board (around_after change s.around).board)
ended_fits s (Err f) = tt

waiting_fits : (s : Scene) (pending : Bool) →
    FitsMode s.around.strict (if pending then running_step (with_processor (with_state Running) s) else idle tick s).outcome
waiting_fits s true =
    ended_fits (with_processor (with_state Running) s) (change_of_step (with_processor (with_state Running) s))
waiting_fits s false = tt

fits_in : (state : ProcessorState) (s : Scene) → FitsMode s.around.strict (step_by_state state s).outcome
fits_in Stopped s = tt
fits_in Running s = ended_fits s (change_of_step s)
fits_in Waiting s = waiting_fits s (is_pending (lines_in s) s.processor.control)

step_fits : (s : Scene) → FitsMode s.around.strict (step_of s).outcome
unfolding step_of
step_fits s = fits_in s.processor.state s

stepped_fits : (p : ℕ) (s : State) → FitsMode s.conf.strict (step_result p s).outcome
unfolding step_result
stepped_fits p s =
    step_fits (scene (processor_at p s.processors) (around p s.memory s.board s.links s.conf.strict))

taken_fits : (strict : Bool) (o : Outcome) → o ≡ Taken → FitsMode strict o
taken_fits strict o taken = subst (FitsMode strict) (sym taken) tt

event_fits : (e : Event) (s t : State) (o : Outcome) → next s e ≡ Ok (o, t) → FitsMode s.conf.strict o
unfolding next
event_fits (Step p) s t o h =
    subst (FitsMode s.conf.strict) (outcome_of ((step_result p s).outcome, with_step p (step_result p s) s) (o, t) (given (refusal s (Step p)) (answer s (Step p)) (o, t) h)) (stepped_fits p s)
event_fits (Key byte) s t o h = taken_fits s.conf.strict o (gives (Key byte) s t o h)
event_fits Done s t o h = taken_fits s.conf.strict o (gives Done s t o h)

pub run_fits : (log : List Entry) (s t : State) → Leads s log t → All (λ (e : Entry). FitsMode s.conf.strict e.outcome) log
run_fits [] s t h = All-nil (λ (e : Entry). FitsMode s.conf.strict e.outcome)
run_fits (e ∷ log) s t h =
    let same : h.0.conf ≡ s.conf = conf_stays (e ∷ []) s h.0 (h.0, h.1, refl) in
    All-cons (λ (e : Entry). FitsMode s.conf.strict e.outcome) e log (event_fits e.event s h.0 e.outcome h.1)
    (subst (λ (c : Conf). All (λ (x : Entry). FitsMode c.strict x.outcome) log) same (run_fits log h.0 t h.2))
