use Rattle.std.proofs.Common.{◌≡◌, ◌∙◌, ap, refl, ℕ, Bool, true, false, Option, None, Some, Result, Ok, Err}
use Rattle.std.specs.Prelude.{if◌then◌else◌}
use Rattle.m161_cop0.specs.Control.{is_pending}
use Rattle.m161_cpu.specs.declared.fault.StepFault.{StepFault}
use Rattle.m161_cpu.specs.declared.processor.Outcome.{Outcome}
use Rattle.m161_cpu.specs.declared.processor.ProcessorState.{ProcessorState}
use Rattle.m161_cpu.specs.declared.processor.ProcessorState.TheVariants.{Stopped, Running, Waiting}
use Rattle.m161_cpu.specs.Links.{End, Keep, LinkAct, LinkState, LinkTo, after_act, after_store, links_after}
use Rattle.m161_cpu.specs.Processor.{with_state}
use Rattle.m161_cpu.specs.Scene.{Change, Scene, stored_by}
use Rattle.m161_cpu.specs.Step.{Leaves, Stepped, change_of_step, idle, lines_in, running_step, step_by_state, step_of, step_of_result, tick, with_processor}

-- A Step doesn't change what a link is to.

act_keeps : (c : ℕ) (act : LinkAct) (links : LinkState) → (after_act c act links).unit ≡ links.unit
act_keeps c Keep links = refl
act_keeps c (LinkTo at) links = refl
act_keeps c End links = refl

store_keeps : (stored : Option ℕ) (links : LinkState) → (after_store stored links).unit ≡ links.unit
store_keeps None links = refl
store_keeps (Some at) links = refl

links_keep : (c : ℕ) (act : LinkAct) (stored : Option ℕ) (links : LinkState) → (links_after c act stored links).unit ≡ links.unit
links_keep c act stored links = act_keeps c act (after_store stored links) ∙ store_keeps stored links

abbrev KeepsUnit : Scene → Stepped → Type 0
KeepsUnit s x = x.after.around.links.unit ≡ s.around.links.unit

result_keeps : (s : Scene) (r : Result Change StepFault) → KeepsUnit s (step_of_result s r)
result_keeps s (Ok c) = links_keep s.around.number c.link (stored_by c.store) s.around.links
result_keeps s (Err f) = links_keep s.around.number End None s.around.links

waiting_keeps : (s : Scene) (pending : Bool) → KeepsUnit s (if pending then running_step (with_processor (with_state Running) s) else idle tick s)
waiting_keeps s true =
    result_keeps (with_processor (with_state Running) s) (change_of_step (with_processor (with_state Running) s))
waiting_keeps s false = refl

state_keeps : (state : ProcessorState) (s : Scene) → KeepsUnit s (step_by_state state s)
state_keeps Stopped s = refl
state_keeps Running s = result_keeps s (change_of_step s)
state_keeps Waiting s = waiting_keeps s (is_pending (lines_in s) s.processor.control)

pub step_keeps : (s : Scene) → KeepsUnit s (step_of s)
unfolding step_of
step_keeps s = state_keeps s.processor.state s

-- the same of the links that the Step leaves
pub leaves_unit : (s after : Scene) (o : Outcome) → Leaves (step_of s) o after → after.around.links.unit ≡ s.around.links.unit
leaves_unit s after o l = ap (λ (links : LinkState). links.unit) l.links_are ∙ step_keeps s
