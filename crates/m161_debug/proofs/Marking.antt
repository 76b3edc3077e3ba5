-- What a run compares with.
use Rattle.std.proofs.Common.{◌≡◌, ◌∙◌, ap, refl, sym, subst, Bool, List, Option, None, Some, Ok}
use Rattle.m161_cpu.specs.declared.processor.Outcome.{Outcome}
use Rattle.m161_machine.specs.declared.event.Event.{Event}
use Rattle.m161_machine.specs.State.{State}
use Rattle.m161_machine.specs.History.{Answers, Continues, History, Start}
use Rattle.m161_debug.specs.declared.condition.Condition.{Condition}
use Rattle.m161_debug.specs.declared.condition.Condition.TheVariants as conditions
use Rattle.m161_debug.specs.declared.mark.Mark.{Mark}
use Rattle.m161_debug.specs.helpers.Conditions.{holds_if}
use Rattle.m161_debug.specs.helpers.Marks.{is_met, mark_of, IsMark}

-- a mark is met where its condition holds
pub met_is : (c : Option Condition) (s : State) (e : Event) (o : Outcome) (t : State) → is_met (mark_of c s) e o t ≡ holds_if c s e o t
met_is None s e o t = refl
met_is (Some (conditions.Memory address)) s e o t = refl
met_is (Some (conditions.Trap p)) s e o t = refl
met_is (Some (conditions.Register p r)) s e o t = refl
met_is (Some (conditions.Row p i)) s e o t = refl
met_is (Some conditions.Output) s e o t = refl

-- and stays one of the machine's during the run
pub stays_mark : (mark : Mark) (m n t : History) (events : List Event) (e : Event) (o : Outcome) → IsMark m.start.conf mark → Continues m events n → Answers n e (Ok o) t → IsMark t.start.conf mark
stays_mark mark m n t events e o is made answer =
    subst (λ (start : Start). IsMark start.conf mark) (sym (answer.1.start_is ∙ made.slides.start_is)) is

-- what a run finds by its mark, it finds by its condition
pub found_by : (c : Option Condition) (s : State) (mark : Mark) (e : Event) (o : Outcome) (t : State) (found : Bool) → mark ≡ mark_of c s → found ≡ is_met mark e o t → holds_if c s e o t ≡ found
found_by c s mark e o t found is met = sym (met_is c s e o t) ∙ ap (λ m. is_met m e o t) (sym is) ∙ sym met
