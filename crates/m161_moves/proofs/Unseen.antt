use Rattle.std.proofs.Common.{◌≡◌, ◌∙◌, refl, sym, ap, ℕ, zero, suc, Bool, true, false, List, [], ◌∷◌}
use Rattle.std.specs.Prelude.{Option, None, Some}
use Rattle.m161_gdb.specs.declared.packet.Motion.{Motion}
use Rattle.m161_gdb.specs.Stops.{StopsValue}
use Rattle.m161_moves.specs.declared.run.Access.{Access}
use Rattle.m161_moves.specs.declared.run.StepSeen.{StepSeen}
use Rattle.m161_moves.specs.Stopping.{break_at, is_resumed, is_step, is_stepping, touch_at, when}
use Rattle.m161_moves.specs.declared.reason.Reason.{Reason}
use Rattle.m161_moves.specs.declared.reason.Reason.TheVariants as reasons
use Rattle.m161_moves.specs.helpers.Looking.{StandsFor, StopAtNoStep}

-- Where nothing stops at a Step.

pub none_steps : (motion : Option Motion) (rest : List (Option Motion)) → is_step motion ≡ false → ((p : ℕ) → is_stepping rest p ≡ false) →
    (p : ℕ) → is_stepping (motion ∷ rest) p ≡ false
none_steps motion rest first others zero = first
none_steps motion rest first others (suc p) = others p

when_none : (b : Bool) → ◌≡◌ {A = Option Reason} (when b None) None
when_none true = refl
when_none false = refl

no_break : (p : ℕ) (fetched : Option ℕ) → break_at [] p fetched ≡ None
no_break p None = refl
no_break p (Some address) = refl

no_touch : (p : ℕ) (access : Option Access) → touch_at [] p access ≡ None
no_touch p None = refl
no_touch p (Some access) = refl

by_event : (stops : StopsValue) (chosen : List (Option Motion)) →
    stops.breakpoints ≡ [] → stops.watches ≡ [] → ((p : ℕ) → is_stepping chosen p ≡ false) →
    (event : Option StepSeen) → StandsFor stops chosen event None
by_event stops chosen no_breaks no_watches none None = record { breaks = refl; steps = refl; touches = refl }
by_event stops chosen no_breaks no_watches none (Some step) = record {
  breaks = sym (ap (λ set. when (is_resumed chosen step.processor) (break_at set step.processor step.fetched)) no_breaks
      ∙ ap (when (is_resumed chosen step.processor)) (no_break step.processor step.fetched) ∙ when_none (is_resumed chosen step.processor));
  steps = sym (ap (λ t. when t (Some (reasons.Step step.processor))) (none step.processor));
  touches = sym (ap (λ set. when (is_resumed chosen step.processor) (touch_at set step.processor step.access)) no_watches
      ∙ ap (when (is_resumed chosen step.processor)) (no_touch step.processor step.access) ∙ when_none (is_resumed chosen step.processor));
}

pub stop_at_none : (stops : StopsValue) (chosen : List (Option Motion)) → stops.breakpoints ≡ [] → stops.watches ≡ [] →
    ((p : ℕ) → is_stepping chosen p ≡ false) → StopAtNoStep stops chosen
stop_at_none stops chosen no_breaks no_watches none = by_event stops chosen no_breaks no_watches none
