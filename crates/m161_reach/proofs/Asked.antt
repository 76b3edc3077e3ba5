use Rattle.std.proofs.Common.{◌≡◌, ◌∙◌, ap, sym, Bool}
use Rattle.std.specs.Prelude.{if◌then◌else◌}
use Rattle.m161_machine.specs.History.{Start, boot_state}
use Rattle.m161_machine.specs.State.{State}
use Rattle.m161_judge.specs.Verdict.{Criteria}
use Rattle.m161_alike.specs.declared.known.Known.{Known}
use Rattle.m161_states.specs.Question.{booted, least, processors_of}
use Rattle.m161_states.specs.System.{fresh, start}
use Rattle.m161_reach.specs.Reach.{CanBeAsked, question_of, start_in}

-- What is asked of a machine that is at boot.

pub booted_is : (boot : State) (goal : Criteria) (known : Known) → CanBeAsked boot goal → booted (question_of boot goal known) ≡ start_in boot
booted_is boot goal known h = ap (λ (b : Bool). if b then start_in boot else least) h.can

pub processors_are : (boot : State) (goal : Criteria) (known : Known) → CanBeAsked boot goal → boot.board.processors ≡ processors_of (question_of boot goal known)
processors_are boot goal known h =
    ap (λ (s : State). s.board.processors) h.is_boot ∙ sym (ap (λ (s : Start). s.conf.processors) (booted_is boot goal known h))

pub start_is : (boot : State) (goal : Criteria) (known : Known) → CanBeAsked boot goal → fresh boot ≡ boot_state (booted (question_of boot goal known))
start_is boot goal known h = ap fresh h.is_boot ∙ sym (ap boot_state (booted_is boot goal known h))

pub bytes_are : (boot : State) (goal : Criteria) (known : Known) → CanBeAsked boot goal → boot.memory ≡ (booted (question_of boot goal known)).bytes
bytes_are boot goal known h = sym (ap (λ (s : Start). s.bytes) (booted_is boot goal known h))

pub state_is : (boot : State) (goal : Criteria) (known : Known) → CanBeAsked boot goal → boot ≡ (start (question_of boot goal known)).state
state_is boot goal known h = h.is_boot ∙ sym (ap boot_state (booted_is boot goal known h))
