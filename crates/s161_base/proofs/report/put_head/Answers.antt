use Rattle.std.proofs.Common.{ap, codes, decimal, inl, inr, ◌++◌, ◌∙◌}
use Rattle.m161_elf.specs.LoadError.{name_of_fault, number_of_fault}
use Rattle.m161_text.specs.Parts.{◌␣◌}
use Rattle.s161_base.proofs.Putting.{puts_less, puts_same, puts_then}
use Rattle.s161_base.proofs.report.put_head.Goals as goal

-- the fault is the arm's
pub returns-in_err-put-in-File : goal.returns-in_err-put-in-File
returns-in_err-put-in-File g c = rw c.in-File.is (puts_less _ _ _ _ _ _ c.in_err-put-in-File.ensures c.from_residual.ensures.1)

pub returns-in_ok-put-in-File : goal.returns-in_ok-put-in-File
returns-in_ok-put-in-File g c = rw c.in-File.is (puts_then _ _ _ _ _ _ c.in_ok-put-in-File.ensures c.put_name.ensures)

pub returns-in_err-put-in-Never : goal.returns-in_err-put-in-Never
returns-in_err-put-in-Never g c = rw c.in-Never.is (puts_less _ _ _ _ _ _ c.in_err-put-in-Never.ensures c.from_residual-in_err-put-in-Never.ensures.1)

pub returns-in_ok-put-in-Never : goal.returns-in_ok-put-in-Never
returns-in_ok-put-in-Never g c = rw c.in-Never.is (puts_then _ _ _ _ _ _ c.in_ok-put-in-Never.ensures c.put_name-in-Never.ensures)

pub returns-in_err-put-in-Touches : goal.returns-in_err-put-in-Touches
returns-in_err-put-in-Touches g c = rw c.in-Touches.is (puts_less _ _ _ _ _ _ c.in_err-put-in-Touches.ensures c.from_residual-in_err-put-in-Touches.ensures.1)

pub returns-in_ok-put-in-Touches : goal.returns-in_ok-put-in-Touches
returns-in_ok-put-in-Touches g c = rw c.in-Touches.is (puts_then _ _ _ _ _ _ c.in_ok-put-in-Touches.ensures c.put_name-in-Touches.ensures)

pub returns-in_err-put-in-Image : goal.returns-in_err-put-in-Image
returns-in_err-put-in-Image g c = rw c.in-Image.is (puts_less _ _ _ _ _ _ c.in_err-put-in-Image.ensures c.from_residual-in_err-put-in-Image.ensures.1)

pub returns-in_ok-put-in-Image : goal.returns-in_ok-put-in-Image
returns-in_ok-put-in-Image g c = rw c.in-Image.is (puts_then _ _ _ _ _ _ c.in_ok-put-in-Image.ensures
    (puts_same _ _ _ _ _ ((λ i. decimal (c.number.ensures i) ␣ c.name.ensures i)
    ∙ ap (λ e. decimal (number_of_fault e) ␣ name_of_fault e) c.error-error.ensures) c.put_error.ensures))

pub returns-in_err-put-in-Source : goal.returns-in_err-put-in-Source
returns-in_err-put-in-Source g c = rw c.in-Source.is (puts_less _ _ _ _ _ _ c.in_err-put-in-Source.ensures c.from_residual-in_err-put-in-Source.ensures.1)

pub returns-in_ok-put-in-Source : goal.returns-in_ok-put-in-Source
returns-in_ok-put-in-Source g c = rw c.in-Source.is (puts_then _ _ _ _ _ _ c.in_ok-put-in-Source.ensures c.put_source.ensures)

pub returns-in-Schedule : goal.returns-in-Schedule
returns-in-Schedule g c = rw c.in-Schedule.is c.put_numbered.ensures

pub returns-in-LogMachine : goal.returns-in-LogMachine
returns-in-LogMachine g c = rw c.in-LogMachine.is c.put-in-LogMachine.ensures

pub returns-in-LogImage : goal.returns-in-LogImage
returns-in-LogImage g c = rw c.in-LogImage.is c.put-in-LogImage.ensures

pub returns-in-Watches : goal.returns-in-Watches
returns-in-Watches g c = rw c.in-Watches.is c.put_numbered-in-Watches.ensures

pub returns-in-Watch : goal.returns-in-Watch
returns-in-Watch g c = rw c.in-Watch.is c.put_numbered-in-Watch.ensures

pub returns-in-Threads : goal.returns-in-Threads
returns-in-Threads g c = rw c.in-Threads.is (puts_same _ _ _ _ _ (ap (λ name. codes "s161: threads " ++ name) c.name-in-Threads.ensures) c.put_both.ensures)

pub returns-in-Memory : goal.returns-in-Memory
returns-in-Memory g c = rw c.in-Memory.is c.put-in-Memory.ensures

pub returns-in-Input : goal.returns-in-Input
returns-in-Input g c = elim c.in-Input.is [
  | inl input ↦ rw input.1 c.put-in-Input.ensures
  | inr word ↦ rw word c.put-in-Input.ensures
]

pub returns-in_err-put-in-After : goal.returns-in_err-put-in-After
returns-in_err-put-in-After g c = rw c.in-After.is (puts_less _ _ _ _ _ _ c.in_err-put-in-After.ensures c.from_residual-in_err-put-in-After.ensures.1)

pub returns-in_ok-put-in-After : goal.returns-in_ok-put-in-After
returns-in_ok-put-in-After g c = rw c.in-After.is (puts_then _ _ _ _ _ _ c.in_ok-put-in-After.ensures c.put_refusal.ensures)
