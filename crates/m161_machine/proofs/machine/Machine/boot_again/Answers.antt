use Rattle.std.proofs.Common.{◌≡◌, ◌∙◌, IfOk, ap₂, subst}
use Rattle.std.proofs.lemmas.Result.{IfOk-weaker}
use Rattle.m161_machine.specs.History.{History, history_at_boot}
use Rattle.m161_machine.specs.helpers.History.{start_of}
use Rattle.m161_machine.proofs.machine.Machine.boot_again.Goals as goal

pub returns : goal.returns
returns g c =
    let P : History → Type 0 = λ m. IfOk c.machine_at_boot.result (λ machine. machine ≡ history_at_boot m.start) in
    let same = ap₂ (λ bytes entry. history_at_boot (start_of bytes entry c.self.inside.conf))
    c.in_ok-image_again.ensures.1 c.in_ok-image_again.ensures.0 in
    subst P c.self.view_is (IfOk-weaker c.machine_at_boot.result _ _ (λ machine h. h ∙ same) c.machine_at_boot.ensures)
