use Rattle.std.proofs.Common.{◌∙◌, ◌++◌, List, ℕ, ap, ap₂, arith, string_bytes, subst, sym}
use Rattle.m161_steplog.specs.Schedule.{IsSchedule}
use Rattle.m161_text.specs.Lines.{lines_of}
use Rattle.s161_base.specs.Sizes.{machine_size}
use Rattle.s161_run.proofs.schedule.write_sized.Goals as goal

pub returns-clause-read : goal.returns-clause-read
returns-clause-read c = λ few.
    let P : List ℕ → Type 0 = λ text. IsSchedule (lines_of text) c.args.events.now in
    let is = ap (λ v. v.items) c.into_bytes.ensures.value ∙ c.in_ok-push_str.ensures.bytes
    ∙ ap₂ (λ (a b : List ℕ). a ++ b) c.in_ok-text.ensures c.as_str.ensures.value in
    subst P (sym is)
    (c.schedule_behind_size_line.ensures.schedule (machine_size c.args.conf) (string_bytes c.in_ok-lines.lines) c.args.events.now
    (record { ram = omega arith; processors = omega arith }) (c.in_ok-lines.ensures.read few))
