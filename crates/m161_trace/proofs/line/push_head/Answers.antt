use Rattle.std.proofs.Common.{◌≡◌, ◌∙◌, ◌++◌, ℕ, List, Option, None, ap, subst, decimal, string_bytes}
use Rattle.std.specs.Prelude.{OnOk, if◌then◌else◌}
use Rattle.m161_text.specs.Parts.{◌␣◌}
use Rattle.m161_machine.specs.Fetched.{fetched, fetches_none}
use Rattle.m161_machine.specs.State.{processor_at}
use Rattle.m161_trace.specs.Line.{address_text, instruction_text}
use Rattle.m161_trace.proofs.line.push_head.Goals as goal

pub returns : goal.returns
returns g c =
    let text : ℕ → Option ℕ → List ℕ = λ pc word. decimal c.args.number ␣ decimal c.args.p ␣ address_text c.args.style.now pc ␣ instruction_text c.args.style.now pc word in
    let pc : ℕ = (processor_at c.args.p c.args.before.now.state.processors).pc in
    let word_is : c.fetched.result ≡ fetched c.args.p c.args.before.now.state c.args.outcome =
    c.fetched.ensures ∙ ap (λ (x : Option ℕ). if fetches_none c.args.outcome then None else x) c.requires.fetch in
    let P : ℕ → Type 0 = λ q. OnOk c.push_step.result (string_bytes c.push_step.new.text ≡ string_bytes c.args.text.now ++ text q c.fetched.result) in
    let Q : Option ℕ → Type 0 = λ w. OnOk c.push_step.result (string_bytes c.push_step.new.text ≡ string_bytes c.args.text.now ++ text pc w) in
    subst Q word_is (subst P c.pc.ensures c.push_step.ensures)
