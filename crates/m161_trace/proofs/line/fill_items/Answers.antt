use Rattle.std.proofs.Common.{◌≡◌, ◌++◌, string_bytes, subst, List, ℕ}
use Rattle.std.specs.Prelude.{OnOk}
use Rattle.m161_trace.specs.Items.{items}
use Rattle.m161_trace.specs.Line.{spaced}
use Rattle.m161_trace.proofs.line.fill_items.Goals as goal

pub returns : goal.returns
returns g c =
    let P : List ℕ → Type 0 = λ old. OnOk c.add_items.result (string_bytes c.add_items.new.text ≡ old ++ spaced c.args.style.now (items c.args.p c.args.before.now.state c.args.outcome c.args.after.now.state)) in
    subst P c.clear.ensures.bytes c.add_items.ensures
