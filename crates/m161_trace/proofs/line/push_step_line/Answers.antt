use Rattle.std.proofs.Common.{◌≡◌, ◌∙◌, ◌++◌, Option, string_bytes, subst}
use Rattle.std.specs.Prelude.{OnOk}
use Rattle.m161_trace.specs.declared.loads.Load.{Load}
use Rattle.m161_trace.specs.Items.{items}
use Rattle.m161_trace.specs.Line.{behind_load, step_line}
use Rattle.m161_trace.proofs.Near.{alike}
use Rattle.m161_trace.proofs.Spaced.{appended_ok}
use Rattle.m161_trace.proofs.line.push_step_line.Goals as goal

pub fetch_of-fetch-requires : goal.fetch_of-fetch-requires
fetch_of-fetch-requires g c = (alike c.args.p c.args.before.now.state c.args.outcome c.args.after.now.state c.requires).place

pub push_head-requires-clause-place : goal.push_head-requires-clause-place
push_head-requires-clause-place g c = (alike c.args.p c.args.before.now.state c.args.outcome c.args.after.now.state c.requires).place

pub load_if-load-requires-clause-alike : goal.load_if-load-requires-clause-alike
load_if-load-requires-clause-alike g c = alike c.args.p c.args.before.now.state c.args.outcome c.args.after.now.state c.requires

pub fill_items-requires-clause-alike : goal.fill_items-requires-clause-alike
fill_items-requires-clause-alike g c = alike c.args.p c.args.before.now.state c.args.outcome c.args.after.now.state c.requires

pub returns : goal.returns
unfolding step_line
returns g c =
    let s = c.args.before.now.state in
    let is = items c.args.p s c.args.outcome c.args.after.now.state in
    let style = c.args.style.now in
    let P : Option Load → Type 0 = λ load. OnOk c.push_load_and_items.result (string_bytes c.push_load_and_items.new.text ≡ string_bytes c.push_head.new.text ++ behind_load style load is) in
    appended_ok _ _ _ _ _ _ c.in_ok-push_head.ensures
    (subst P c.load_if-load.ensures (c.push_load_and_items.ensures is (c.as_str.ensures.value ∙ c.in_ok-fill_items.ensures)))
