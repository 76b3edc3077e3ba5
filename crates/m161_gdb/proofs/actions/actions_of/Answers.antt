use Rattle.std.proofs.Common.{◌≡◌, ◌∙◌, None, rules, sym}
use Rattle.m161_gdb.specs.Packets.{actions_of}
use Rattle.m161_gdb.proofs.Cutting.{read_none}
use Rattle.m161_gdb.proofs.actions.actions_of.Goals as goal

pub returns-in_default-action_of : goal.returns-in_default-action_of
returns-in_default-action_of c =
    let none : c.action_of.result ≡ None = search rules in
    sym (read_none c.loop-part.rest.now c.in-Some.part.now c.in-Some.behind.now c.loop-part.actions (actions_of c.args.text.now)
    c.in-Some.ensures.parts (sym c.action_of.ensures ∙ none) c.loop-part.invariant)
