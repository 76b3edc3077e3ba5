use Rattle.std.proofs.Common.{rules, ◌≡◌, ◌∙◌, sym, ap, subst, map, Some}
use Rattle.m161_cpu.specs.Links.{HasBits, LinkState, after_store, unless_to}
use Rattle.m161_cpu.proofs.Linked.{none_live}
use Rattle.m161_cpu.proofs.links.Links.store_to.Goals as goal

pub returns-else-self-ne0 : goal.returns-else-self-ne0
returns-else-self-ne0 c =
    let linked = c.self.inside.linked in
    let unit = c.self.inside.unit in
    let none : HasBits linked 0 =
    subst (λ n. HasBits linked n) (search rules) c.self.invariant.1
    in
    let all = none_live linked c.self.invariant.0 none in
    let same : linked ≡ map (unless_to unit c.args.at) linked =
    all ∙ sym (ap (map (unless_to unit c.args.at)) all) in
    let kept : ◌≡◌ {A = LinkState} (record { unit = unit; live = linked }) (after_store (Some c.args.at) (record { unit = unit; live = linked })) =
    λ i. record { unit = unit; live = same i } in
    subst (λ links. links ≡ after_store (Some c.args.at) links) (search rules) kept
