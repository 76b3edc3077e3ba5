use Rattle.std.proofs.Common.{rules, ◌∙◌, sym, subst}
use Rattle.m161_cpu.specs.helpers.Links.{IsWalked}
use Rattle.m161_cpu.proofs.Linked.{fewer, last_of, walk_ends, walked_ending, walked_over, without_bit}
use Rattle.m161_cpu.proofs.links.Links.end_links_to.Goals.{then-names, else-names}
use Rattle.m161_cpu.proofs.links.Links.end_links_to.Goals as goal

pub loop-left-smaller : goal.loop-left-smaller
loop-left-smaller c =
    fewer c.args.at c.args.self.now c.live-left.ensures.length c.loop-left.left c.loop-left.self
    c.loop-left.invariant (search rules) (search rules)

pub loop-left-preserved : goal.loop-left-preserved
loop-left-preserved c =
    let at = c.args.at in
    let before = c.args.self.now in
    let left = c.loop-left.left in
    let IsOn = IsWalked at before (without_bit left (last_of left)) in
    elim c.if-names.branch [
      | then-names w ↦
          subst IsOn (sym (w.self-is ∙ w.unlink.ensures))
          (walked_ending at before c.live-left.ensures.length left c.loop-left.self
          c.loop-left.invariant (search rules) (search rules)
          (sym c.names.ensures ∙ w.if-names.true))
      | else-names w ↦
          subst IsOn (sym w.self-is)
          (walked_over at before c.live-left.ensures.length left c.loop-left.self
          c.loop-left.invariant (search rules) (search rules)
          (sym c.names.ensures ∙ w.if-names.false))
    ]

pub returns : goal.returns
returns c =
    walk_ends c.args.at c.args.self.now c.live-left.ensures.length c.loop-left.self
    (subst (λ n. IsWalked c.args.at c.args.self.now n c.loop-left.self) (search rules)
    c.loop-left.invariant)
