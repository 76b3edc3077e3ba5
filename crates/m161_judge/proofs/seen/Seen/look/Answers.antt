use Rattle.std.proofs.Common.{◌∙◌, ◌+◌, subst, sym, true}
use Rattle.m161_judge.specs.Seen.{HasSeen}
use Rattle.m161_judge.proofs.Seeing.{seen_bad, seen_free, seen_sent}
use Rattle.m161_judge.proofs.seen.Seen.look.Goals as goal

pub returns-then-not-is_stuck : goal.returns-then-not-is_stuck
returns-then-not-is_stuck g c = λ criteria s events out keys at seen.
    seen_free criteria s events c.args.made c.args.core.now.state c.args.keys_left c.args.self keys at
    (sym c.is_stuck.ensures ∙ c.if-not-is_stuck.true) seen

pub returns-then-has_sent : goal.returns-then-has_sent
returns-then-has_sent g c = λ criteria s events out keys at seen.
    seen_sent criteria s events c.args.made c.args.core.now.state c.args.keys_left c.args.self keys at
    (sym c.is_stuck.ensures ∙ c.if-not-is_stuck.false)
    (out ∙ c.has_sent.ensures.yes c.if-has_sent.true) seen

pub returns : goal.returns
returns g c = λ criteria s events out keys at seen.
    subst (λ first. HasSeen criteria s events (c.args.made + 1) (record { stuck = first; was_stuck = true })) (sym c.or.ensures)
    (seen_bad criteria s events c.args.made c.args.core.now.state c.args.keys_left c.args.self keys at
    (sym c.is_stuck.ensures ∙ c.if-not-is_stuck.false)
    (λ sent. c.has_sent.ensures.no c.if-has_sent.false (sym out ∙ sent)) seen)
