use Rattle.std.proofs.Common.{◌∙◌, ap, sym, [], ◌∷◌, ◌++◌, arith, map, take}
use Rattle.std.proofs.lemmas.List.{map_more}
use Rattle.m161_states.specs.System.{Flags, no_flags}
use Rattle.m161_reach.proofs.Keeping.{no_watch}
use Rattle.m161_reach.proofs.kept.keep_watches.Goals as goal

pub loop-i-preserved : goal.loop-i-preserved
loop-i-preserved c =
    let ws = c.args.watches.now in
    let i = c.loop-i.i in (
      c.push_reserved.ensures.items
          ∙ ap (λ l. l ++ c.kept_of.result ∷ []) c.loop-i.invariant.0
          ∙ ap (λ (f : Flags). map no_flags (take i ws) ++ f ∷ []) c.kept_of.ensures
          ∙ sym (map_more no_flags ws i no_watch (omega arith)),
      omega (arith, c.loop-i.invariant.1, c.push_reserved.ensures.capacity),
    )
