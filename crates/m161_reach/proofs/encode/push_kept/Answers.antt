use Rattle.std.proofs.Common.{◌≡◌, ◌∙◌, ap, sym, [], ◌∷◌, ◌++◌, arith, rules, get_or, take}
use Rattle.std.specs.Prelude.{flat_map}
use Rattle.std.proofs.lemmas.List.{flat_map_more, get_or_read, take_more}
use Rattle.m161_alike.specs.Words.{flag}
use Rattle.m161_states.specs.System.{Flags}
use Rattle.m161_states.specs.Views.{flag_words}
use Rattle.m161_reach.proofs.Keeping.{none_kept}
use Rattle.m161_reach.proofs.encode.push_kept.Goals as goal

pub loop-i-preserved : goal.loop-i-preserved
loop-i-preserved c =
    let kept = c.args.kept.now in
    let i = c.loop-i.i in
    let before = c.args.words.now.items in
    let now = c.loop-i.words.items in
    let changed : c.from.result ≡ flag c.flags.inside.changed = search rules in
    let gone_on : c.from-in-loop-i.result ≡ flag c.flags.inside.gone_on = search rules in
    c.in_ok-extend_from_slice.ensures.items
    ∙ (λ j. now ++ (changed j ∷ gone_on j ∷ []))
    ∙ ap (λ (f : Flags). now ++ flag_words f)
    (c.flags.view_is ∙ get_or_read kept i c.index-kept-i.result (omega arith) c.index-kept-i.is none_kept)
    ∙ ap (λ l. l ++ flag_words (get_or kept i none_kept)) c.loop-i.invariant
    ∙ flat_map_more flag_words before (take i kept) (get_or kept i none_kept)
    ∙ ap (λ l. before ++ flat_map flag_words l) (sym (take_more kept i none_kept (omega arith)))
