use Rattle.std.proofs.Common.{◌≡◌, ◌∙◌, ap, sym, ◌*◌, [], ◌∷◌, ◌++◌, rules, length}
use Rattle.std.specs.Prelude.{flat_map}
use Rattle.m161_alike.specs.Words.{optional}
use Rattle.m161_states.specs.Views.{beside_words, flag_words}
use Rattle.m161_reach.proofs.Encoding.{flags_size, in_four, on_ok}
use Rattle.m161_reach.proofs.encode.push_beside.Goals as goal

pub returns : goal.returns
returns g c =
    let old = c.args.words.now.items in
    let flags = c.place.inside.kept.items in
    let number : c.len.result ≡ length flags = search rules in
    on_ok c.push_kept.result (λ is.
    is
    ∙ (λ i. c.in_ok-push-2.ensures.items i ++ flat_map flag_words (c.deref.ensures.value i))
    ∙ (λ i. (c.in_ok-extend_from_slice.ensures.items i ++ (2 * number i) ∷ []) ++ flat_map flag_words flags)
    ∙ (λ i. ((c.in_ok-push.ensures.items i ++ c.optional.ensures i) ++ (2 * length flags) ∷ []) ++ flat_map flag_words flags)
    ∙ in_four old (optional c.place.inside.agreed) (flat_map flag_words flags) c.place.inside.typed (2 * length flags)
    ∙ (λ i. old ++ (c.place.inside.typed ∷ (optional c.place.inside.agreed ++ (sym (flags_size flags) i ∷ flat_map flag_words flags))))
    ∙ ap (λ x. old ++ beside_words x) c.place.view_is) c.push_kept.ensures
