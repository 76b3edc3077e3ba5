use Rattle.std.proofs.Common.{◌≡◌, ◌∙◌, ap, sym, [], ◌∷◌, ◌++◌, ◌+◌, arith, length, map}
use Rattle.std.specs.List.{range_with_len}
use Rattle.std.proofs.lemmas.List.{length-append}
use Rattle.std.proofs.lemmas.List.FromFn.{map-range_with_len_more}
use Rattle.m161_states.specs.System.{Flags}
use Rattle.m161_reach.specs.helpers.Restore.{flags_in}
use Rattle.m161_reach.proofs.Encoding.{flags_size}
use Rattle.m161_reach.proofs.RemakingKept.{flags_back}
use Rattle.m161_reach.proofs.kept.keep_again.Goals as goal

pub push_reserved-requires : goal.push_reserved-requires
push_reserved-requires c =
    let size = c.loop-i.invariant.2 in
    let room = c.loop-i.invariant.1 in
    omega (arith, size, room)

pub loop-i-preserved : goal.loop-i-preserved
loop-i-preserved c =
    let words = c.args.words.now in
    let i = c.loop-i.i in (
      c.push_reserved.ensures.items
          ∙ ap (λ l. l ++ c.kept_of.result ∷ []) c.loop-i.invariant.0
          ∙ ap (λ (f : Flags). map (flags_in words) (range_with_len 0 i) ++ f ∷ []) c.kept_of.ensures
          ∙ sym (map-range_with_len_more (flags_in words) 0 i i (omega arith)),
      omega (arith, c.loop-i.invariant.1, c.push_reserved.ensures.capacity),
      ap length c.push_reserved.ensures.items ∙ length-append c.loop-i.kept.items (c.kept_of.result ∷ []) ∙ ap (λ n. n + 1) c.loop-i.invariant.2,
    )

pub returns : goal.returns
returns c = λ flags is.
    let size = ap length is ∙ flags_size flags in
    let number : c.loop-i.i ≡ length flags = omega (arith, size) in
    c.loop-i.invariant.0
    ∙ (λ j. map (flags_in (is j)) (range_with_len 0 (number j)))
    ∙ flags_back flags
