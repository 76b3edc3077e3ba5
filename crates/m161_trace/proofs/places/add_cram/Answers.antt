use Rattle.std.proofs.Common.{◌≡◌, ◌∙◌, ◌++◌, ℕ, List, ap, arith, string_bytes}
use Rattle.m161_bus.specs.declared.register.BoardWord.TheVariants as words
use Rattle.m161_trace.specs.Items.{board_item, each}
use Rattle.m161_trace.specs.Items.{Item}
use Rattle.m161_trace.specs.Line.{spaced}
use Rattle.m161_trace.proofs.Spaced.{each_more, grown, spaced_none}
use Rattle.m161_trace.proofs.places.add_cram.Goals as goal

pub loop-k-init : goal.loop-k-init
loop-k-init g c = spaced_none _

pub loop-k-preserved : goal.loop-k-preserved
loop-k-preserved g c =
    let item : ℕ → List Item = λ k. board_item c.args.before.now.state.board c.args.after.now.state.board (words.Cram c.args.c k) in
    grown _ _ _ _ _ _ (each_more 0 c.loop-k.k c.loop-k.k item (omega arith)) c.loop-k.invariant c.in_ok-add_word.ensures

pub returns : goal.returns
returns g c =
    let item : ℕ → List Item = λ k. board_item c.args.before.now.state.board c.args.after.now.state.board (words.Cram c.args.c k) in
    let whole : c.loop-k.k ≡ 64 = omega arith in
    λ naming. c.loop-k.invariant naming ∙ ap (λ n. string_bytes c.args.text.now ++ spaced naming (each 0 n item)) whole
