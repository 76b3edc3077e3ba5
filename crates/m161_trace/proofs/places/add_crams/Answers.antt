use Rattle.std.proofs.Common.{◌≡◌, ◌∙◌, ◌++◌, ℕ, List, ap, arith, string_bytes}
use Rattle.m161_trace.specs.Items.{each}
use Rattle.m161_trace.specs.helpers.Adds.{crams_of}
use Rattle.m161_trace.specs.Items.{Item}
use Rattle.m161_trace.specs.Line.{spaced}
use Rattle.m161_trace.proofs.Spaced.{each_more, grown, spaced_none}
use Rattle.m161_trace.proofs.places.add_crams.Goals as goal

pub loop-c-init : goal.loop-c-init
loop-c-init g c = spaced_none _

pub loop-c-preserved : goal.loop-c-preserved
loop-c-preserved g c =
    let item : ℕ → List Item = crams_of c.args.before.now.state.board c.args.after.now.state.board in
    grown _ _ _ _ _ _ (each_more 0 c.loop-c.c c.loop-c.c item (omega arith)) c.loop-c.invariant c.in_ok-add_cram.ensures

pub returns : goal.returns
returns g c =
    let item : ℕ → List Item = crams_of c.args.before.now.state.board c.args.after.now.state.board in
    let whole : c.loop-c.c ≡ c.args.n = omega arith in
    λ naming. c.loop-c.invariant naming ∙ ap (λ n. string_bytes c.args.text.now ++ spaced naming (each 0 n item)) whole
