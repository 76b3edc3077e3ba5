use Rattle.std.proofs.Common.{◌∙◌, ◌++◌, ◌-◌, ◌+◌, ◌<◌, take, sym, ap, arith, length}
use Rattle.std.specs.Prelude.{filter}
use Rattle.std.specs.List.{range_with_len}
use Rattle.std.proofs.Math.ListN.{length-set}
use Rattle.m161_drive.specs.Ready.{is_ready}
use Rattle.m161_drive.proofs.Finding.{filter_skip, listed_more}
use Rattle.m161_drive.proofs.ready.add_ready.Goals as goal
use Rattle.m161_drive.proofs.ready.add_ready.Goals.{then-is_ready, else-is_ready}

pub loop-p-preserved : goal.loop-p-preserved
loop-p-preserved g c =
    let test = is_ready c.args.core.now.state in
    let n = c.args.to in
    let p = c.loop-p.p in
    let before = c.loop-p.invariant in
    let less : p < n = c.loop-p-test.true in
    let room : c.loop-p.count < length c.loop-p.places = omega (arith, before.long, before.few, before.low, less, c.requires.room) in
    elim c.if-is_ready.branch [
      | then-is_ready w ↦ record {
        long = ap length w.places-is ∙ length-set c.loop-p.places c.loop-p.count p ∙ before.long;
        low = omega (arith, before.low);
        few = omega (arith, before.few, before.low, w.count-is);
        all =
            (λ i. take (w.count-is i) (w.places-is i) ++ filter test (range_with_len (p + 1) (n - (p + 1))))
            ∙ sym (listed_more test c.loop-p.places c.loop-p.count p n less room (sym c.is_ready.ensures ∙ w.if-is_ready.true))
            ∙ before.all;
      }
      | else-is_ready w ↦ record {
        long = ap length w.places-is ∙ before.long;
        low = omega (arith, before.low);
        few = omega (arith, before.few, before.low, w.count-is);
        all =
            (λ i. take (w.count-is i) (w.places-is i) ++ filter test (range_with_len (p + 1) (n - (p + 1))))
            ∙ ap (λ xs. take c.loop-p.count c.loop-p.places ++ xs) (sym (filter_skip test p n less (sym c.is_ready.ensures ∙ w.if-is_ready.false)))
            ∙ before.all;
      }
    ]
