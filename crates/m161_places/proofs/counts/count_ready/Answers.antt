use Rattle.std.proofs.Common.{◌∙◌, ◌<◌, sym, ap, arith, length}
use Rattle.m161_drive.specs.Ready.{is_ready}
use Rattle.m161_drive.proofs.Finding.{filter_skip, filter_take}
use Rattle.m161_places.proofs.counts.count_ready.Goals as goal
use Rattle.m161_places.proofs.counts.count_ready.Goals.{then-is_ready, else-is_ready}

pub loop-p-preserved : goal.loop-p-preserved
loop-p-preserved g c =
    let test = is_ready c.args.core.now.state in
    let n = c.processors-p-end.result in
    let p = c.loop-p.p in
    let before = c.loop-p.invariant in
    let less : p < n = c.loop-p-test.true in
    elim c.if-is_ready.branch [
      | then-is_ready w ↦ record {
        few = omega (arith, before.few, w.count-is);
        within = before.within;
        all =
            let taken = ap length (filter_take test p n less (sym c.is_ready.ensures ∙ w.if-is_ready.true)) in
            omega (arith, taken, before.all, w.count-is);
      }
      | else-is_ready w ↦ record {
        few = omega (arith, before.few, w.count-is);
        within = before.within;
        all =
            let skipped = ap length (filter_skip test p n less (sym c.is_ready.ensures ∙ w.if-is_ready.false)) in
            omega (arith, skipped, before.all, w.count-is);
      }
    ]
