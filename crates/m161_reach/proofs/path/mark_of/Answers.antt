use Rattle.std.proofs.Common.{◌≡◌, ◌∙◌, add-one, ap}
use Rattle.m161_machine.specs.State.{processor_at}
use Rattle.m161_reach.specs.helpers.Path.{mark_upto, mixed, with_place, with_registers}
use Rattle.m161_reach.proofs.path.mark_of.Goals as goal

pub loop-p-preserved : goal.loop-p-preserved
loop-p-preserved g c =
    let ps = c.args.core.now.state.processors in
    let p = c.loop-p.p in
    let mark : c.loop-p.mark ≡ mark_upto ps p = c.loop-p.invariant in
    let pc = c.pc.ensures in
    let armed = c.armed_count.ensures in
    let first : c.mix.result ≡ mixed (mark_upto ps p) (processor_at p ps).pc = c.mix.ensures ∙ (λ i. mixed (mark i) (pc i)) in
    let place : c.mix-place.result ≡ with_place (mark_upto ps p) (processor_at p ps) = c.mix-place.ensures ∙ (λ i. mixed (first i) (armed i)) in
    rw add-one (c.mix_registers-mark.ensures ∙ ap (λ m. with_registers m (processor_at p ps).registers 32) place)
