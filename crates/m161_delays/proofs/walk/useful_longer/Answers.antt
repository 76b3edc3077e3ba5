use Rattle.std.proofs.Common.{◌≡◌, ap, arith}
use Rattle.std.specs.Prelude.{slice_index}
use Rattle.m161_order.specs.Delays.{delays_of}
use Rattle.m161_delays.proofs.Walking.{is_longer, option_map_to}
use Rattle.m161_delays.proofs.walk.useful_longer.Goals as goal

pub returns : goal.returns
returns g c =
    let runs = c.args._runs.now in
    let offers = g.T.Runs.offers runs in
    let numbers = delays_of c.args.delays.now in
    let ready = slice_index c.args.counts.now c.args.number in
    let count : ready ≡ slice_index (offers numbers) c.args.number = ap (λ xs. slice_index xs c.args.number) c.requires.counts in
    option_map_to c.longer.result (λ few. omega (arith, few, count))
    (λ longer h. is_longer c.args.class offers numbers c.args.number ready longer ((g.met.T.Runs g.world.𝓛 g.world.𝓜 g.world.𝓡 ((λ s x. x), (λ x. x), (λ x. x), λ x. x)).alike runs) c.requires.useful c.requires.few.0
    c.requires.least c.requires.within count h)
    c.longer.ensures
