use Rattle.std.proofs.Common.{◌∙◌, ◌+◌, ap, arith, take, length-take-le}
use Rattle.std.specs.Prelude.{Some}
use Rattle.m161_drive.specs.Priorities.{PriorityState, after_fall}
use Rattle.m161_drive.proofs.Moved.{fell, first_more}
use Rattle.m161_drive.proofs.ranking.Ranking.fall.Goals as goal

pub returns : goal.returns
returns c =
    let o = c.self.inside in
    let r : PriorityState = record {
      generator = o.generator;
      within = o.within;
      made = o.made;
      points = take o.changes o.points;
      processors = o.processors;
      fallen = take o.down o.fallen;
    } in
    let place = c.args.place in
    let point = c.args.point in
    let others = c.take_out_of-others.result in
    let left = c.take_out_of-others.new.numbers in
    let out = c.take_out_of-others.ensures in
    let less = out.within in
    let long = out.length in
    let to = c.less_than-to.result in
    let few = c.less_than-to.ensures.within in
    let size = length-take-le others left (omega (arith, less, long)) in
    let put = first_more left c.put_in.new.numbers others to point long less (omega (arith, few, size)) c.put_in.ensures.value in
    fell r place point to c.move_to.new.numbers (take (others + 1) c.put_in.new.numbers) (take others left) out.value
    c.less_than-to.ensures.value c.move_to.ensures.value put
    ∙ ap (after_fall place (Some point)) c.self.view_is
