use Rattle.std.specs.Prelude.{slice_get}
use Rattle.std.proofs.Common.{◌≡◌, refl, ◌∙◌, sym, ap, subst, take, drop, arith}
use Rattle.std.proofs.lemmas.List.{length-append, length-drop, length-take-le}
use Rattle.m161_drive.specs.Drive.{IsNoted}
use Rattle.m161_drive.proofs.Continuing.{continuing_more, continuing_none}
use Rattle.m161_drive.proofs.Driving.{take_front}
use Rattle.m161_drive.proofs.on.drive_on.Goals as goal

pub loop-made-init : goal.loop-made-init
loop-made-init g c = (
  continuing_none g.N.Notes.has c.args.policy.now c.args.cursor c.args.core.now.state c.args.notes.now,
  refl,
  omega arith,
)

pub loop-made-preserved : goal.loop-made-preserved
loop-made-preserved g c =
    let most = c.min-most.ensures in
    let turn = c.in-Ok.ensures.turn in
    let size = c.turn.ensures.length in
    let places = c.turn.new.entries in
    let rest = drop c.min-most.result c.loop-made.entries in
    let front = length-take-le c.min-most.result c.loop-made.entries (let long = c.loop-made.invariant.1 in omega (arith, most, long)) in
    let key : slice_get c.args.policy.now.keys c.loop-made.on.typed ≡ c.key-key.result =
    ap (slice_get c.args.policy.now.keys) (sym c.typed.ensures) ∙ sym c.key-key.ensures.value in
    let noted = subst (λ es. IsNoted g.N.Notes.has c.loop-made.notes es c.add.new.self) (take_front c.in-Ok.more places rest turn.1) c.in_ok-add-in-Ok.ensures in (
      continuing_more g.N.Notes.has c.args.policy.now c.args.cursor c.args.core.now.state c.loop-made.core.state c.turn.new.core.state c.args.notes.now c.loop-made.notes
          c.add.new.self c.loop-made.made c.in-Ok.more c.loop-made.on c.turn.new.cursor (take c.in-Ok.more places) c.loop-made.invariant.0
          (length-take-le c.in-Ok.more places turn.1) (turn.2 (slice_get c.args.policy.now.keys) key) noted,
      (let long = c.loop-made.invariant.1 in let sum = length-append places rest in let end = length-drop c.min-most.result c.loop-made.entries in
          omega (arith, sum, end, size, front, long, most)),
      omega (arith, turn.1, size, front, most),
    )
