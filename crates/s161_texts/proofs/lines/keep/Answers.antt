use Rattle.std.proofs.Common.{refl, inr}
use Rattle.std.proofs.lemmas.Result.{err_from_is_err_and}
use Rattle.std.specs.Prelude.{string_bytes}
use Rattle.s161_texts.proofs.Printing.{fails_before, fails_push, puts_push}
use Rattle.s161_texts.proofs.lines.keep.Goals as goal

pub returns-in_err-make_room-clause-err : goal.returns-in_err-make_room-clause-err
returns-in_err-make_room-clause-err g c =
    let made = err_from_is_err_and c.from_residual.result c.from_residual.ensures.1 in
    rw (made.1, made.2)
    (fails_before (g.O.Write.contents c.args.output.now) (g.O.Write.contents c.make_room.new.output) (string_bytes c.args.piece.now) c.args.line.now
    c.in_err-make_room.field-0.0 c.in_err-make_room.ensures.err)

pub returns-in_err-push_str-clause-err : goal.returns-in_err-push_str-clause-err
returns-in_err-push_str-clause-err g c =
    let made = err_from_is_err_and c.from_residual-in_err-push_str.result c.from_residual-in_err-push_str.ensures.1 in
    rw (made.1, made.2) (
      inr refl,
      fails_push (g.O.Write.contents c.args.output.now) (g.O.Write.contents c.make_room.new.output) (string_bytes c.args.piece.now) (string_bytes c.make_room.new.piece)
          c.args.line.now c.in_ok-make_room.ensures.ok,
    )

pub returns-clause-ok : goal.returns-clause-ok
returns-clause-ok g c =
    puts_push (g.O.Write.contents c.args.output.now) (g.O.Write.contents c.make_room.new.output) (string_bytes c.args.piece.now) (string_bytes c.make_room.new.piece)
    c.args.line.now (string_bytes c.push_str.new.self) c.in_ok-make_room.ensures.ok c.in_ok-push_str.ensures.bytes
