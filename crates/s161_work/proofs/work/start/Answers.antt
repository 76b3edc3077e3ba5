use Rattle.std.proofs.Common.{List, map, string_bytes, subst}
use Rattle.std.specs.Prelude.{String}
use Rattle.std.specs.Global.{Global}
use Rattle.s161_work.specs.Failures.{EndsBadly}
use Rattle.s161_work.specs.Works.{Follows, Rejects, file_use, standard}
use Rattle.s161_work.proofs.work.start.Goals as goal

pub returns-in-Ok-clause-rejected : goal.returns-in-Ok-clause-rejected
returns-in-Ok-clause-rejected g c = λ two.
    let P : List (String Global) → Type 0 = λ words. Rejects (map string_bytes words)
    (file_use (g.F.FileSource.known c.args.files.now) (g.F.FileSource.asked c.args.files.now) (g.F.FileSource.asked c.work.new.files))
    (standard (g.I.Read.remaining c.args.input.now) (g.O.Write.contents c.args.output.now) (g.E.Write.contents c.args.errors.now))
    (standard (g.I.Read.remaining c.work.new.input) (g.O.Write.contents c.work.new.output) (g.E.Write.contents c.work.new.errors)) in
    rw c.in-Ok.is (subst P c.as_slice.ensures.value (c.work.ensures.rejected two))

pub returns-in-Ok-clause-finished : goal.returns-in-Ok-clause-finished
returns-in-Ok-clause-finished g c = λ done.
    let P : List (String Global) → Type 0 = λ words. Follows (map string_bytes words)
    (file_use (g.F.FileSource.known c.args.files.now) (g.F.FileSource.asked c.args.files.now) (g.F.FileSource.asked c.work.new.files))
    (standard (g.I.Read.remaining c.args.input.now) (g.O.Write.contents c.args.output.now) (g.E.Write.contents c.args.errors.now))
    (standard (g.I.Read.remaining c.work.new.input) (g.O.Write.contents c.work.new.output) (g.E.Write.contents c.work.new.errors)) c.work.result in
    rw c.in-Ok.is (subst P c.as_slice.ensures.value (c.work.ensures.finished done))

pub returns-in-Ok-clause-failed : goal.returns-in-Ok-clause-failed
returns-in-Ok-clause-failed g c = λ one.
    let P : List (String Global) → Type 0 = λ words. EndsBadly (map string_bytes words)
    (file_use (g.F.FileSource.known c.args.files.now) (g.F.FileSource.asked c.args.files.now) (g.F.FileSource.asked c.work.new.files))
    (standard (g.I.Read.remaining c.args.input.now) (g.O.Write.contents c.args.output.now) (g.E.Write.contents c.args.errors.now))
    (standard (g.I.Read.remaining c.work.new.input) (g.O.Write.contents c.work.new.output) (g.E.Write.contents c.work.new.errors)) in
    rw c.in-Ok.is (subst P c.as_slice.ensures.value (c.work.ensures.failed one))
