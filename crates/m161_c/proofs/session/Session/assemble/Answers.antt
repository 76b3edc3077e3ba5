use Rattle.std.proofs.Common.{refl, inl, subst, Ok, Err}
use Rattle.m161_asm.specs.Text.{text}
use Rattle.m161_c.specs.Files.{TellsFile}
use Rattle.m161_c.proofs.session.Session.assemble.Goals as goal

pub returns-in-Ok-file_of-clause-does : goal.returns-in-Ok-file_of-clause-does
returns-in-Ok-file_of-clause-does c =
    let file = c.in-Ok-file_of.file.items in
    let utf8 = c.in-Ok.ensures.cases in
    inl (
      utf8.1,
      (Ok file, subst (λ s. TellsFile c.args.symbols (Ok file) (text s)) utf8.0 c.in-Ok-file_of.ensures.ok, (refl, refl, refl, refl)),
    )

pub returns-in-Err-clause-does : goal.returns-in-Err-clause-does
returns-in-Err-clause-does c =
    let utf8 = c.in-Ok.ensures.cases in
    inl (
      utf8.1,
      (Err c.in-Err.error, subst (λ s. TellsFile c.args.symbols (Err c.in-Err.error) (text s)) utf8.0 c.in-Err.ensures.err, (c.number.ensures, refl, refl)),
    )
