use Rattle.std.proofs.Common.{List, ℕ, Option, subst}
use Rattle.std.specs.Str.Parse.{ParsesUnsigned, ExplainsUnsignedError, HasUnsignedDigitsIfOk}
use Rattle.clap.specs.Words.{found_of, one_text}
use Rattle.clap.proofs.WalkLemmas.{one_text-rows}
use Rattle.s161_command.specs.Drives.{IsLongNumberOf}
use Rattle.s161_command.proofs.Reading.{long_number_of}
use Rattle.s161_command.proofs.given.long_given.Goals as goal

pub returns : goal.returns
returns c =
    let found = found_of c.args.given.now in
    let P : Option (List ℕ) → Type 0 = λ text. IsLongNumberOf c.args.default text c.unwrap_or.result in
    subst P (one_text-rows found c.args.name.now)
    (long_number_of _ (λ bs r. ParsesUnsigned 64 10 bs r × ExplainsUnsignedError 10 bs r × HasUnsignedDigitsIfOk bs r)
    (one_text found c.args.name.now) c.get_one.result c.args.default c.unwrap_or.result
    c.get_one.ensures.none c.get_one.ensures.value (λ t x g. g.0) c.unwrap_or.ensures)
