use Rattle.std.proofs.Common.{subst, sym}
use Rattle.m161_cpu.specs.Kept.{AreKept, Translations}
use Rattle.m161_cpu.proofs.KeptRows.{kept_after}
use Rattle.m161_cpu.proofs.kept.Kept.forget.Goals as goal

pub returns : goal.returns
returns c = λ rows access i before after read old new kept.
    let t : Translations = record { tags = c.self.inside.tags; changes = c.self.inside.changes } in
    kept_after rows access i before after t c.args.old c.args.new read old new
    (subst (AreKept rows access) (sym c.self.view_is) kept)
