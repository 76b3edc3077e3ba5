use Rattle.std.proofs.Common.{rules, subst, sym}
use Rattle.m161_cpu.specs.Kept.{AreKept, Translations}
use Rattle.m161_cpu.proofs.KeptRows.{kept_more}
use Rattle.m161_cpu.proofs.kept.Kept.keep.Goals as goal

pub returns : goal.returns
returns c = λ rows access kept gives.
    let t : Translations = record { tags = c.self.inside.tags; changes = c.self.inside.changes } in
    kept_more rows access c.args.address c.args.id c.args.at c.place_of-place.result c.tag_of.result t
    c.place_of-place.ensures.value c.tag_of.ensures.value (search rules) (search rules) (search rules) gives
    (subst (AreKept rows access) (sym c.self.view_is) kept)
