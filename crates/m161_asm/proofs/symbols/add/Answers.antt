use Rattle.m161_asm.proofs.Tables.{added_seen}
use Rattle.m161_asm.proofs.symbols.add.Goals as goal

pub returns : goal.returns
returns c =
    added_seen c.args.symbols.now.entries c.insert.new.self.entries c.in_ok-key.key c.args.name.now
    c.args.address c.in_ok-key.ensures.ok c.requires c.in_ok-insert.ensures.entries
