use Rattle.m161_asm.proofs.second.push_words.Goals as goal

pub returns-in-Entry : goal.returns-in-Entry
returns-in-Entry c = rw c.in-Entry.is (c.push_entry.ensures c.args.at)
