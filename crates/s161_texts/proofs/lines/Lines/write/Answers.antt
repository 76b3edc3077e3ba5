use Rattle.s161_texts.proofs.lines.Lines.write.Goals as goal

pub note-requires : goal.note-requires
note-requires c = (c.args.machine.now.state, c.requires.accepted)
