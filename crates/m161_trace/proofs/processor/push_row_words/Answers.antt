use Rattle.m161_trace.proofs.processor.push_row_words.Goals as goal

pub returns : goal.returns
returns c = rw (← c.entry_hi.ensures, ← c.entry_lo.ensures) (c.push_row.ensures)
