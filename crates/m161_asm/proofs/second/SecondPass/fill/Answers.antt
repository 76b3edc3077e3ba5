use Rattle.std.proofs.Common.{refl}
use Rattle.m161_asm.specs.declared.second.SecondPass.{SecondPass}
use Rattle.m161_asm.specs.Seen.{symbols_seen}
use Rattle.m161_asm.specs.helpers.Seen.{statement_seen}
use Rattle.m161_asm.proofs.Filled.{stop_fill, fill_on}
use Rattle.m161_asm.proofs.second.SecondPass.fill.Goals as goal

pub returns-in-Err : goal.returns-in-Err
returns-in-Err c = λ above l e f.
    stop_fill c.in-Err.error (symbols_seen c.args.symbols.now) c.args.self.now _
    c.args.self.now.current.words.items c.push_words.new.words.items above l
    (statement_seen c.args.statement.now) e c.in-Err.ensures f

pub returns-in-Ok : goal.returns-in-Ok
returns-in-Ok c = λ above l e f.
    let old = c.args.self.now in
    let moved : SecondPass = record {
      done = old.done;
      current = record { address = old.current.address; words = c.push_words.new.words };
      address = old.address;
      entry = c.entry_by-self.result;
    } in
    fill_on (symbols_seen c.args.symbols.now) old moved c.advance.new.self above l
    (statement_seen c.args.statement.now) _ _ e f c.in_default.ensures refl refl refl
    c.entry_by-self.ensures c.origin_of.ensures c.size_of.ensures c.in-Ok.ensures
