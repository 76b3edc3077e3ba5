use Rattle.std.proofs.Common.{◌≡◌, refl, ap, ◌∙◌}
use Rattle.std.specs.Prelude.{List, ◌++◌, ◌∷◌, []}
use Rattle.m161_asm.specs.declared.statement.Line.{Line as CodeLine}
use Rattle.m161_asm.specs.Text.{symbols_in}
use Rattle.m161_asm.specs.helpers.Seen.{line_seen, above_of}
use Rattle.m161_asm.proofs.Above.{took}
use Rattle.m161_asm.proofs.Positions.{behind_line}
use Rattle.m161_asm.proofs.first.FirstPass.take.Goals as goal

pub returns-clause-pass : goal.returns-clause-pass
unfolding symbols_in
returns-clause-pass c =
    let old = c.args.self.now in
    let e : c.push.new.self.items ≡ old.lines.items ++ (c.args.line ∷ []) =
    c.in_ok-push.ensures.items
    ∙ ap (λ (ls : List CodeLine). ls ++ (c.args.line ∷ [])) c.in_default.ensures.lines in
    let t = took old.lines.items c.push.new.self.items c.args.line e in
    record {
      position =
          rw t (behind_line old.position c.settle.new.self.position (above_of old.lines.items)
          (line_seen c.args.line) c.requires.pass.position c.in_default.ensures.position);
      symbols =
          rw t (c.in_default.ensures.symbols
          ∙ rw (c.requires.pass.symbols, c.requires.pass.position.address) refl);
    }
