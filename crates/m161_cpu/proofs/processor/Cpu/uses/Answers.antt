use Rattle.std.proofs.Common.{◌∙◌, ◌≡◌, sym, rules}
use Rattle.m161_cpu.specs.Scene.{around, scene_of}
use Rattle.m161_cpu.specs.Uses.{fetches}
use Rattle.m161_cpu.proofs.Used.{fetching, not_fetching}
use Rattle.m161_cpu.proofs.processor.Cpu.uses.Goals as goal

pub returns-then-not-fetches : goal.returns-then-not-fetches
returns-then-not-fetches g c = λ strict.
    let s = scene_of c.args.self.now c.args.c c.args.ram.now c.args.board.now.state c.args.links.now strict in
    let e : c.fetches.result ≡ fetches s = c.fetches.ensures (around c.args.c c.args.ram.now c.args.board.now.state c.args.links.now strict) (sym c.lines.ensures.lines) in
    not_fetching s (sym e ∙ search rules)

pub returns-in-Some : goal.returns-in-Some
returns-in-Some g c = λ strict.
    let s = scene_of c.args.self.now c.args.c c.args.ram.now c.args.board.now.state c.args.links.now strict in
    let e : c.fetches.result ≡ fetches s = c.fetches.ensures (around c.args.c c.args.ram.now c.args.board.now.state c.args.links.now strict) (sym c.lines.ensures.lines) in
    fetching s _ (sym e ∙ search rules) (c.in-Some.ensures c.args.board.now.state strict)

pub returns-in-None : goal.returns-in-None
returns-in-None g c = λ strict.
    let s = scene_of c.args.self.now c.args.c c.args.ram.now c.args.board.now.state c.args.links.now strict in
    let e : c.fetches.result ≡ fetches s = c.fetches.ensures (around c.args.c c.args.ram.now c.args.board.now.state c.args.links.now strict) (sym c.lines.ensures.lines) in
    fetching s c.uses_aside.result (sym e ∙ search rules) (c.uses_aside.ensures c.args.board.now.state strict)
