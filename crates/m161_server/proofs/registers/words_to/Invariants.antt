use Rattle.std.proofs.Common.{◌≡◌, string_bytes}
use Rattle.m161_server.specs.Texts.{up_to, word_shown}
use Rattle.m161_server.proofs.registers.words_to.Given as goal

abbrev pub invariant-loop-number : goal.invariant-loop-number
invariant-loop-number g l =
    string_bytes l.text ≡ up_to (word_shown (g.T.Run.course l.target).scene (g.T.Run.place l.target) l.processor) l.number
