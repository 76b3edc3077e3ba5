use Rattle.std.proofs.Common.{◌≡◌, ◌++◌, codes, string_bytes}
use Rattle.m161_server.specs.Texts.{listed, up_to}
use Rattle.m161_server.proofs.texts.threads_text.Given as goal

abbrev pub invariant-loop-p : goal.invariant-loop-p
invariant-loop-p l = string_bytes l.text ≡ codes "m" ++ up_to listed l.p
