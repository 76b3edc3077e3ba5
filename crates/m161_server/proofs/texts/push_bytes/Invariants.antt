use Rattle.std.proofs.Common.{◌≡◌, ◌++◌, drop, string_bytes}
use Rattle.m161_server.specs.Texts.{bytes_text}
use Rattle.m161_server.proofs.texts.push_bytes.Given as goal

abbrev pub invariant-loop-byte : goal.invariant-loop-byte
invariant-loop-byte l =
    string_bytes l.text ++ bytes_text (drop l.byte-index l.bytes) ≡ string_bytes l.fn.text ++ bytes_text l.bytes
