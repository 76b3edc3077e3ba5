use Rattle.std.proofs.Common.{arith}
use Rattle.std.proofs.Output.{has_written_of_eq}
use Rattle.m161_text.proofs.Hex.{hex_text_bytes}
use Rattle.m161_text.proofs.digits.WordDisplay.fmt.Goals as goal

pub returns-clause-writes : goal.returns-clause-writes
returns-clause-writes g c = λ plain ok. has_written_of_eq _ _ _ _ _ (hex_text_bytes c.args.self.now.0 (omega arith)) (c.write.ensures.writes plain ok)
