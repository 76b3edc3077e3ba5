use Rattle.std.proofs.Common.{◌∷◌, []}
use Rattle.m161_trace.proofs.Spaced.{appended_ok}
use Rattle.m161_trace.proofs.text.push_open.Goals as goal

pub returns : goal.returns
returns c = appended_ok _ _ _ _ (32 ∷ 91 ∷ []) _ c.in_ok-push_str.ensures.bytes c.push_hex.ensures.bytes
