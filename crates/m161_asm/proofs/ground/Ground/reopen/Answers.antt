use Rattle.std.specs.Prelude.{List, ◌≡◌, ◌≤◌, length}
use Rattle.std.proofs.Common.{subst}
use Rattle.m161_asm.specs.declared.ground.AddressRun.{AddressRun}
use Rattle.m161_asm.proofs.Grounds.{splits_within}
use Rattle.m161_asm.proofs.ground.Ground.reopen.Goals as goal

pub limit_at-self-requires : goal.limit_at-self-requires
limit_at-self-requires c =
    let e : c.deref.result.now ≡ c.deref-2.result.now = cc in
    subst (λ (x : List AddressRun). c.first_above-self.result ≤ length x) e
    (splits_within _ _ _ c.first_above-self.ensures)
