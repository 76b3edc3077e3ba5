use Rattle.std.proofs.Common.{◌≡◌, ◌∙◌, ap, sym, subst, Some}
use Rattle.std.proofs.lemmas.Result.{IfOk-weaker}
use Rattle.std.specs.Prelude.{MatchOption, option_map}
use Rattle.m161_reach.specs.From.{asked_of, no_time, with_known}
use Rattle.m161_reach.specs.Hangs.{HangsNowhere, IsFirstHang}
use Rattle.m161_reach.specs.Named.{numbers_of}
use Rattle.m161_reach.proofs.Numbering.{hang_found}
use Rattle.m161_reach.proofs.machines.Machines.first_to_hang.Goals as goal

pub returns : goal.returns
returns g c =
    let r = asked_of c.self.inside.boot.now.state c.self.inside.goal.now in
    let q = with_known no_time c.args.self.now in
    let limit = c.args.limit in
    let es = c.args.events.now in
    let ns = c.in-Some.numbers.items in
    let is : numbers_of q es ≡ Some ns = sym c.in_ok-numbers.ensures ∙ ap (option_map (λ numbers. numbers.items)) c.in-Some.is in
    IfOk-weaker c.first_hang.result _ _
    (λ found h. hang_found q r limit es ns found (ap (with_known no_time) c.self.view_is) is
    (subst (λ xs. MatchOption found (HangsNowhere r limit xs) (IsFirstHang r limit xs)) c.deref.ensures.value h))
    c.first_hang.ensures
