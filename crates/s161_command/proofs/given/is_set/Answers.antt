use Rattle.std.proofs.Common.{◌∙◌, ap, sym}
use Rattle.std.specs.Prelude.{option_map}
use Rattle.clap.specs.Words.{found_of}
use Rattle.clap.proofs.WalkLemmas.{first_value-rows}
use Rattle.s161_command.specs.Numbers.{is_true}
use Rattle.s161_command.proofs.given.is_set.Goals as goal

pub returns-in-Some : goal.returns-in-Some
returns-in-Some c =
    let first = sym (first_value-rows (found_of c.args.given.now) c.args.name.now) ∙ sym c.get_str.ensures ∙ ap (option_map (λ s. s.now)) c.in-Some.is in
    c.eq.ensures ∙ ap is_true (sym first)

pub returns-in-None : goal.returns-in-None
returns-in-None c =
    let first = sym (first_value-rows (found_of c.args.given.now) c.args.name.now) ∙ sym c.get_str.ensures ∙ ap (option_map (λ s. s.now)) c.in-None.is in
    ap is_true (sym first)
