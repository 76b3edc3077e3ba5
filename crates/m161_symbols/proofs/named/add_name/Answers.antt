use Rattle.std.specs.Prelude.{bytes_eq, if◌then◌else◌}
use Rattle.std.specs.Map.{lookup}
use Rattle.std.specs.Option.{is_some}
use Rattle.std.proofs.Common.{◌≡◌, ◌∙◌, [], ◌∷◌, ◌++◌, true, false, sym, ap}
use Rattle.m161_symbols.specs.Table.{entries_seen, seen}
use Rattle.m161_symbols.proofs.Found.{added_seen, looked_up, not_some}
use Rattle.m161_symbols.proofs.named.add_name.Goals as goal

pub returns-then-contains_key : goal.returns-then-contains_key
returns-then-contains_key c =
    let known = entries_seen c.args.by_name.now in
    let s = seen c.args.symbol.now in
    let found : is_some (lookup (bytes_eq s.0) known) ≡ true =
    ap (λ x. is_some (lookup (bytes_eq x) known)) (sym c.as_str-name.ensures.value)
    ∙ ap is_some (sym (looked_up _ c.as_str-name.result.now))
    ∙ sym c.contains_key.ensures ∙ c.if-contains_key.true in
    sym (ap (λ t. if t then known else known ++ s ∷ []) found)

pub returns : goal.returns
returns c =
    let known = entries_seen c.args.by_name.now in
    let s = seen c.args.symbol.now in
    let found : is_some (lookup (bytes_eq s.0) known) ≡ false =
    ap (λ x. is_some (lookup (bytes_eq x) known)) (sym c.as_str-name.ensures.value)
    ∙ ap is_some (sym (looked_up _ c.as_str-name.result.now))
    ∙ sym c.contains_key.ensures ∙ c.if-contains_key.false in
    added_seen _ _ c.in_ok-key.key s (c.in_ok-key.ensures.ok ∙ c.as_str-name.ensures.value)
    (not_some _ found) c.in_ok-insert.ensures.entries
    ∙ sym (ap (λ t. if t then known else known ++ s ∷ []) found)
