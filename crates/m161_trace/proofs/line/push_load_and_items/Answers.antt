use Rattle.std.proofs.Common.{◌≡◌, ◌++◌, List, ℕ, codes, string_bytes, subst}
use Rattle.std.specs.Prelude.{OnOk}
use Rattle.m161_trace.specs.Line.{load_text, spaced}
use Rattle.m161_trace.proofs.Spaced.{appended_ok}
use Rattle.m161_trace.proofs.line.push_load_and_items.Goals as goal

pub returns-in_ok-push_load-in-Some : goal.returns-in_ok-push_load-in-Some
returns-in_ok-push_load-in-Some c = λ is are.
    let style = c.args.style.now in
    let head = codes "  " ++ load_text style.symbols c.in-Some.load in
    let P : List ℕ → Type 0 = λ bytes. OnOk c.push_part.result (string_bytes c.push_part.new.text ≡ string_bytes c.push_load.new.text ++ bytes) in
    rw c.in-Some.is (appended_ok _ _ _ _ head (spaced style is) c.in_ok-push_load-in-Some.ensures (subst P are c.push_part.ensures))
