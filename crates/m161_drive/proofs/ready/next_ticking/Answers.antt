use Rattle.std.proofs.Common.{◌≡◌, ◌∙◌, ◌-◌, ℕ, sym, ap, length}
use Rattle.std.specs.Prelude.{Option, None, Some, find}
use Rattle.std.specs.List.{range_with_len}
use Rattle.m161_drive.specs.Ready.{is_ticking, place_behind}
use Rattle.m161_drive.proofs.Finding.{find_first, find_second, range_whole}
use Rattle.m161_drive.proofs.ready.next_ticking.Goals as goal

pub returns-in-Some : goal.returns-in-Some
returns-in-Some g c =
    let test = is_ticking c.args.core.now.state in
    let n = length c.args.core.now.state.processors in
    let a = place_behind c.args.last n in
    let n_is : c.processors-processors.result ≡ n = c.processors-processors.ensures in
    let a_is : c.place_behind-place.result ≡ a = c.place_behind-place.ensures ∙ ap (place_behind c.args.last) n_is in
    let found : ◌≡◌ {A = Option ℕ} (Some c.in-Some.p) (find test (range_with_len a (n - a))) =
    c.in-Some.ensures ∙ (λ i. find test (range_with_len (a_is i) (n_is i - a_is i))) in
    sym (find_first test (range_with_len a (n - a)) (range_with_len 0 a) c.in-Some.p (sym found))

pub returns-in-None : goal.returns-in-None
returns-in-None g c =
    let test = is_ticking c.args.core.now.state in
    let n = length c.args.core.now.state.processors in
    let a = place_behind c.args.last n in
    let n_is : c.processors-processors.result ≡ n = c.processors-processors.ensures in
    let a_is : c.place_behind-place.result ≡ a = c.place_behind-place.ensures ∙ ap (place_behind c.args.last) n_is in
    let none : ◌≡◌ {A = Option ℕ} None (find test (range_with_len a (n - a))) =
    c.in-None.ensures ∙ (λ i. find test (range_with_len (a_is i) (n_is i - a_is i))) in
    c.ticking_between-in-None.ensures ∙ ap (λ k. find test (range_with_len 0 (k - 0))) a_is
    ∙ ap (find test) (range_whole a)
    ∙ sym (find_second test (range_with_len a (n - a)) (range_with_len 0 a) (sym none))
