use Rattle.std.proofs.Common.{◌≡◌, ◌∙◌, ap, sym, ◌+◌, ◌*◌, [], ◌∷◌, ◌++◌, length, arith, append_assoc}
use Rattle.m161_alike.specs.Words.{board_words}
use Rattle.m161_reach.proofs.Encoding.{board_size, on_ok}
use Rattle.m161_reach.proofs.encode.push_board.Goals as goal

pub returns : goal.returns
returns g c =
    let old = c.args.words.now.items in
    let s = c.args.core.now.state in
    let size = board_size s in
    let given = c.in-Ok.ensures in
    let processors = c.processors.ensures in
    let number = c.law.ensures.number in
    let first = c.from.ensures in
    let second = c.from-2.ensures in
    let waiting = c.waiting.ensures in
    let sum : 11 + 68 * c.from.result + c.from-2.result ≡ 11 + 68 * s.board.processors + length s.board.console.waiting =
    omega (arith, processors, number, first, second, waiting) in
    let is : c.in-Ok.number ≡ length (board_words s) = given.1 ∙ sum ∙ sym size in
    on_ok c.write_board.result (λ new_is.
    new_is
    ∙ ap (λ l. l ++ board_words s) c.in_ok-push.ensures.items
    ∙ append_assoc old (c.in-Ok.number ∷ []) (board_words s)
    ∙ ap (λ n. old ++ (n ∷ board_words s)) is) c.write_board.ensures.ok
