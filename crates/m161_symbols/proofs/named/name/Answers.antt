use Rattle.std.specs.Prelude.{string_bytes}
use Rattle.std.proofs.Common.{◌≡◌, ◌∙◌, ◌+◌, ◌-◌, ◌<◌, ℕ, List, [], ◌∷◌, ◌++◌, true, ap, sym, take, drop, length, get_or, arith}
use Rattle.std.proofs.lemmas.List.{take_more}
use Rattle.m161_elf.specs.Symbols.{is_shown}
use Rattle.m161_symbols.proofs.Found.{shown_at}
use Rattle.m161_symbols.proofs.named.name.Goals as goal

pub loop-byte-preserved : goal.loop-byte-preserved
loop-byte-preserved c =
    let file = c.args.file.now in
    let s = c.args.symbol.now in
    let i = c.loop-byte.byte-index in
    let n : ℕ = s.name_at + s.name_len - s.name_at in
    let bytes : List ℕ = take n (drop s.name_at file) in
    let size : n ≡ s.name_len = omega arith in
    let shown : is_shown bytes ≡ true =
    ap (λ m. is_shown (take m (drop s.name_at file))) size ∙ c.requires.shown in
    let within : i < length bytes = omega arith in
    let ascii = shown_at bytes i 0 shown within in
    c.in_ok-push.ensures.bytes
    ∙ ap (λ u. string_bytes c.loop-byte.name ++ u) (c.in_ok-push.ensures.ascii ascii)
    ∙ ap (λ t. t ++ get_or bytes i 0 ∷ []) c.loop-byte.invariant
    ∙ sym (take_more bytes i 0 within)
