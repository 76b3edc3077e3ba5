use Rattle.std.proofs.Common.{◌≡◌, sym, append_assoc, ℕ, suc, ◌+◌, ◌-◌, ◌/◌, ◌<◌, List, ◌++◌, ap, ◌∙◌, length, length-drop, take, drop, flat_map, arith}
use Rattle.m161_server.specs.Texts.{pieces, shown_packet, shown_packets}

-- a text that has a byte has a piece more than what is left behind its first
count_more : (n : ℕ) → 0 < n → (n + 8190) / 8191 ≡ suc ((n - 8191 + 8190) / 8191)
count_more n some = omega arith

pub piece_more : (text : List ℕ) → 0 < length text → shown_packets text ≡ shown_packet (take 8191 text) ++ shown_packets (drop 8191 text)
piece_more text some =
    let long = length-drop 8191 text in
    let count : (length text + 8190) / 8191 ≡ suc ((length (drop 8191 text) + 8190) / 8191) = rw long (count_more (length text) some) in
    ap (λ n. flat_map shown_packet (pieces n text)) count

pub piece_step :
    (front new rest total : List ℕ) → front ++ shown_packets rest ≡ total → 0 < length rest →
    new ≡ front ++ shown_packet (take 8191 rest) → new ++ shown_packets (drop 8191 rest) ≡ total
piece_step front new rest total so some is =
    ap (λ xs. xs ++ shown_packets (drop 8191 rest)) is
    ∙ append_assoc front (shown_packet (take 8191 rest)) (shown_packets (drop 8191 rest))
    ∙ ap (λ xs. front ++ xs) (sym (piece_more rest some)) ∙ so

pub shorter : (rest : List ℕ) → 0 < length rest → length (drop 8191 rest) < length rest
shorter rest some = let long = length-drop 8191 rest in omega (arith, long, some)
