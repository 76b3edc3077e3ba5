use Rattle.std.proofs.Common.{◌≡◌, codes, drop, map, bytes_eq, string_bytes}
use Rattle.std.specs.List.{list_any}
use Rattle.s161_work.proofs.waiting.asks_progress.Given as goal

-- the words that are left decide it
abbrev pub invariant-loop-i : goal.invariant-loop-i
invariant-loop-i l =
    list_any (λ word. bytes_eq word (codes "--progress")) (map string_bytes (drop l.i l.words))
    ≡ list_any (λ word. bytes_eq word (codes "--progress")) (map string_bytes l.words)
