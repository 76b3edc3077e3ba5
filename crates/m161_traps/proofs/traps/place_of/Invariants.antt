use Rattle.std.proofs.Common.{◌≡◌, ◌+◌, drop}
use Rattle.m161_traps.specs.helpers.Counting.{place_of}
use Rattle.m161_traps.proofs.traps.place_of.Given as goal

-- so many lines were passed
abbrev pub invariant-loop-line : goal.invariant-loop-line
invariant-loop-line l = record {
  place : l.place ≡ l.line-index;
  rest : place_of l.lines l.fn.trap ≡ l.place + place_of (drop l.line-index l.lines) l.fn.trap;
}
