use Rattle.std.proofs.Common.{IsUtf8}
use Rattle.m161_steplog.proofs.Machines.{ReadTo}
use Rattle.m161_steplog.proofs.machine.parse_digest.Given as goal

abbrev pub invariant-loop-k : goal.invariant-loop-k
invariant-loop-k l = record {
  read : ReadTo l.text l.rest l.digest l.k;
  utf8 : IsUtf8 l.rest;
}
