use Rattle.std.proofs.Common.{ℕ, Bool, List, Option, Some, Result, Ok, Err, inr, subst}
use Rattle.s161_base.specs.declared.fault.Fault.{Fault}
use Rattle.s161_debug.specs.declared.line.Line.{Line}
use Rattle.s161_debug.specs.helpers.Sessions.{DoesTurn, Place, ReadsLine, Turns}

-- a line was read and done
taken : (input left : Option (List ℕ)) (p q : Place) (line : Line) (r : Result Bool Fault) → ReadsLine input (Some line) left →
    DoesTurn line.ended line.bytes.items p r q → Turns input p r left q
taken input left p q line (Ok more) reads turn =
    inr (record {
      ended = line.ended;
      line = reads.0;
      reads = reads.1;
      turn = subst (λ bytes. DoesTurn line.ended bytes p (Ok more) q) reads.2 turn;
    })
taken input left p q line (Err fault) reads turn =
    inr (record {
      ended = line.ended;
      line = reads.0;
      reads = reads.1;
      turn = subst (λ bytes. DoesTurn line.ended bytes p (Err fault) q) reads.2 turn;
    })
