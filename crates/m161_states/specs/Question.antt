use Rattle.std.specs.Prelude.{ℕ, ◌%◌, Bool, false, not, nat_le, ◌==◌, ◌&&◌, if◌then◌else◌, List, [], length}
use Rattle.std.specs.List.{list_any}
use Rattle.m161_isa.specs.declared.link.LinkUnit.TheVariants.{Word}
use Rattle.m161_machine.specs.History.{Start}
use Rattle.m161_judge.specs.Verdict.{Criteria}
use Rattle.m161_alike.specs.declared.known.Known.{Known}

-- What is asked of a machine.

pub record Question : Type 0 where
  -- what is booted
  pub start : Start
  -- by what the events are judged; its keys are all that are typed, in their order
  pub goal : Criteria
  -- what is known of time
  pub known : Known

-- bytes, in whole words
abbrev pub are_bytes : List ℕ → Bool
are_bytes bytes = not (list_any (nat_le 256) bytes) && (length bytes % 4 == 0)

-- a machine can start so: it has a processor, and its memory is of whole words
abbrev pub can_start : Start → Bool
can_start start = nat_le 1 start.conf.processors && are_bytes start.bytes

-- the least machine
abbrev pub least : Start
least = record {
  bytes = [];
  entry = 0;
  conf = record { ram = 0; processors = 1; log = 1; link = Word; strict = false };
}

-- what is booted. No machine starts as the least one does: it stands for what can't start, so that
-- each question is one of some machine
abbrev pub booted : Question → Start
booted q = if can_start q.start then q.start else least

abbrev pub processors_of : Question → ℕ
processors_of q = (booted q).conf.processors
