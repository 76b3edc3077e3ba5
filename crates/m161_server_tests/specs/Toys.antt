use Rattle.std.specs.Prelude.{ℕ, nat_le, nat_lt, ◌==◌, ◌&&◌, false, if◌then◌else◌, List, [], Option, None, Some, codes, length, slice_index_or, take}
use Rattle.m161_moves.specs.declared.doing.Activity.TheVariants as activities
use Rattle.m161_moves.specs.declared.doing.Doing.{Doing}
use Rattle.m161_moves.specs.declared.run.StepSeen.{StepSeen}
use Rattle.m161_moves.specs.Course.{Course}
use Rattle.m161_moves.specs.Scenes.{Scene}

-- A run of two processors, of which much is the same at each place.

abbrev pub doing : ℕ → Doing
doing p =
    if p == 0 then record { activity = activities.Running; is_user = false; in_slot = false }
    else record { activity = activities.Stopped; is_user = false; in_slot = false }

-- the start of the code, Random and PRId
abbrev pub register : ℕ → ℕ → Option ℕ
register p number =
    if nat_le 38 number && nat_le number 71 then None
    else if number == 37 then (if p == 0 then Some 2147484160 else Some 0)
    else if number == 73 then Some 16128
    else if number == 80 then Some 161
    else Some 0

-- a megabyte of zeros in kseg0 and kseg1; a page of sevens that processor 1 maps
abbrev pub byte : ℕ → ℕ → Option ℕ
byte p address =
    if nat_le 2147483648 address && nat_lt address 2148532224 then Some 0
    else if nat_le 2684354560 address && nat_lt address 2685403136 then Some 0
    else if p == 1 && nat_le 4194304 address && nat_lt address 4198400 then Some 7
    else None

abbrev pub next : ℕ → ℕ → List ℕ
next end place = if nat_lt place end then codes "s 0" else codes "off"

-- a word alone
abbrev pub memory_text : ℕ → ℕ → Option (List ℕ)
memory_text address number =
    if address == 2147484160 && number == 1 then Some (codes "00000200 3c088000\n") else None

abbrev pub of_processor : List ℕ → List ℕ → ℕ → List ℕ
of_processor first second p = if p == 0 then first else second

-- the console shows a byte at each event, up to two
abbrev pub scene_of : ℕ → Scene
scene_of end = record {
  processors = 2;
  count = end;
  doing = λ place p. doing p;
  register = λ place p number. register p number;
  byte = λ place p address. byte p address;
  console = λ place. take place (codes "hi");
  next = next end;
  schedule_text = λ place. if place == 0 then [] else codes "schedule\n";
  trace_text = λ place number. if place == 0 then [] else codes "trace\n";
  where_text = λ place. codes "0 running\n";
  registers_text = λ place p. of_processor (codes "regs 0\n") (codes "regs 1\n") p;
  cop0_text = λ place p. of_processor (codes "cop0 0\n") (codes "cop0 1\n") p;
  tlb_text = λ place p. of_processor (codes "tlb 0\n") (codes "tlb 1\n") p;
  memory_text = λ place address number. memory_text address number;
}

abbrev pub course_of : List (Option StepSeen) → Course
course_of events = record {
  end = length events;
  step = λ j. slice_index_or events j None;
  scene = scene_of (length events);
}
