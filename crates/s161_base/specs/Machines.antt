use Rattle.std.specs.Prelude.{ℕ, Bool, true, false, ◌==◌, ◌&&◌, ◌||◌, not, if◌then◌else◌, bytes_eq, List, Option, None, Some}
use Rattle.std.specs.Option.{unwrap_or}
use Rattle.sha2.specs.Sha256.{sha256}
use Rattle.m161_isa.specs.declared.link.LinkUnit.{LinkUnit}
use Rattle.m161_isa.specs.declared.link.LinkUnit.TheVariants as unit
use Rattle.m161_machine.specs.declared.conf.Conf.{Conf}
use Rattle.m161_machine.specs.declared.event.Entry.{Entry}
use Rattle.m161_text.specs.Parts.{Reads}
use Rattle.m161_steplog.specs.declared.machine.MachineLine.{MachineLine}
use Rattle.m161_steplog.specs.declared.mode.Mode.{Mode}
use Rattle.m161_steplog.specs.declared.size.MachineSize.{MachineSize}
use Rattle.m161_steplog.specs.Comments.{IsLogFile}
use Rattle.m161_steplog.specs.Machine.{first_line, machine_text, IsMachineLine}
use Rattle.s161_command.specs.declared.task.AskedSize.{AskedSize}
use Rattle.s161_base.specs.declared.fault.Fault.{Fault}
use Rattle.s161_base.specs.declared.fault.Fault.TheVariants.{LogImage, LogMachine}
use Rattle.s161_base.specs.declared.machines.LoggedMachine.{LoggedMachine}
use Rattle.s161_base.specs.declared.machines.NamedMachine.{NamedMachine}
use Rattle.s161_base.specs.declared.machines.NamedMachine.TheVariants.{Logged, Sized}

-- The machine that a list of events names.

-- the machine line of a log's text, if it has one
abbrev pub NamesMachine : List ℕ → Option MachineLine → Type 0
NamesMachine text line = Reads IsMachineLine machine_text (first_line text) line

-- a text is that of a log with these entries, which says this of its machine
abbrev pub IsLogOf : List ℕ → LoggedMachine → List Entry → Type 0
IsLogOf text logged entries =
    IsLogFile text logged.mode entries × NamesMachine text logged.line

-- a machine of 1 MiB and one processor, whose links are words, and which isn't strict
abbrev pub default_size : MachineSize
default_size = record {
  ram = 1_048_576;
  processors = 1;
  mode = record { link = unit.Word; strict = false };
}

-- the size that a log's machine line says; without one the default's; and the mode of the log
abbrev pub size_of_log : Option MachineLine → Mode → MachineSize
size_of_log None mode = record default_size { mode = mode }
size_of_log (Some m) mode = record { ram = m.ram; processors = m.processors; mode = mode }

-- what a list of events says of its machine, if it says something
abbrev pub size_named : Option NamedMachine → MachineSize
size_named None = default_size
size_named (Some (Sized size)) = size
size_named (Some (Logged logged)) = size_of_log logged.line logged.mode

-- the machine that is asked for, of which what isn't given is of this size
abbrev pub conf_from : AskedSize → MachineSize → Conf
conf_from asked size = record {
  ram = unwrap_or asked.ram size.ram;
  processors = unwrap_or asked.processors size.processors;
  log = asked.log;
  link = unwrap_or asked.link size.mode.link;
  strict = asked.strict || size.mode.strict;
}

-- the machine that is asked for: what isn't given is as the list of events says
abbrev pub asked_conf : AskedSize → Option NamedMachine → Conf
asked_conf asked named = conf_from asked (size_named named)

-- the machine that is asked for where no list of events says anything of it
abbrev pub conf_asked : AskedSize → Conf
conf_asked asked = asked_conf asked None

-- what is asked for, of this machine
abbrev pub settled : AskedSize → Conf → AskedSize
settled asked conf = record {
  ram = Some conf.ram;
  processors = Some conf.processors;
  log = asked.log;
  link = Some conf.link;
  strict = conf.strict;
}

-- a number is given, and isn't this one
abbrev pub is_other : Option ℕ → ℕ → Bool
is_other None named = false
is_other (Some given) named = not (given == named)

-- a unit is given, and isn't this one
abbrev pub is_other_unit : Option LinkUnit → LinkUnit → Bool
is_other_unit (Some unit.Word) unit.Line = true
is_other_unit (Some unit.Line) unit.Word = true
is_other_unit _ named = false

-- another mode is given than that of a log: another unit, or a strict machine where the log's isn't
abbrev pub is_other_mode : AskedSize → Mode → Bool
is_other_mode asked mode = is_other_unit asked.link mode.link || (asked.strict && not mode.strict)

-- another size is given than that of a log's machine line
abbrev pub is_other_size : AskedSize → Option MachineLine → Bool
is_other_size asked None = false
is_other_size asked (Some m) = is_other asked.ram m.ram || is_other asked.processors m.processors

-- an image has the digest of a log's machine line
abbrev pub is_image : List ℕ → Option MachineLine → Bool
is_image file None = true
is_image file (Some m) = bytes_eq (sha256 file) m.digest

-- another machine is given than that of a log
abbrev pub is_other_machine : AskedSize → LoggedMachine → Bool
is_other_machine asked logged =
    is_other_mode asked logged.mode || is_other_size asked logged.line

-- the first of the reasons why this image, in the machine that is asked for, isn't the one that a
-- list of events names: of a log, another size or another mode is given; the image has another digest.
-- A schedule's machine line refuses nothing: what is given counts
abbrev pub machine_fault : AskedSize → List ℕ → Option NamedMachine → Option Fault
machine_fault asked file None = None
machine_fault asked file (Some (Sized size)) = None
machine_fault asked file (Some (Logged logged)) =
    if is_other_machine asked logged then Some LogMachine
    else (if is_image file logged.line then None else Some LogImage)
