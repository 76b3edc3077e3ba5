use Rattle.std.specs.Prelude.{ℕ, List}
use Rattle.m161_machine.specs.declared.conf.Conf.{Conf}
use Rattle.m161_steplog.specs.declared.size.MachineSize.{MachineSize}
use Rattle.m161_steplog.specs.Size.{size_text}
use Rattle.m161_text.specs.Lines.{with_line_end}
use Rattle.s161_command.specs.declared.task.Size.{Size}

-- The machine of a command line.

-- the machine of this size
abbrev pub conf_of : Size → Conf
conf_of size = record {
  ram = size.ram;
  processors = size.processors;
  log = size.log;
  link = size.link;
  strict = size.strict;
}

-- a machine, as a machine line says it
abbrev pub machine_size : Conf → MachineSize
machine_size conf = record {
  ram = conf.ram;
  processors = conf.processors;
  mode = record { link = conf.link; strict = conf.strict };
}

-- the machine line of a schedule of its events, with its end
abbrev pub size_line_text : Conf → List ℕ
size_line_text conf = with_line_end (size_text (machine_size conf))
