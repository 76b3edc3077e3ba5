use Rattle.std.specs.Prelude.{◌%◌, ◌^◌, Bool, nat_le, ◌==◌, ◌&&◌}
use Rattle.m161_machine.specs.declared.conf.Conf.{Conf}

-- RAM in pages of 4,096 bytes, 1 to 32 processors, and a log with room
abbrev pub is_within_limits : Conf → Bool
is_within_limits c =
    nat_le 4096 c.ram && nat_le c.ram (2 ^ 24) && (c.ram % 4096 == 0)
    && nat_le 1 c.processors && nat_le c.processors 32
    && nat_le 1 c.log && nat_le c.log (2 ^ 24)
