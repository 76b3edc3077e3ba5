use Rattle.std.specs.Prelude.{Bool, true, false}
use Rattle.m161_gdb.specs.declared.packet.Packet.{Packet}
use Rattle.m161_gdb.specs.declared.packet.Packet.TheVariants as packets
use Rattle.m161_server.specs.declared.words.Asked.{Asked}
use Rattle.m161_server.specs.declared.words.Asked.TheVariants as asks

-- Kinds of packets and of the monitor's lines.

-- a packet that makes no move, and no line of the monitor
abbrev pub is_still : Packet → Bool
is_still (packets.Resume actions) = false
is_still packets.Continue = false
is_still packets.Step = false
is_still packets.ContinueBack = false
is_still packets.StepBack = false
is_still (packets.Monitor line) = false
is_still _ = true

-- a text that is neither the console's nor a trace's
abbrev pub is_short : Asked → Bool
is_short (asks.Trace n) = false
is_short asks.Output = false
is_short _ = true
