use Rattle.std.specs.Prelude.{ℕ, List, Option}
use Rattle.m161_gdb.specs.declared.packet.Packet.{Packet}
use Rattle.m161_gdb.specs.Packets.{first_row, moves, of_description, of_state, of_texts, of_thread_list, of_threads, or_else, queries}

-- The rows of the table, by parts.

-- those whose packets need no memory
abbrev pub short_row : List ℕ → Option Packet
short_row body =
    or_else (first_row moves body)
    (or_else (first_row queries body)
    (or_else (first_row of_threads body)
    (or_else (first_row of_state body)
    (or_else (first_row of_texts body)
    (or_else (first_row of_description body) (first_row of_thread_list body))))))
