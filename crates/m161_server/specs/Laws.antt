use Rattle.std.specs.Prelude.{◌≡◌, ℕ, ◌≤◌, List}
use Rattle.m161_gdb.specs.declared.frames.Item.{Item}
use Rattle.m161_gdb.specs.declared.packet.Packet.{Packet}
use Rattle.m161_moves.specs.Course.{Course}
use Rattle.m161_server.specs.Sessions.{Answer, Answers, Standing}
use Rattle.m161_server.specs.Serving.{HasPast, Passes, Progress}

-- Laws of sessions.

-- a packet has an answer
abbrev pub HasAnswer : Type 0
HasAnswer =
    (course : Course) (packet : Packet) (x : Standing) → x.place ≤ course.end →
    (a : Answer) × (y : Standing) × Answers course packet x a y

-- and one alone
abbrev pub HasOneAnswer : Type 0
HasOneAnswer =
    (course : Course) (packet : Packet) (x y z : Standing) (a b : Answer) →
    Answers course packet x a y → Answers course packet x b z → (a ≡ b) × (y ≡ z)

-- the bytes that were read say what was written for them, and where the session is
abbrev pub HasOneText : Type 0
HasOneText =
    (course : Course) (place : ℕ) (bytes : List ℕ) (past other : List Item) (s t : List ℕ)
    (p q : Progress) → HasPast bytes past → HasPast bytes other → Passes course place past s p →
    Passes course place other t q → (s ≡ t) × (p ≡ q)
