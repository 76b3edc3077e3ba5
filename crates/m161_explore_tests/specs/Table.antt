use Rattle.std.specs.Prelude.{◌≡◌, ℕ, ◌==◌, ◌&&◌, nat_lt, [], ◌∷◌, slice_index_or, Option, None, Some, if◌then◌else◌}
use Rattle.m161_explore.specs.Rules.{Rules}
use Rattle.m161_explore_tests.specs.declared.table.Table.{Table}

-- A system that is a table: eight states with two events each.

-- where an event leads: 8 stands for nowhere
abbrev pub place_behind : Table → ℕ → ℕ → ℕ
place_behind table s e = if e == 0 then slice_index_or table.first s 8 else slice_index_or table.second s 8

abbrev pub next_of : Table → ℕ → ℕ → Option ℕ
next_of table s e = if nat_lt (place_behind table s e) 8 then Some (place_behind table s e) else None

abbrev pub verdict_of : Table → ℕ → ℕ → Option ℕ
verdict_of table s e = if (s == table.wrong) && (e == 1) then Some s else None

abbrev pub stop_of : Table → ℕ → ℕ → Option ℕ
stop_of table s e = if s == table.stop then Some e else None

abbrev pub table_rules : Table → Rules ℕ ℕ ℕ
table_rules table = record {
  width = 2;
  start = 0;
  next = λ s e. next_of table s e;
  verdict = λ s e. verdict_of table s e;
  stop = λ s e. stop_of table s e;
  is_end = λ s. s == table.end;
  view = λ s. s ∷ [];
}

pub same_place : (s t : ℕ) → s ∷ [] ≡ t ∷ [] → s ≡ t
same_place s t h = cc
