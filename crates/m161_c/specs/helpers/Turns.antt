use Rattle.std.specs.Prelude.{◌≡◌, ℕ, Bool, List, [], ◌∷◌, ◌++◌, slice_get, Option, None, Some}
use Rattle.m161_machine.specs.declared.event.Entry.{Entry}
use Rattle.m161_machine.specs.History.{History, Slides}
use Rattle.m161_drive.specs.declared.cursor.Cursor.{Cursor}
use Rattle.m161_drive.specs.declared.run.Stop.{Stop}
use Rattle.m161_drive.specs.Drive.{Goes, Rests}
use Rattle.m161_drive.specs.Policy.{Rules}
use Rattle.m161_dis.specs.declared.naming.Style.{Style}
use Rattle.m161_text.specs.Lines.{with_line_end}
use Rattle.m161_trace.specs.Line.{event_line_with}

-- One turn of a driven run.

-- the next key of a policy
abbrev pub next_key : Rules → Cursor → Option ℕ
next_key rules c = slice_get rules.keys c.typed

-- the event that is chosen is made, and its entry appended to the log; or none is made, and nothing is
-- changed but the cursor
abbrev pub MakesNext : Rules → Cursor → History → Option Stop → Cursor → History → Type 0
MakesNext rules c m None d k =
    (e : Entry) × Goes rules (next_key rules c) c m.state e d k.state × Slides m (e ∷ []) k
MakesNext rules c m (Some stop) d k = Rests rules (next_key rules c) c m.state stop × (k ≡ m)

-- the same with the event's line behind a text
abbrev pub TracesNext :
    Style → Bool → Rules → Cursor → History → List ℕ → Option Stop → Cursor → History → List ℕ → Type 0
TracesNext style loads rules c m before None d k after =
    (e : Entry) × Goes rules (next_key rules c) c m.state e d k.state × Slides m (e ∷ []) k
    × (after
    ≡ before ++ with_line_end (event_line_with style loads m.state.made e.event m.state e.outcome k.state))
TracesNext style loads rules c m before (Some stop) d k after =
    Rests rules (next_key rules c) c m.state stop × (k ≡ m) × (after ≡ before)
