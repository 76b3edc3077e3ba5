use Rattle.std.specs.Prelude.{List, ◌++◌, Option, None, Some}

-- Lists that are read one element after the other.

-- those that were read, and those that are left, if these can be read
abbrev pub all_behind : {X : Type 0} → List X → Option (List X) → Option (List X)
all_behind front None = None
all_behind front (Some rest) = Some (front ++ rest)
