use Rattle.std.specs.Prelude.{◌≡◌, ℕ, List, [], ◌∷◌, ◌++◌, flat_map, Option, None, Some}
use Rattle.std.proofs.Common.{Bor}
use Rattle.m161_audit.specs.declared.watch.Watch.{Watch}
use Rattle.m161_audit.specs.WatchText.{AreWatchLines}
use Rattle.m161_judge.specs.Begun.{keys_in}
use Rattle.m161_judge.specs.Verdict.{Criteria}
use Rattle.m161_machine.specs.declared.conf.Conf.{Conf}
use Rattle.m161_machine.specs.declared.event.Event.{Event}
use Rattle.m161_text.specs.Lines.{FirstBad}
use Rattle.s161_command.specs.declared.task.SearchTask.{SearchTask}
use Rattle.s161_base.specs.Asked.{image_files, option_files}
use Rattle.s161_base.specs.Known.{OfKnown, OfText}
use Rattle.s161_search.specs.Audits.{OfWatches}
use Rattle.s161_run.specs.Driven.{AreInputs}

-- What a search reads.

-- its files, in the order in which they are read: the image's, and of the options that are given those of
-- the events that come first, the keys, the watches and the output
abbrev pub search_files : SearchTask → List (List ℕ)
search_files task =
    image_files task.image.now
    ++ flat_map option_files (task.drive.after ∷ task.drive.keys ∷ task.watches ∷ task.output ∷ [])

-- the image, the events that come first, the machine, the keys that an order types, and by what runs are
-- judged: all keys are those of the first events and of the order
pub record Given : Type 0 where
  pub file : List ℕ
  pub first : List Event
  pub conf : Conf
  pub keys : List ℕ
  pub all_keys : List ℕ
  pub watches : List Watch
  pub never : List ℕ
  pub output : Option (List ℕ)

abbrev pub criteria_of : Given → Criteria
criteria_of given = record {
  watches = given.watches;
  never = given.never;
  output = given.output;
  keys = given.all_keys;
}

-- the watches are those of the file of a name, as far as its bytes are known, or none without a name
abbrev pub AreWatchesOf :
    Option (Bor (List ℕ)) → (List ℕ → Option (List ℕ)) → List Watch → Type 0
AreWatchesOf None files watches = watches ≡ []
AreWatchesOf (Some name) files watches = OfWatches (files name.now) (λ watched. watches ≡ watched)

-- the output that is asked for is that of the file of a name
abbrev pub IsOutputOf :
    Option (Bor (List ℕ)) → (List ℕ → Option (List ℕ)) → Option (List ℕ) → Type 0
IsOutputOf None files output = output ≡ None
IsOutputOf (Some name) files output = OfKnown (files name.now) (λ bytes. output ≡ Some bytes)

-- all keys are those of the first events, and behind them those that an order types
abbrev pub AreAllKeys : Given → Type 0
AreAllKeys given = given.all_keys ≡ keys_in given.first ++ given.keys

-- all of it but the addresses; the files have these bytes, and that of the image, as far as they are known
pub record IsRead
    (task : SearchTask) (files : List ℕ → Option (List ℕ)) (image : Option (List ℕ)) (given : Given)
    : Type 0 where
  pub are_inputs :
      AreInputs task.size task.drive files image given.file given.keys given.first given.conf
  pub are_all : AreAllKeys given
  pub are_watches : AreWatchesOf task.watches files given.watches
  pub is_output : IsOutputOf task.output files given.output

-- the text of the watches has this first bad line
abbrev pub IsBadLine : Option (Bor (List ℕ)) → (List ℕ → Option (List ℕ)) → ℕ → Type 0
IsBadLine None files n = ⊥
IsBadLine (Some name) files n =
    OfText (files name.now) (λ text. FirstBad AreWatchLines text n)
