use Rattle.std.proofs.Common.{◌≡◌, ◌∙◌, refl, sym, ap, ℕ, ◌+◌, Bool, true, false, List, [], ◌∷◌, ◌++◌, length, Option, None, Some, append-nil}
use Rattle.std.proofs.lemmas.List.{length-append}
use Rattle.std.specs.Prelude.{slice_get}
use Rattle.m161_machine.specs.declared.event.Event.{Event}
use Rattle.m161_machine.specs.State.{State}
use Rattle.m161_drive.specs.declared.cursor.Cursor.{Cursor}
use Rattle.m161_drive.specs.Choice.{chosen, chosen_with, wants_key}
use Rattle.m161_drive.proofs.Keys.{key_is_typed, key_is_unread, keys_are_apart, no_key_is_counted}
use Rattle.s161_command.specs.declared.drive.Drive.{Drive}
use Rattle.s161_run.specs.Driven.{rules_of}
use Rattle.s161_run.specs.helpers.Consoles.{GivesKey}

-- A choice with the next key is that of a policy whose keys are those before, this one, and any more.

abbrev pub as_list : Option ℕ → List ℕ
as_list None = []
as_list (Some byte) = byte ∷ []

at_end : (keys more : List ℕ) (byte : ℕ) → slice_get ((keys ++ byte ∷ []) ++ more) (length keys) ≡ Some byte
at_end [] more byte = refl
at_end (k ∷ keys) more byte = at_end keys more byte

past : (keys : List ℕ) → slice_get ((keys ++ []) ++ []) (length keys) ≡ None
past [] = refl
past (k ∷ keys) = past keys

module _ (options : Drive) (c : Cursor) (s : State) (keys : List ℕ) (typed : length keys ≡ c.typed) where
  abbrev Same : Option ℕ → List ℕ → Type 0
  Same key more =
      chosen (rules_of options ((keys ++ as_list key) ++ more)) c s ≡ chosen_with (rules_of options []) key c s

  -- where the policy's next key is this one
  by_key : (key : Option ℕ) (more : List ℕ) → slice_get ((keys ++ as_list key) ++ more) (length keys) ≡ key → Same key more
  by_key key more h =
      let all = (keys ++ as_list key) ++ more in
      ap (λ n. chosen_with (rules_of options all) (slice_get all n) c s) (sym typed)
      ∙ ap (λ k. chosen_with (rules_of options all) k c s) h
      ∙ keys_are_apart (rules_of options []) c s key all

  by_wants : (wants ended e : Bool) (left l : Option (List ℕ)) (key : Option ℕ) (more : List ℕ) →
      wants_key (rules_of options []) c s ≡ wants → GivesKey wants ended left key e l → (e ≡ true → more ≡ []) → Same key more
  by_wants false ended e left l None more w g h =
      let all = (keys ++ []) ++ more in
      key_is_unread (rules_of options all) c s (slice_get all c.typed) None w
      ∙ keys_are_apart (rules_of options []) c s None all
  by_wants false ended e left l (Some byte) more w g h =
      let bad : ◌≡◌ {A = Option ℕ} (Some byte) None = g.0 in absurd cc
  by_wants true ended e left l None more w g h =
      by_key None more (ap (λ m. slice_get ((keys ++ []) ++ m) (length keys)) (h g.0) ∙ past keys)
  by_wants true ended e left l (Some byte) more w g h = by_key (Some byte) more (at_end keys more byte)

  pub same_choice : (ended e : Bool) (left l : Option (List ℕ)) (key : Option ℕ) (more : List ℕ) →
      GivesKey (wants_key (rules_of options []) c s) ended left key e l → (e ≡ true → more ≡ []) → Same key more
  same_choice ended e left l key more g h =
      by_wants (wants_key (rules_of options []) c s) ended e left l key more refl g h

  -- it counts the key
  counts_if : (wants ended e : Bool) (left l : Option (List ℕ)) (key : Option ℕ) →
      wants_key (rules_of options []) c s ≡ wants → GivesKey wants ended left key e l →
      (chosen_with (rules_of options []) key c s).1.typed ≡ length (keys ++ as_list key)
  counts_if wants ended e left l None w g =
      no_key_is_counted (rules_of options []) c s ∙ sym typed ∙ ap length (sym (append-nil keys))
  counts_if false ended e left l (Some byte) w g =
      let bad : ◌≡◌ {A = Option ℕ} (Some byte) None = g.0 in absurd cc
  counts_if true ended e left l (Some byte) w g =
      ap (λ (x : Option Event × Cursor). x.1.typed) (key_is_typed (rules_of options []) c s (Some byte) w)
      ∙ ap (λ n. n + 1) (sym typed) ∙ sym (length-append keys (byte ∷ []))

  pub counts : (ended e : Bool) (left l : Option (List ℕ)) (key : Option ℕ) →
      GivesKey (wants_key (rules_of options []) c s) ended left key e l →
      (chosen_with (rules_of options []) key c s).1.typed ≡ length (keys ++ as_list key)
  counts ended e left l key g = counts_if (wants_key (rules_of options []) c s) ended e left l key refl g

  -- a key that is read is chosen
  unread_if : (wants ended e : Bool) (left l : Option (List ℕ)) (key : Option ℕ) →
      wants_key (rules_of options []) c s ≡ wants → GivesKey wants ended left key e l →
      (chosen_with (rules_of options []) key c s).0 ≡ None → key ≡ None
  unread_if wants ended e left l None w g h = refl
  unread_if false ended e left l (Some byte) w g h = g.0
  unread_if true ended e left l (Some byte) w g h =
      let typed = ap (λ (x : Option Event × Cursor). x.0) (key_is_typed (rules_of options []) c s (Some byte) w) in
      let bad = sym typed ∙ h in absurd cc

  pub unread : (ended e : Bool) (left l : Option (List ℕ)) (key : Option ℕ) →
      GivesKey (wants_key (rules_of options []) c s) ended left key e l →
      (chosen_with (rules_of options []) key c s).0 ≡ None → key ≡ None
  unread ended e left l key g h = unread_if (wants_key (rules_of options []) c s) ended e left l key refl g h
