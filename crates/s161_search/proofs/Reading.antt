use Rattle.std.proofs.Common.{◌≡◌, ℕ, List, Option, None, Some, IfSome, Bor, inl, refl, subst}
use Rattle.m161_audit.specs.declared.watch.Watch.{Watch}
use Rattle.s161_search.proofs.Unaudited.{watches_failed}
use Rattle.s161_base.specs.declared.fault.Fault.{Fault}
use Rattle.s161_base.specs.declared.fault.Fault.TheVariants.{Memory, Watches}
use Rattle.m161_machine.specs.declared.conf.Conf.{Conf}
use Rattle.m161_machine.specs.declared.event.Event.{Event}
use Rattle.s161_run.proofs.Listing.{unlisted_by}
use Rattle.s161_base.specs.Known.{OfKnown}
use Rattle.s161_base.specs.Listed.{IsTextOf, ListsFirst, ListsNoFirst}
use Rattle.s161_command.specs.declared.task.SearchTask.{SearchTask}
use Rattle.s161_search.specs.Searches.{HasFirst, IsSearchFault}
use Rattle.s161_search.specs.Given.{AreWatchesOf, IsBadLine, IsOutputOf}
use Rattle.s161_search.specs.helpers.Watches.{AreWatchesIn, IsFaultIn}

-- What was read of the watches.

-- the watches of the text are those of the file
pub watches_are : (name : Option (Bor (List ℕ))) (files others : List ℕ → Option (List ℕ)) (text : Option (List ℕ)) (watches : List Watch) →
    ((name : List ℕ) → files name ≡ others name) → IsTextOf name files text → AreWatchesIn text watches → AreWatchesOf name others watches
watches_are None files others text watches same is are = subst (λ t. AreWatchesIn t watches) is are
watches_are (Some name) files others text watches same is are =
    let known = subst (λ k. IfSome k (λ b. is.0 ≡ b)) (same name.now) is.1 in
    (is.0, known, (is.2.0, (watches, subst (λ t. AreWatchesIn t watches) is.2.1 are, refl)))

-- a fault of the text is one of the file
pub text_failed : (P : Fault → Type 0) (name : Option (Bor (List ℕ))) (files others : List ℕ → Option (List ℕ)) (text : Option (List ℕ)) (fault : Fault) →
    ((name : List ℕ) → files name ≡ others name) → IsTextOf name files text → IsFaultIn text fault →
    ((n : ℕ) → IsBadLine name others n → P (Watches n)) → P Memory → P fault
text_failed P None files others text fault same is h line memory = absurd (subst (λ t. IsFaultIn t fault) is h)
text_failed P (Some name) files others text fault same is h line memory =
    let known = subst (λ k. IfSome k (λ b. is.0 ≡ b)) (same name.now) is.1 in
    watches_failed P is.0 fault (λ n bad. line n (is.0, known, (is.2.0, bad))) memory (subst (λ t. IsFaultIn t fault) is.2.1 h)

-- first events that aren't listed
pub first_failed : (task : SearchTask) (never : List (List ℕ)) (files : List ℕ → Option (List ℕ)) (image : Option (List ℕ)) (file : List ℕ) →
    IfSome image (λ bytes. file ≡ bytes) → (text : Option (List ℕ)) (fault : Fault) → IsTextOf task.drive.after files text →
    ListsNoFirst task.size file text fault → IsSearchFault task never files image fault
first_failed task never files image file is_file None fault is h = absurd h
first_failed task never files image file is_file (Some text) fault is h =
    unlisted_by (IsSearchFault task never files image) task.size file text (λ n bad. (file, is_file, (Some text, is, inl bad)))
    (λ n bad. (file, is_file, (Some text, is, inl bad))) tt (λ none. (file, is_file, (Some text, is, none))) (λ none. (file, is_file, (Some text, is, none)))
    fault h

-- the first events have no fault
pub has_first : (task : SearchTask) (files : List ℕ → Option (List ℕ)) (image : Option (List ℕ)) (file : List ℕ) (text : Option (List ℕ)) (first : List Event)
    (conf : Conf) → IfSome image (λ bytes. file ≡ bytes) → IsTextOf task.drive.after files text → ListsFirst task.size file text first conf →
    HasFirst task files image
has_first task files image file text first conf is_file is lists = (file, is_file, (text, first, conf, is, lists, tt))

-- the output of a name, over files with the same bytes
pub output_is : (name : Option (Bor (List ℕ))) (files others : List ℕ → Option (List ℕ)) (output : Option (List ℕ)) →
    ((name : List ℕ) → files name ≡ others name) → IsOutputOf name files output → IsOutputOf name others output
output_is None files others output same h = h
output_is (Some name) files others output same h = subst (λ known. OfKnown known (λ bytes. output ≡ Some bytes)) (same name.now) h
