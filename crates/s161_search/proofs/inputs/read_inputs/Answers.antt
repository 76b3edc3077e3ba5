use Rattle.std.proofs.Common.{◌≡◌, ◌∙◌, ◌++◌, [], ◌∷◌, ap, subst, sym, inl, inr, List, ℕ, IfSome}
use Rattle.m161_judge.specs.Begun.{keys_in}
use Rattle.std.specs.Prelude.{flat_map, option_map, string_bytes}
use Rattle.s161_base.proofs.Asking.{after_all, asks_err, image_unread, later, says_err}
use Rattle.s161_base.specs.Asked.{image_files, option_files}
use Rattle.s161_base.specs.Listed.{IsTextOf, ListsFirst}
use Rattle.s161_base.specs.Samples.{image_file}
use Rattle.s161_run.proofs.Keeping.{first_is_none, keys_are, keys_failed, keys_unread, text_failed, text_is, text_unread}
use Rattle.s161_search.specs.Given.{search_files}
use Rattle.s161_search.specs.Searches.{IsSearchFault}
use Rattle.s161_search.proofs.Asking.{asks_all, line_is_none}
use Rattle.s161_search.proofs.Reading.{first_failed, has_first, output_is, text_failed as lines_failed, watches_are}
use Rattle.s161_search.proofs.inputs.read_inputs.Goals as goal

pub returns-clause-ok : goal.returns-clause-ok
returns-clause-ok g c =
    let known = g.F.FileSource.known in
    let files = known c.args.files.now in
    let task = c.args.task in
    let first = c.in_ok-first.first in
    let after = option_map string_bytes c.in_ok-after.after in
    let before = λ (n : List ℕ). c.in_ok-after.ensures.still n ∙ c.in_ok-file.ensures.still n in
    let keys = λ (n : List ℕ). c.in_ok-keys.ensures.still n ∙ before n in
    record {
      are_inputs = record {
        is_file = c.in_ok-file.ensures.whole;
        text = after;
        is_text = text_is task.drive.after (known c.read_image.new.files) files after c.in_ok-file.ensures.still c.in_ok-after.ensures.whole;
        are_keys = keys_are task.drive.keys (known c.read_text_if.new.files) files c.in_ok-keys.keys.items before c.in_ok-keys.ensures.whole;
        lists =
            subst (λ bytes. ListsFirst task.size bytes after first.events first.conf) c.deref.ensures.value
            (subst (λ t. ListsFirst task.size c.deref.result.now t first.events first.conf) c.as_deref.ensures.value c.in_ok-first.ensures.ok);
      };
      are_all = c.in_ok-all_keys.ensures ∙ ap (λ ks. keys_in first.events ++ ks) c.deref-2.ensures.value;
      are_watches = watches_are task.watches (known c.read_keys.new.files) files (option_map string_bytes c.in_ok-text.text) c.in_ok-watches.watches.items keys
          c.in_ok-text.ensures.whole c.in_ok-watches.ensures.found;
      is_output = output_is task.output (known c.read_text_if-2.new.files) files (option_map (λ bytes. bytes.items) c.in_ok-output.output)
          (λ n. c.in_ok-text.ensures.still n ∙ keys n) c.in_ok-output.ensures.whole;
    }

-- The first fault.

pub returns-in_err-after-clause-fault : goal.returns-in_err-after-clause-fault
returns-in_err-after-clause-fault g c = λ never.
    let known = g.F.FileSource.known in
    let files = known c.args.files.now in
    let P = IsSearchFault c.args.task never files (image_file files c.args.task.image.now) in
    says_err P c.from_residual-in_err-after.result c.from_residual-in_err-after.ensures.1
    (text_failed P c.args.task.drive.after (known c.read_image.new.files) files c.in_err-after.field-0.0 c.in_ok-file.ensures.still
    (λ n why is. inl (inr (inl is))) tt c.in_err-after.ensures.err)

pub returns-in_err-keys-clause-fault : goal.returns-in_err-keys-clause-fault
returns-in_err-keys-clause-fault g c = λ never.
    let files = g.F.FileSource.known c.args.files.now in
    let P = IsSearchFault c.args.task never files (image_file files c.args.task.image.now) in
    says_err P c.from_residual-in_err-keys.result c.from_residual-in_err-keys.ensures.1
    (keys_failed P c.args.task.drive.keys c.in_err-keys.field-0.0 (λ n why is. inl (inr (inr is))) tt c.in_err-keys.ensures.err)

pub returns-in_err-text-clause-fault : goal.returns-in_err-text-clause-fault
returns-in_err-text-clause-fault g c = λ never.
    let known = g.F.FileSource.known in
    let files = known c.args.files.now in
    let P = IsSearchFault c.args.task never files (image_file files c.args.task.image.now) in
    says_err P c.from_residual-in_err-text.result c.from_residual-in_err-text.ensures.1
    (text_failed P c.args.task.watches (known c.read_keys.new.files) files c.in_err-text.field-0.0
    (λ n. c.in_ok-keys.ensures.still n ∙ (c.in_ok-after.ensures.still n ∙ c.in_ok-file.ensures.still n)) (λ n why is. inr (inl is)) tt c.in_err-text.ensures.err)

pub returns-in_err-output-clause-fault : goal.returns-in_err-output-clause-fault
returns-in_err-output-clause-fault g c = λ never.
    let files = g.F.FileSource.known c.args.files.now in
    let P = IsSearchFault c.args.task never files (image_file files c.args.task.image.now) in
    says_err P c.from_residual-in_err-output.result c.from_residual-in_err-output.ensures.1
    (keys_failed P c.args.task.output c.in_err-output.field-0.0 (λ n why is. inr (inr is)) tt c.in_err-output.ensures.err)

pub returns-in_err-first-clause-fault : goal.returns-in_err-first-clause-fault
returns-in_err-first-clause-fault g c = λ never.
    let known = g.F.FileSource.known in
    let files = known c.args.files.now in
    let image = image_file files c.args.task.image.now in
    let task = c.args.task in
    let text = option_map string_bytes c.in_ok-after.after in
    let R : List ℕ → Type 0 = λ bytes. IfSome image (λ known. bytes ≡ known) in
    says_err (IsSearchFault task never files image) c.from_residual-in_err-first.result c.from_residual-in_err-first.ensures.1
    (first_failed task never files image c.deref.result.now (subst R (sym c.deref.ensures.value) c.in_ok-file.ensures.whole) _ c.in_err-first.field-0.0
    (subst (λ t. IsTextOf task.drive.after files t) (sym c.as_deref.ensures.value)
    (text_is task.drive.after (known c.read_image.new.files) files text c.in_ok-file.ensures.still c.in_ok-after.ensures.whole))
    c.in_err-first.ensures.fault)

pub returns-in_err-watches-clause-fault : goal.returns-in_err-watches-clause-fault
returns-in_err-watches-clause-fault g c = λ never.
    let known = g.F.FileSource.known in
    let files = known c.args.files.now in
    let image = image_file files c.args.task.image.now in
    let task = c.args.task in
    let after = option_map string_bytes c.in_ok-after.after in
    let first = c.in_ok-first.first in
    let file = c.in_ok-file.file.items in
    let P = IsSearchFault task never files image in
    let lists = subst (λ bytes. ListsFirst task.size bytes after first.events first.conf) c.deref.ensures.value
    (subst (λ t. ListsFirst task.size c.deref.result.now t first.events first.conf) c.as_deref.ensures.value c.in_ok-first.ensures.ok) in
    let has = has_first task files image file after first.events first.conf c.in_ok-file.ensures.whole
    (text_is task.drive.after (known c.read_image.new.files) files after c.in_ok-file.ensures.still c.in_ok-after.ensures.whole) lists in
    says_err P c.from_residual-in_err-watches.result c.from_residual-in_err-watches.ensures.1
    (lines_failed P task.watches (known c.read_keys.new.files) files (option_map string_bytes c.in_ok-text.text) c.in_err-watches.field-0.0
    (λ n. c.in_ok-keys.ensures.still n ∙ (c.in_ok-after.ensures.still n ∙ c.in_ok-file.ensures.still n)) c.in_ok-text.ensures.whole c.in_err-watches.ensures.fault
    (λ n bad. (has, bad)) tt)

-- Which files were asked for.

pub returns-in_err-file-clause-asks : goal.returns-in_err-file-clause-asks
returns-in_err-file-clause-asks g c =
    let asked = g.F.FileSource.asked in
    let task = c.args.task in
    asks_err c.from_residual.result c.from_residual.ensures.1
    (image_unread task.image (flat_map option_files (task.drive.after ∷ task.drive.keys ∷ task.watches ∷ task.output ∷ [])) (asked c.args.files.now)
    (asked c.read_image.new.files) c.in_err-file.field-0.0 c.in_err-file.ensures.asks c.in_err-file.ensures.err)

pub returns-in_err-after-clause-asks : goal.returns-in_err-after-clause-asks
returns-in_err-after-clause-asks g c =
    let asked = g.F.FileSource.asked in
    let task = c.args.task in
    let a = asked c.args.files.now in
    let b = asked c.read_image.new.files in
    let d = asked c.read_text_if.new.files in
    let fault = c.in_err-after.field-0.0 in
    asks_err c.from_residual-in_err-after.result c.from_residual-in_err-after.ensures.1
    (later (image_files task.image.now) (flat_map option_files (task.drive.after ∷ task.drive.keys ∷ task.watches ∷ task.output ∷ [])) a b d fault c.in_ok-file.ensures.asks
    (text_unread task.drive.after (g.F.FileSource.known c.read_image.new.files) (flat_map option_files (task.drive.keys ∷ task.watches ∷ task.output ∷ [])) b d fault c.in_err-after.ensures.asks c.in_err-after.ensures.err))

pub returns-in_err-keys-clause-asks : goal.returns-in_err-keys-clause-asks
returns-in_err-keys-clause-asks g c =
    let asked = g.F.FileSource.asked in
    let task = c.args.task in
    let a = asked c.args.files.now in
    let b = asked c.read_image.new.files in
    let d = asked c.read_text_if.new.files in
    let e = asked c.read_keys.new.files in
    let fault = c.in_err-keys.field-0.0 in
    asks_err c.from_residual-in_err-keys.result c.from_residual-in_err-keys.ensures.1
    (later (image_files task.image.now) (flat_map option_files (task.drive.after ∷ task.drive.keys ∷ task.watches ∷ task.output ∷ [])) a b e fault c.in_ok-file.ensures.asks
    (later (option_files task.drive.after) (flat_map option_files (task.drive.keys ∷ task.watches ∷ task.output ∷ [])) b d e fault c.in_ok-after.ensures.asks
    (keys_unread task.drive.keys (flat_map option_files (task.watches ∷ task.output ∷ [])) d e fault c.in_err-keys.ensures.asks c.in_err-keys.ensures.err)))

pub returns-in_err-text-clause-asks : goal.returns-in_err-text-clause-asks
returns-in_err-text-clause-asks g c =
    let asked = g.F.FileSource.asked in
    let task = c.args.task in
    let a = asked c.args.files.now in
    let b = asked c.read_image.new.files in
    let d = asked c.read_text_if.new.files in
    let e = asked c.read_keys.new.files in
    let f = asked c.read_text_if-2.new.files in
    let fault = c.in_err-text.field-0.0 in
    asks_err c.from_residual-in_err-text.result c.from_residual-in_err-text.ensures.1
    (later (image_files task.image.now) (flat_map option_files (task.drive.after ∷ task.drive.keys ∷ task.watches ∷ task.output ∷ [])) a b f fault c.in_ok-file.ensures.asks
    (later (option_files task.drive.after) (flat_map option_files (task.drive.keys ∷ task.watches ∷ task.output ∷ [])) b d f fault c.in_ok-after.ensures.asks
    (later (option_files task.drive.keys) (flat_map option_files (task.watches ∷ task.output ∷ [])) d e f fault c.in_ok-keys.ensures.asks
    (text_unread task.watches (g.F.FileSource.known c.read_keys.new.files) (flat_map option_files (task.output ∷ [])) e f fault c.in_err-text.ensures.asks c.in_err-text.ensures.err))))

pub returns-in_err-output-clause-asks : goal.returns-in_err-output-clause-asks
returns-in_err-output-clause-asks g c =
    let asked = g.F.FileSource.asked in
    let task = c.args.task in
    let a = asked c.args.files.now in
    let b = asked c.read_image.new.files in
    let d = asked c.read_text_if.new.files in
    let e = asked c.read_keys.new.files in
    let f = asked c.read_text_if-2.new.files in
    let h = asked c.read_output.new.files in
    let fault = c.in_err-output.field-0.0 in
    asks_err c.from_residual-in_err-output.result c.from_residual-in_err-output.ensures.1
    (later (image_files task.image.now) (flat_map option_files (task.drive.after ∷ task.drive.keys ∷ task.watches ∷ task.output ∷ [])) a b h fault c.in_ok-file.ensures.asks
    (later (option_files task.drive.after) (flat_map option_files (task.drive.keys ∷ task.watches ∷ task.output ∷ [])) b d h fault c.in_ok-after.ensures.asks
    (later (option_files task.drive.keys) (flat_map option_files (task.watches ∷ task.output ∷ [])) d e h fault c.in_ok-keys.ensures.asks
    (later (option_files task.watches) (flat_map option_files (task.output ∷ [])) e f h fault c.in_ok-text.ensures.asks
    (keys_unread task.output [] f h fault c.in_err-output.ensures.asks c.in_err-output.ensures.err)))))

-- all files were read

pub returns-in_err-first-clause-asks : goal.returns-in_err-first-clause-asks
returns-in_err-first-clause-asks g c =
    let asked = g.F.FileSource.asked in
    let task = c.args.task in
    let a = asked c.args.files.now in
    let b = asked c.read_image.new.files in
    let d = asked c.read_text_if.new.files in
    let e = asked c.read_keys.new.files in
    let f = asked c.read_text_if-2.new.files in
    let h = asked c.read_output.new.files in
    let all = asks_all task a b d e f h c.in_ok-file.ensures.asks c.in_ok-after.ensures.asks c.in_ok-keys.ensures.asks c.in_ok-text.ensures.asks c.in_ok-output.ensures.asks in
    let fault = c.in_err-first.field-0.0 in
    asks_err c.from_residual-in_err-first.result c.from_residual-in_err-first.ensures.1
    (after_all (search_files task) a h fault all (first_is_none task.size c.deref.result.now _ fault c.in_err-first.ensures.fault))

pub returns-in_err-watches-clause-asks : goal.returns-in_err-watches-clause-asks
returns-in_err-watches-clause-asks g c =
    let asked = g.F.FileSource.asked in
    let task = c.args.task in
    let a = asked c.args.files.now in
    let b = asked c.read_image.new.files in
    let d = asked c.read_text_if.new.files in
    let e = asked c.read_keys.new.files in
    let f = asked c.read_text_if-2.new.files in
    let h = asked c.read_output.new.files in
    let all = asks_all task a b d e f h c.in_ok-file.ensures.asks c.in_ok-after.ensures.asks c.in_ok-keys.ensures.asks c.in_ok-text.ensures.asks c.in_ok-output.ensures.asks in
    let fault = c.in_err-watches.field-0.0 in
    asks_err c.from_residual-in_err-watches.result c.from_residual-in_err-watches.ensures.1
    (after_all (search_files task) a h fault all (line_is_none (option_map string_bytes c.in_ok-text.text) fault c.in_err-watches.ensures.fault))

pub returns-in_err-all_keys-clause-asks : goal.returns-in_err-all_keys-clause-asks
returns-in_err-all_keys-clause-asks g c =
    let asked = g.F.FileSource.asked in
    let task = c.args.task in
    let a = asked c.args.files.now in
    let b = asked c.read_image.new.files in
    let d = asked c.read_text_if.new.files in
    let e = asked c.read_keys.new.files in
    let f = asked c.read_text_if-2.new.files in
    let h = asked c.read_output.new.files in
    let all = asks_all task a b d e f h c.in_ok-file.ensures.asks c.in_ok-after.ensures.asks c.in_ok-keys.ensures.asks c.in_ok-text.ensures.asks c.in_ok-output.ensures.asks in
    asks_err c.from_residual-in_err-all_keys.result c.from_residual-in_err-all_keys.ensures.1 (after_all (search_files task) a h _ all tt)

pub returns-clause-asks : goal.returns-clause-asks
returns-clause-asks g c =
    let asked = g.F.FileSource.asked in
    let task = c.args.task in
    let a = asked c.args.files.now in
    let b = asked c.read_image.new.files in
    let d = asked c.read_text_if.new.files in
    let e = asked c.read_keys.new.files in
    let f = asked c.read_text_if-2.new.files in
    let h = asked c.read_output.new.files in
    asks_all task a b d e f h c.in_ok-file.ensures.asks c.in_ok-after.ensures.asks c.in_ok-keys.ensures.asks c.in_ok-text.ensures.asks c.in_ok-output.ensures.asks
