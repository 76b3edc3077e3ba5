use Rattle.std.proofs.Common.{◌≡◌, ◌∙◌, ◌++◌, subst, sym, inl, inr, List, ℕ, IfSome, option_map, string_bytes}
use Rattle.s161_base.proofs.Asking.{after_all, asks_both, asks_err, image_unread, later, says_err}
use Rattle.s161_base.specs.Asked.{image_files, option_files}
use Rattle.s161_base.specs.Listed.{IsTextOf, ListsFirst}
use Rattle.s161_base.specs.Samples.{image_file}
use Rattle.s161_run.specs.Driven.{IsOrderFault}
use Rattle.s161_run.proofs.Keeping.{first_is_none, keys_are, keys_failed, last_unread, text_failed, text_is, text_unread}
use Rattle.s161_run.proofs.Listing.{no_first}
use Rattle.s161_run.proofs.inputs.read_inputs.Goals as goal

pub returns-clause-ok : goal.returns-clause-ok
returns-clause-ok g c =
    let known = g.F.FileSource.known in
    let files = known c.args.files.now in
    let options = c.args.options in
    let file = c.in_ok-file.file.items in
    let text = option_map string_bytes c.in_ok-text.text in
    record {
      is_file = c.in_ok-file.ensures.whole;
      text = text;
      is_text = text_is options.after (known c.read_image.new.files) files text c.in_ok-file.ensures.still c.in_ok-text.ensures.whole;
      are_keys =
          keys_are options.keys (known c.read_text_if.new.files) files c.in_ok-keys.keys.items (λ n. c.in_ok-text.ensures.still n ∙ c.in_ok-file.ensures.still n)
          c.in_ok-keys.ensures.whole;
      lists =
          subst (λ bytes. ListsFirst c.args.size bytes text c.in_ok-first.first.events c.in_ok-first.first.conf) c.deref.ensures.value
          (subst (λ t. ListsFirst c.args.size c.deref.result.now t c.in_ok-first.first.events c.in_ok-first.first.conf) c.as_deref.ensures.value c.in_ok-first.ensures.ok);
    }

pub returns-in_err-text-clause-fault : goal.returns-in_err-text-clause-fault
returns-in_err-text-clause-fault g c =
    let known = g.F.FileSource.known in
    let files = known c.args.files.now in
    let image = image_file files c.args.image.now in
    let P = IsOrderFault c.args.image c.args.size c.args.options files image in
    says_err P c.from_residual-in_err-text.result c.from_residual-in_err-text.ensures.1
    (text_failed P c.args.options.after (known c.read_image.new.files) files c.in_err-text.field-0.0 c.in_ok-file.ensures.still (λ n why is. inr (inl is)) tt
    c.in_err-text.ensures.err)

pub returns-in_err-keys-clause-fault : goal.returns-in_err-keys-clause-fault
returns-in_err-keys-clause-fault g c =
    let files = g.F.FileSource.known c.args.files.now in
    let image = image_file files c.args.image.now in
    let P = IsOrderFault c.args.image c.args.size c.args.options files image in
    says_err P c.from_residual-in_err-keys.result c.from_residual-in_err-keys.ensures.1
    (keys_failed P c.args.options.keys c.in_err-keys.field-0.0 (λ n why is. inr (inr is)) tt c.in_err-keys.ensures.err)

pub returns-in_err-first-clause-fault : goal.returns-in_err-first-clause-fault
returns-in_err-first-clause-fault g c =
    let known = g.F.FileSource.known in
    let files = known c.args.files.now in
    let image = image_file files c.args.image.now in
    let options = c.args.options in
    let text = option_map string_bytes c.in_ok-text.text in
    let file = c.deref.result.now in
    let R : List ℕ → Type 0 = λ bytes. IfSome image (λ known. bytes ≡ known) in
    says_err (IsOrderFault c.args.image c.args.size options files image) c.from_residual-in_err-first.result c.from_residual-in_err-first.ensures.1
    (no_first c.args.image c.args.size options files image file (subst R (sym c.deref.ensures.value) c.in_ok-file.ensures.whole) _ c.in_err-first.field-0.0
    (subst (λ t. IsTextOf options.after files t) (sym c.as_deref.ensures.value)
    (text_is options.after (known c.read_image.new.files) files text c.in_ok-file.ensures.still c.in_ok-text.ensures.whole))
    c.in_err-first.ensures.fault)

-- Which files were asked for.

pub returns-in_err-file-clause-asks : goal.returns-in_err-file-clause-asks
returns-in_err-file-clause-asks g c =
    let asked = g.F.FileSource.asked in
    let options = c.args.options in
    asks_err c.from_residual.result c.from_residual.ensures.1
    (image_unread c.args.image (option_files options.after ++ option_files options.keys) (asked c.args.files.now) (asked c.read_image.new.files) c.in_err-file.field-0.0
    c.in_err-file.ensures.asks c.in_err-file.ensures.err)

pub returns-in_err-text-clause-asks : goal.returns-in_err-text-clause-asks
returns-in_err-text-clause-asks g c =
    let asked = g.F.FileSource.asked in
    let options = c.args.options in
    let b = asked c.read_image.new.files in
    let d = asked c.read_text_if.new.files in
    let fault = c.in_err-text.field-0.0 in
    asks_err c.from_residual-in_err-text.result c.from_residual-in_err-text.ensures.1
    (later (image_files c.args.image.now) (option_files options.after ++ option_files options.keys) (asked c.args.files.now) b d fault c.in_ok-file.ensures.asks
    (text_unread options.after (g.F.FileSource.known c.read_image.new.files) (option_files options.keys) b d fault c.in_err-text.ensures.asks c.in_err-text.ensures.err))

pub returns-in_err-keys-clause-asks : goal.returns-in_err-keys-clause-asks
returns-in_err-keys-clause-asks g c =
    let asked = g.F.FileSource.asked in
    let options = c.args.options in
    let b = asked c.read_image.new.files in
    let d = asked c.read_text_if.new.files in
    let e = asked c.read_keys.new.files in
    let fault = c.in_err-keys.field-0.0 in
    asks_err c.from_residual-in_err-keys.result c.from_residual-in_err-keys.ensures.1
    (later (image_files c.args.image.now) (option_files options.after ++ option_files options.keys) (asked c.args.files.now) b e fault c.in_ok-file.ensures.asks
    (later (option_files options.after) (option_files options.keys) b d e fault c.in_ok-text.ensures.asks
    (last_unread options.keys d e fault c.in_err-keys.ensures.asks c.in_err-keys.ensures.err)))

pub returns-in_err-first-clause-asks : goal.returns-in_err-first-clause-asks
returns-in_err-first-clause-asks g c =
    let asked = g.F.FileSource.asked in
    let image = image_files c.args.image.now in
    let after = option_files c.args.options.after in
    let keys = option_files c.args.options.keys in
    let a = asked c.args.files.now in
    let b = asked c.read_image.new.files in
    let d = asked c.read_text_if.new.files in
    let e = asked c.read_keys.new.files in
    asks_err c.from_residual-in_err-first.result c.from_residual-in_err-first.ensures.1
    (after_all (image ++ (after ++ keys)) a e c.in_err-first.field-0.0
    (asks_both image (after ++ keys) a b e c.in_ok-file.ensures.asks (asks_both after keys b d e c.in_ok-text.ensures.asks c.in_ok-keys.ensures.asks))
    (first_is_none c.args.size c.deref.result.now _ c.in_err-first.field-0.0 c.in_err-first.ensures.fault))

pub returns-clause-asks : goal.returns-clause-asks
returns-clause-asks g c =
    let asked = g.F.FileSource.asked in
    let after = option_files c.args.options.after in
    let keys = option_files c.args.options.keys in
    let a = asked c.args.files.now in
    let b = asked c.read_image.new.files in
    let d = asked c.read_text_if.new.files in
    let e = asked c.read_keys.new.files in
    asks_both (image_files c.args.image.now) (after ++ keys) a b e c.in_ok-file.ensures.asks (asks_both after keys b d e c.in_ok-text.ensures.asks c.in_ok-keys.ensures.asks)
