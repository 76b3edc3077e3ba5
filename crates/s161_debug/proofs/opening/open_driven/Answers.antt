use Rattle.std.proofs.Common.{◌≡◌, ◌++◌, subst, sym, List, ℕ}
use Rattle.std.specs.Prelude.{option_map, string_bytes}
use Rattle.std.proofs.lemmas.Result.{IfErr-weaker}
use Rattle.m161_machine.specs.History.{History}
use Rattle.s161_base.proofs.Asking.{IsNoFile, after_all, asks_both, asks_err, later, memory_is_none, result_asks}
use Rattle.s161_base.proofs.Listing.{if_ok}
use Rattle.s161_base.specs.Asked.{option_files}
use Rattle.s161_base.specs.Listed.{ListsFirst}
use Rattle.s161_base.specs.declared.fault.Fault.TheVariants.{Memory}
use Rattle.s161_run.proofs.Keeping.{keys_are, last_unread}
use Rattle.s161_run.specs.Behind.{TakesBehind}
use Rattle.s161_run.specs.Driven.{rules_of}
use Rattle.s161_debug.proofs.Asking.{unbooted_is_none}
use Rattle.s161_debug.proofs.opening.open_driven.Goals as goal

pub returns-in_err-keys-clause-asks : goal.returns-in_err-keys-clause-asks
returns-in_err-keys-clause-asks g c =
    let asked = g.F.FileSource.asked in
    let drive = c.args.drive in
    let b = asked c.read_text_if.new.files in
    let d = asked c.read_keys.new.files in
    let fault = c.in_err-keys.field-0.0 in
    asks_err c.from_residual-in_err-keys.result c.from_residual-in_err-keys.ensures.1
    (later (option_files drive.after) (option_files drive.keys) (asked c.args.files.now) b d fault c.in_ok-text.ensures.asks
    (last_unread drive.keys b d fault c.in_err-keys.ensures.asks c.in_err-keys.ensures.err))

-- both files were asked for
pub returns-in_err-booted-clause-asks : goal.returns-in_err-booted-clause-asks
returns-in_err-booted-clause-asks g c =
    let asked = g.F.FileSource.asked in
    let after = option_files c.args.drive.after in
    let keys = option_files c.args.drive.keys in
    let a = asked c.args.files.now in
    let b = asked c.read_text_if.new.files in
    let d = asked c.read_keys.new.files in
    asks_err c.from_residual-in_err-booted.result c.from_residual-in_err-booted.ensures.1
    (after_all (after ++ keys) a d c.in_err-booted.field-0.0 (asks_both after keys a b d c.in_ok-text.ensures.asks c.in_ok-keys.ensures.asks)
    (unbooted_is_none c.args.size c.args.image.now _ c.in_err-booted.field-0.0 c.in_err-booted.ensures.fault))

pub returns-clause-asks : goal.returns-clause-asks
returns-clause-asks g c =
    let asked = g.F.FileSource.asked in
    let after = option_files c.args.drive.after in
    let keys = option_files c.args.drive.keys in
    let a = asked c.args.files.now in
    let b = asked c.read_text_if.new.files in
    let d = asked c.read_keys.new.files in
    result_asks (after ++ keys) a d c.choose.result (asks_both after keys a b d c.in_ok-text.ensures.asks c.in_ok-keys.ensures.asks)
    (IfErr-weaker c.choose.result (λ fault. fault ≡ Memory) IsNoFile memory_is_none c.choose.ensures.fault)

pub returns-clause-ok : goal.returns-clause-ok
returns-clause-ok g c =
    let known = g.F.FileSource.known in
    let files = known c.args.files.now in
    let drive = c.args.drive in
    let booted = c.in_ok-booted.booted in
    let is = c.in_ok-booted.ensures.ok in
    let text = option_map string_bytes c.in_ok-text.text in
    let keys = c.in_ok-keys.keys.items in
    let are_keys = keys_are drive.keys (known c.read_text_if.new.files) files keys c.in_ok-text.ensures.still c.in_ok-keys.ensures.whole in
    let lists = subst (λ t. ListsFirst c.args.size c.args.image.now t booted.events is.0) c.as_deref.ensures.value is.1 in
    if_ok c.choose.result (λ opened h.
    let T : List ℕ → Type 0 = λ typed. TakesBehind (rules_of drive typed) drive.events booted.machine.state booted.events opened.events.items in
    let M : History → Type 0 = λ m. TakesBehind (rules_of drive keys) drive.events m.state booted.events opened.events.items in
    record {
      conf = is.0;
      come = (text, booted.events, keys, c.in_ok-text.ensures.whole, lists, are_keys, subst M (sym h.0) (subst T c.deref.ensures.value h.1));
      boots = rw h.0 is.2;
    }) c.choose.ensures.ok
