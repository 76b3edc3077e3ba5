use Rattle.std.proofs.Common.{arith}
use Rattle.std.proofs.lemmas.Result.{err_from_is_err_and}
use Rattle.s161_search.proofs.Failing.{word_unknown, words_all, words_more}
use Rattle.s161_search.proofs.never.addresses_of.Goals as goal

pub loop-word-init : goal.loop-word-init
loop-word-init c = c.new-addresses.ensures.items

pub returns-in_err-address-clause-err : goal.returns-in_err-address-clause-err
returns-in_err-address-clause-err c =
    let made = err_from_is_err_and c.from_residual.result c.from_residual.ensures.1 in
    rw (made.1, made.2)
    (word_unknown c.args.symbols.now c.args.words.now c.loop-word.word-index _ c.loop-word.addresses.items c.in_err-address.field-0.0 (omega arith)
    c.loop-word.invariant c.in_err-address.ensures.err)

pub loop-word-preserved : goal.loop-word-preserved
loop-word-preserved c =
    words_more c.args.symbols.now c.args.words.now c.loop-word.word-index _ c.loop-word.addresses.items c.push_address.new.addresses.items c.in_ok-address.address
    (omega arith) c.loop-word.invariant c.in_ok-address.ensures.ok c.in_ok-push_address.ensures

pub returns-clause-ok : goal.returns-clause-ok
returns-clause-ok c =
    words_all c.args.symbols.now c.args.words.now c.loop-word.word-index c.loop-word.addresses.items (omega arith) c.loop-word.invariant
