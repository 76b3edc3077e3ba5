use Rattle.std.proofs.Common.{sym}
use Rattle.m161_debug.proofs.Names.{no_distance, no_plus, no_value, sum_found}
use Rattle.m161_debug.proofs.reading.behind.Goals as goal

pub returns-in_err-name : goal.returns-in_err-name
returns-in_err-name c =
    rw c.from_residual.ensures
    (no_plus c.args.symbols.now c.args.text.now c.in_err-name.ensures)

pub returns-in_err-value : goal.returns-in_err-value
returns-in_err-value c =
    rw c.from_residual-in_err-value.ensures
    (no_value c.args.symbols.now c.args.text.now c.in_ok-name.name.now c.in_ok-name.distance.now
    c.in_ok-name.ensures (sym c.in_err-value.ensures))

pub returns-in_err-bytes : goal.returns-in_err-bytes
returns-in_err-bytes c =
    rw c.from_residual-in_err-bytes.ensures
    (no_distance c.args.symbols.now c.args.text.now c.in_ok-name.name.now
    c.in_ok-name.distance.now c.in_ok-name.ensures c.in_err-bytes.ensures)

pub returns : goal.returns
returns c =
    sum_found c.args.symbols.now c.args.text.now c.in_ok-name.name.now c.in_ok-name.distance.now
    c.in_ok-value.value c.in_ok-bytes.bytes c.checked_add.result c.in_ok-name.ensures
    (sym c.in_ok-value.ensures) c.in_ok-bytes.ensures.found c.checked_add.ensures
