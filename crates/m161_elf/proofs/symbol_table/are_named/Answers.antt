use Rattle.std.proofs.Common.{◌≡◌, ◌∙◌, true, false, sym, ap, arith}
use Rattle.std.specs.List.{list_all}
use Rattle.std.specs.Prelude.{nat_lt}
use Rattle.std.proofs.lemmas.Bool.Decides.{nat_tests}
use Rattle.m161_elf.specs.Symbols.{count_of, entry, is_named, strings_of}
use Rattle.m161_elf.proofs.Rest.{all_later, all_not, rest_all}
use Rattle.m161_elf.proofs.symbol_table.are_named.Goals as goal

pub returns-then-entry-end : goal.returns-then-entry-end
returns-then-entry-end c =
    let file = c.args.file.now in
    let t = c.args.table.now in
    let i = c.loop-i.i in
    let test = is_named (strings_of file t) in
    let past : nat_lt c.entry-entry.result.st_name c.names_end-end.result ≡ false =
    grind (arith, nat_tests) in
    let isnt : test (entry file t i) ≡ false =
    ap test (sym c.entry-entry.ensures)
    ∙ ap (λ s. is_named s c.entry-entry.result) (sym c.strings.ensures)
    ∙ c.names_end-end.ensures.zeros c.entry-entry.result.st_name ∙ past in
    sym (ap (list_all test) (sym (rest_all (entry file t) (count_of t)))
    ∙ sym c.loop-i.invariant
    ∙ all_not (entry file t) test i (count_of t) (omega arith) isnt)

pub loop-i-preserved : goal.loop-i-preserved
loop-i-preserved c =
    let file = c.args.file.now in
    let t = c.args.table.now in
    let i = c.loop-i.i in
    let test = is_named (strings_of file t) in
    let below : nat_lt c.entry-entry.result.st_name c.names_end-end.result ≡ true =
    grind (arith, nat_tests) in
    let is : test (entry file t i) ≡ true =
    ap test (sym c.entry-entry.ensures)
    ∙ ap (λ s. is_named s c.entry-entry.result) (sym c.strings.ensures)
    ∙ c.names_end-end.ensures.zeros c.entry-entry.result.st_name ∙ below in
    all_later (entry file t) test i (count_of t) (omega arith) is ∙ c.loop-i.invariant
