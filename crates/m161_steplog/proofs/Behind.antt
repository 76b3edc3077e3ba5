-- A log behind a machine line.
use Rattle.std.proofs.Common.{◌≡◌, ◌∙◌, inl, ℕ, List, [], ◌∷◌, ◌++◌, refl, sym, subst, ap, arith, rules, codes, decimal, append_assoc, map}
use Rattle.m161_machine.specs.declared.event.Entry.{Entry}
use Rattle.m161_text.specs.Lines.{lines_of, with_line_end}
use Rattle.m161_text.specs.Parts.{◌␣◌, hex_text, Lacks}
use Rattle.m161_text.proofs.Decimal.{decimal_lacks}
use Rattle.m161_text.proofs.Feeds.{lines_cut}
use Rattle.m161_text.proofs.Hex.{hex_lacks}
use Rattle.m161_steplog.specs.Text.{entry_text}
use Rattle.m161_steplog.specs.declared.mode.Mode.{Mode}
use Rattle.m161_steplog.specs.Log.{IsLog}
use Rattle.m161_steplog.specs.Comments.{IsLogFile}
use Rattle.m161_steplog.specs.declared.machine.MachineLine.{MachineLine}
use Rattle.m161_steplog.specs.Machine.{digest_text, machine_text, first_line, IsMachineLine}
use Rattle.m161_steplog.proofs.LogLines.{lacks_nil, lacks_cons, lacks_append, header_first}
use Rattle.m161_steplog.proofs.Machines.{first_cut}
use Rattle.m161_steplog.proofs.Passing.{IsPlain, Passed, passed_more, plain_line}

plain_log : (text : List ℕ) (mode : Mode) (es : List Entry) → IsLog text mode es → IsPlain text
plain_log text mode es log = plain_line text log.header (map entry_text es) log.text (header_first mode log.header log.first)

pub log_file : (text : List ℕ) (mode : Mode) (es : List Entry) → IsLog text mode es → IsLogFile text mode es
log_file text mode es log = subst (λ t. IsLog t mode es) (sym (plain_log text mode es log).1) log

digest_lacks : (d : List ℕ) → Lacks 10 (digest_text d)
digest_lacks [] = lacks_nil 10
digest_lacks (x ∷ d) = lacks_append 10 (hex_text 2 x) (digest_text d) (hex_lacks 10 2 x (omega arith)) (digest_lacks d)

machine_lacks : (m : MachineLine) → IsMachineLine m → Lacks 10 (machine_text m)
machine_lacks m fits =
    lacks_append 10 (codes "# machine ") (decimal m.ram ␣ decimal m.processors ␣ digest_text m.digest) (search (rules, lacks_cons, lacks_nil))
    (lacks_append 10 (decimal m.ram) (32 ∷ (decimal m.processors ␣ digest_text m.digest)) (decimal_lacks 10 m.ram (omega arith) (omega (arith, fits.ram)))
    (lacks_cons 10 32 (decimal m.processors ␣ digest_text m.digest) (omega arith)
    (lacks_append 10 (decimal m.processors) (32 ∷ digest_text m.digest) (decimal_lacks 10 m.processors (omega arith) (omega (arith, fits.processors)))
    (lacks_cons 10 32 (digest_text m.digest) (omega arith) (digest_lacks m.digest)))))

cut : (m : MachineLine) (text : List ℕ) → with_line_end (machine_text m) ++ text ≡ machine_text m ++ 10 ∷ text
cut m text = append_assoc (machine_text m) (10 ∷ []) text

pub machine_first : (m : MachineLine) (text : List ℕ) → IsMachineLine m → first_line (with_line_end (machine_text m) ++ text) ≡ machine_text m
machine_first m text fits = ap first_line (cut m text) ∙ first_cut (machine_text m) text (machine_lacks m fits)

pub log_behind : (m : MachineLine) (text : List ℕ) (mode : Mode) (es : List Entry) → IsMachineLine m → IsLog text mode es → IsLogFile (with_line_end (machine_text m) ++ text) mode es
log_behind m text mode es fits log =
    let whole = with_line_end (machine_text m) ++ text in
    let lacks = machine_lacks m fits in
    let start : Passed whole whole 0 = record { count = omega arith; behind = refl } in
    let passed = passed_more whole whole (machine_text m) text 0 start (ap lines_of (cut m text) ∙ lines_cut (machine_text m) text lacks) (lacks, inl (cut m text)) refl in
    subst (λ t. IsLog t mode es) (sym (passed.behind ∙ (plain_log text mode es log).1)) log
