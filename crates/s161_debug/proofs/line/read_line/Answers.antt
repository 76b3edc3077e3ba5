use Rattle.std.proofs.Common.{◌≡◌, ◌≢◌, ◌∙◌, ◌<◌, ℕ, Bool, false, List, [], ◌∷◌, Option, None, Some, Vec, IfNone, IfSome, ap, arith, rules, subst, sym}
use Rattle.std.proofs.lemmas.Bool.Decides.{nat_tests}
use Rattle.std.proofs.lemmas.Result.{err_from_is_err_and}
use Rattle.std.specs.Global.{Global}
use Rattle.std.specs.Io.KnownBytes.{Consumes}
use Rattle.s161_base.specs.Streams.{ReadsByte}
use Rattle.s161_debug.specs.declared.line.Line.{Line}
use Rattle.s161_debug.specs.helpers.Sessions.{ReadsBytes, ReadsLine}
use Rattle.s161_debug.proofs.Reading.{ReadSome, none_read, read_last, read_more, read_none, read_whole, unkept}
use Rattle.s161_debug.proofs.line.read_line.Goals as goal

pub loop-many-init : goal.loop-many-init
loop-many-init g c =
    let input = g.I.Read.remaining c.args.input.now in
    subst (λ kept. ReadSome input input kept false 0) (sym c.new-bytes.ensures.items) (none_read input)

-- the input's end
ended : (input mid left : Option (List ℕ)) (bytes : Vec ℕ Global) (apart : Bool) (many : ℕ) → ReadSome input mid bytes.items apart many →
    ReadsByte mid None left → (line : Option Line) → IfNone line (many ≡ 0) →
    IfSome line (λ line. (line.bytes ≡ bytes) × (line.ended ≡ false) × (0 < many)) → ReadsLine input line left
ended input mid left bytes apart many so_far end None none some =
    (end.0, read_none input mid left bytes.items apart many so_far end.1 none)
ended input mid left bytes apart many so_far end (Some line) none some =
    let whole = read_last input mid left bytes.items apart many so_far end.0 end.1 some.2 in
    (whole.0, subst (λ is. ReadsBytes input is whole.0 left) (sym some.1) whole.1, ap (λ (v : Vec ℕ Global). v.items) some.0 ∙ whole.2)

pub returns-in_default-clause-ok : goal.returns-in_default-clause-ok
returns-in_default-clause-ok g c =
    let mid = g.I.Read.remaining c.loop-many.input in
    let left = g.I.Read.remaining c.read_byte.new.input in
    let none : c.in_ok-byte.field-0 ≡ None = search rules in
    let P : Option ℕ → Type 0 = λ byte. ReadsByte mid byte left in
    ended (g.I.Read.remaining c.args.input.now) mid left c.loop-many.bytes c.loop-many.apart c.loop-many.many c.loop-many.invariant
    (subst P none c.in_ok-byte.ensures.ok) c.last_line.result c.last_line.ensures.none c.last_line.ensures.some

pub returns-then-byte-eq10-clause-ok : goal.returns-then-byte-eq10-clause-ok
returns-then-byte-eq10-clause-ok g c =
    let mid = g.I.Read.remaining c.loop-many.input in
    let left = g.I.Read.remaining c.read_byte.new.input in
    let P : Option ℕ → Type 0 = λ byte. ReadsByte mid byte left in
    let ten : c.in-Some.byte ≡ 10 = grind (arith, nat_tests) in
    read_whole (g.I.Read.remaining c.args.input.now) mid left c.loop-many.bytes.items c.loop-many.apart c.loop-many.many c.loop-many.invariant
    (subst (λ b. Consumes mid left (b ∷ [])) ten (subst P c.in-Some.is c.in_ok-byte.ensures.ok))

pub returns-in_err-apart-clause-err : goal.returns-in_err-apart-clause-err
returns-in_err-apart-clause-err g c =
    let mid = g.I.Read.remaining c.loop-many.input in
    let left = g.I.Read.remaining c.read_byte.new.input in
    let made = err_from_is_err_and c.from_residual-in_err-apart.result c.from_residual-in_err-apart.ensures.1 in
    let P : Option ℕ → Type 0 = λ byte. ReadsByte mid byte left in
    let other : c.in-Some.byte ≢ 10 = grind (arith, nat_tests) in
    rw (made.1, made.2)
    (unkept (g.I.Read.remaining c.args.input.now) mid left c.loop-many.bytes.items c.loop-many.apart c.loop-many.many c.loop-many.invariant
    c.in-Some.byte other (subst P c.in-Some.is c.in_ok-byte.ensures.ok))

pub loop-many-preserved : goal.loop-many-preserved
loop-many-preserved g c =
    let mid = g.I.Read.remaining c.loop-many.input in
    let left = g.I.Read.remaining c.read_byte.new.input in
    let P : Option ℕ → Type 0 = λ byte. ReadsByte mid byte left in
    let other : c.in-Some.byte ≢ 10 = grind (arith, nat_tests) in
    read_more (g.I.Read.remaining c.args.input.now) mid left c.loop-many.bytes.items c.loop-many.apart c.loop-many.many c.loop-many.invariant
    c.in-Some.byte c.keep.new.bytes.items c.in_ok-apart.apart (subst P c.in-Some.is c.in_ok-byte.ensures.ok) other c.in_ok-apart.ensures
