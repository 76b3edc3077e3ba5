use Rattle.std.proofs.Common.{◌≡◌, ◌∙◌, ◌++◌, ◌≤◌, ◌-◌, ap, subst, sym, arith, take, drop, length, length-drop, take_all}
use Rattle.std.proofs.Math.Seq.{take-add}
use Rattle.std.proofs.KnownBytes.{Appends-trans}
use Rattle.std.specs.Io.KnownBytes.{Appends}
use Rattle.m161_server.proofs.streams.write_whole.Goals as goal

pub loop-call-preserved : goal.loop-call-preserved
loop-call-preserved g c =
    let written = c.loop-call.written in
    let bytes = c.args.bytes.now in
    let n = c.in-Ok.n in
    let rest = drop written bytes in
    let long : length rest ≡ length bytes - written = length-drop written bytes in
    let whole : take (length bytes - written) rest ≡ rest = take_all (length bytes - written) rest (omega (arith, long)) in
    let more = Appends-trans _ _ _ (take written bytes) (take n (take (length bytes - written) rest)) c.loop-call.invariant.0 c.in-Ok.ensures.bytes in
    let within : n ≤ length rest = subst (λ xs. n ≤ length xs) whole c.in-Ok.ensures.bound in
    let before = c.loop-call.invariant.1 in
    (subst (Appends _ _) (ap (λ xs. take written bytes ++ take n xs) whole ∙ sym (take-add written n bytes)) more, omega (arith, within, long, before))
