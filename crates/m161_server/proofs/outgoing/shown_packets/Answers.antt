use Rattle.std.proofs.Common.{◌≡◌, ◌∙◌, ◌++◌, ◌<◌, ap, sym, subst, arith, length}
use Rattle.m161_server.specs.Texts.{shown_packet, shown_packets}
use Rattle.m161_server.proofs.Pieces.{piece_step}
use Rattle.m161_server.proofs.outgoing.shown_packets.Goals as goal

pub loop-rest-preserved : goal.loop-rest-preserved
loop-rest-preserved c =
    let new = c.push_packet.new.out.items in
    let some : 0 < length c.loop-rest.rest.now = omega arith in
    subst (λ xs. new ++ shown_packets xs ≡ shown_packets c.args.text.now) (sym c.split.ensures.rest)
    (piece_step c.loop-rest.out.items new c.loop-rest.rest.now (shown_packets c.args.text.now) c.loop-rest.invariant some
    (c.in_ok-push_packet.ensures ∙ ap (λ xs. c.loop-rest.out.items ++ shown_packet xs) c.split.ensures.piece))
