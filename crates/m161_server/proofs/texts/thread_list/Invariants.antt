use Rattle.std.proofs.Common.{◌≡◌, ◌++◌, codes, string_bytes}
use Rattle.m161_server.specs.Texts.{thread_line, up_to}
use Rattle.m161_server.proofs.texts.thread_list.Given as goal

abbrev pub invariant-loop-p : goal.invariant-loop-p
invariant-loop-p g l =
    string_bytes l.text ≡ codes "<?xml version=\"1.0\"?>\n<threads>\n"
    ++ up_to (thread_line (g.T.Run.course l.target).scene (g.T.Run.place l.target)) l.p
