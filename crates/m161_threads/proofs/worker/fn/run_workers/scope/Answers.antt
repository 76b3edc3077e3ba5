use Rattle.std.proofs.Common.{rules, ◌∙◌, subst, ◌<◌, length, get_or, arith}
use Rattle.std.specs.Prelude.{vec_len}
use Rattle.m161_threads.proofs.Working.{with_some}
use Rattle.m161_threads.specs.declared.worker.Task.{Task}
use Rattle.m161_threads.specs.helpers.Work.{KeepsTask}
use Rattle.m161_threads.proofs.worker.fn.run_workers.scope.Goals as goal

pub returns : goal.returns
returns g c =
    record {
      err = search rules;
      all = (
        c.in_ok-all.ensures.len ∙ c.in_ok-handles.ensures.len,
        λ k d e inside.
            let ok = c.in_ok-handles.handles.ok.0 in
            let started : k < vec_len c.in_ok-handles.handles = omega (arith, inside, c.in_ok-handles.ensures.len) in
            let there : k < length c.in_ok-handles.handles.items = omega (arith, started, ok) in
            with_some c.in_ok-handles.handles.items k there (λ x.
            subst (λ (t : Task). KeepsTask t (get_or c.in_ok-all.all.items k d).seat (get_or c.in_ok-all.all.items k d).made (get_or c.in_ok-all.all.items k d).stop)
            (c.in_ok-handles.ensures.each k x e inside) (c.in_ok-all.ensures.each k d x started)),
      );
    }
