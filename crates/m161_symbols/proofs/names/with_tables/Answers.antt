use Rattle.m161_symbols.proofs.names.with_tables.Goals as goal

pub invariant_of-result : goal.invariant_of-result
invariant_of-result c = (
  rw c.deref.ensures.value at c.in-Ok.ensures,
  rw c.deref-2.ensures.value at c.in-Ok-values_by_name.ensures,
)
