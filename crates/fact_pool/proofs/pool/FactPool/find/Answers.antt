use Rattle.fact_pool.proofs.pool.FactPool.find.Goals as goal

pub returns : goal.returns
returns c = rw (← c.self.view_is, ← c.deref.ensures.value, ← c.deref-2.ensures.value) c.find.ensures
