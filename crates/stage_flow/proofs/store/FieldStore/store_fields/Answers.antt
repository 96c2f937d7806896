use Rattle.std.proofs.Common.{ℕ, List, sym, subst}
use Rattle.access_paths.specs.Followed.{listed}
use Rattle.stage_flow.specs.Stores.{stored_at}
use Rattle.stage_flow.proofs.Gathered.{next_gathered, AreGathered}
use Rattle.stage_flow.proofs.StoredPaths.{range_more}
use Rattle.stage_flow.proofs.store.FieldStore.store_fields.Goals as goal

pub loop-slot-preserved : goal.loop-slot-preserved
loop-slot-preserved g c w l n knows =
    let f = stored_at w l n c.args.self.now (listed c.args.fields) in
    let k = c.loop-slot.slot in
    subst (λ (xs : List ℕ). AreGathered f xs c.args.all.now c.store_at.new.all) (sym (range_more k))
    (next_gathered f k c.args.all.now c.loop-slot.all c.store_at.new.all (c.loop-slot.invariant w l n knows) (c.store_at.ensures w l n knows))
