use Rattle.std.proofs.Common.{◌+◌, ◌<◌, false, [], ◌∷◌, ℕ, List, refl, sym, ◌∙◌, ap, arith}
use Rattle.std.specs.List.{list_any, range_with_len}
use Rattle.std.proofs.lemmas.Bool.{or_from}
use Rattle.std.proofs.lemmas.List.Folds.{list_any-append}
use Rattle.stage_transfer_laws.proofs.Members.{any_passes, in_range}
use Rattle.stage_flow.specs.Stores.{all_slots, is_free}
use Rattle.stage_flow.proofs.StoredPaths.{range_more}
use Rattle.stage_flow.proofs.store.FieldStore.has_free.Goals as goal

pub returns-then-is_free : goal.returns-then-is_free
returns-then-is_free g c w l n knows =
    let k = c.loop-slot.slot in
    let end = c.slots-slot-end.ensures w l n knows in
    let inside : k < l.slots + l.stack = omega (arith, end, c.loop-slot-test.true) in
    sym (any_passes (is_free w l n c.args.self.now) (all_slots l) k (in_range 0 (l.slots + l.stack) k (omega arith) (omega (arith, inside)))
    (sym (c.is_free.ensures w l n knows) ∙ c.if-is_free.true))

pub loop-slot-preserved : goal.loop-slot-preserved
loop-slot-preserved g c w l n knows =
    let k = c.loop-slot.slot in
    let test = is_free w l n c.args.self.now in
    ap (λ (xs : List ℕ). list_any test xs) (range_more k)
    ∙ list_any-append test (range_with_len 0 k) (k ∷ [])
    ∙ or_from (list_any test (range_with_len 0 k)) (list_any test (k ∷ [])) (c.loop-slot.invariant w l n knows)
    (or_from (test k) false (sym (c.is_free.ensures w l n knows) ∙ c.if-is_free.false) refl)
