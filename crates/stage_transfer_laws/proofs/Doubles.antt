-- Slots that hold what others of their variable held.
use Rattle.std.proofs.Common.{◌≡◌, ℕ, Bool, false, not, [], ◌∷◌, subst}
use Rattle.std.specs.List.{Contains, filter}
use Rattle.std.proofs.lemmas.Bool.{not-true}
use Rattle.list_laws.proofs.Members.{contained_in_map, contains_none, contains_only}
use Rattle.op_model.specs.declared.lowered.LoweredMethod.{LoweredMethod}
use Rattle.op_model.specs.declared.node.Node.{Node}
use Rattle.access_paths.specs.declared.root.Root.{Root}
use Rattle.access_paths.specs.declared.root.Root.TheVariants.{Slot, Static, Returned, Thrown}
use Rattle.stage_transfer.specs.Settings.{Setting, alike, among}
use Rattle.stage_transfer.specs.Changes.{moved_to, unwritten}
use Rattle.stage_relations.specs.Roots.{Doubles, shared, HasVariables}
use Rattle.stage_transfer_laws.proofs.Members.{is_among, of_filter}
use Rattle.stage_transfer_laws.proofs.Alike.{Knows, alike_back, are_alike}

module _ (w : Setting) (knows : Knows w) (l : LoweredMethod) (n : Node) (has : HasVariables l n) where
  -- The value of a slot that is unwritten stands there still.
  pub unwritten_double : (written : ℕ → Bool) (Goes : Root → Root → Type 0)
      → ((z : ℕ) → written z ≡ false → Goes (Slot z) (Slot z)) → (r q : Root) → Contains (unwritten w l n written r) q → Doubles l n Goes r q
  unwritten_double written Goes stays (Slot z) q there =
      let found = contained_in_map Slot (filter (λ (y : ℕ). not (written y)) (alike w l n z)) q there in
      let kept = of_filter (λ (y : ℕ). not (written y)) (alike w l n z) found.0 found.1 in
      subst (λ (p : Root). Doubles l n Goes (Slot z) p) found.2
      (shared {y = found.0} {z = z} {q = Slot found.0} (alike_back l n found.0 z (are_alike w knows l n z found.0 has kept.0))
      (stays found.0 (not-true (written found.0) kept.1)))
  unwritten_double written Goes stays (Static f) q there = absurd (contains_none q there)
  unwritten_double written Goes stays Returned q there = absurd (contains_none q there)
  unwritten_double written Goes stays Thrown q there = absurd (contains_none q there)

  -- So does that of a slot that was moved.
  pub moved_double : (from : ℕ) (to : Root) (Goes : Root → Root → Type 0)
      → Goes (Slot from) to → (r q : Root) → Contains (moved_to w l n from to r) q → Doubles l n Goes r q
  moved_double from to Goes goes (Slot z) q there =
      let found = of_filter (λ (r : Root). among (alike w l n z) from) (to ∷ []) q there in
      subst (λ (p : Root). Doubles l n Goes (Slot z) p) (contains_only to q found.0)
      (shared {y = from} {z = z} {q = to} (alike_back l n from z (are_alike w knows l n z from has (is_among (alike w l n z) from found.1))) goes)
  moved_double from to Goes goes (Static f) q there = absurd (contains_none q there)
  moved_double from to Goes goes Returned q there = absurd (contains_none q there)
  moved_double from to Goes goes Thrown q there = absurd (contains_none q there)
