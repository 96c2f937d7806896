-- What the nodes of a method add, one after another.
use Rattle.std.proofs.Common.{◌≡◌, ℕ, ◌+◌, ◌≤◌, List, length, Some, sym, ◌∙◌, subst, arith}
use Rattle.std.specs.List.{slice_get}
use Rattle.std.proofs.lemmas.Option.{slice_get_within, same_Some}
use Rattle.jvm_model.specs.Programs.{Program}
use Rattle.op_model.specs.declared.lowered.LoweredMethod.{LoweredMethod}
use Rattle.op_model.specs.declared.node.Node.{Node}
use Rattle.points_to_constraints.specs.Items.{Item as RuleItem}
use Rattle.points_to_constraints.specs.ItemRules.{MethodItem}
use Rattle.points_to_constraints.specs.NodeItems.{NodeItem}
use Rattle.points_to_methods.specs.NodeCalls.{AddsCallsBelow, AddsNode}
use Rattle.points_to_numbers.specs.declared.item.Item.{Item}
use Rattle.points_to_numbers.specs.Numbered.{Grows, Numbered}
use Rattle.points_to_numbers.specs.Steps.{Adds}
use Rattle.points_to_numbers.proofs.Adding.{OfOneBelow, adds_below_next, adds_below_start, adds_same}
use Rattle.points_to_numbers.proofs.Growing.{grows_on, grows_same}
use Rattle.slot_names.specs.NodePlaces.{AreInOrder}
use Rattle.slot_names.proofs.ListPlaces.{contains_at, place_in}
use Rattle.points_to_methods.proofs.NumberedCalls.{more_calls, no_calls}

-- what the node at a place leads to
abbrev pub ItemOfPlace : Program → LoweredMethod → ℕ → RuleItem → Type 0
ItemOfPlace p l place x = (n : Node) × (slice_get l.nodes place ≡ Some n) × NodeItem p l.method l n x

-- how far the nodes have been taken
pub record NodesTaken (p : Program) (l : LoweredMethod) (limit : ℕ) (old new : Numbered) (before after : List Item) : Type 0 where
  pub grows : Grows old new
  pub calls : AddsCallsBelow l limit old.calls new.calls
  pub adds : Adds new (OfOneBelow (ItemOfPlace p l) limit) before after

-- no node yet
pub taken_start : (p : Program) (l : LoweredMethod) (tables : Numbered) (items : List Item) → NodesTaken p l 0 tables tables items items
taken_start p l tables items = record { grows = grows_same tables; calls = no_calls l tables.calls; adds = adds_below_start (ItemOfPlace p l) tables items }

-- the node at the next place
pub taken_next : (p : Program) (l : LoweredMethod) → AreInOrder l → (k : ℕ) (n : Node) → slice_get l.nodes k ≡ Some n → (a b c : Numbered) (xs ys zs : List Item)
    → NodesTaken p l k a b xs ys → AddsNode l n b c (NodeItem p l.method l n) ys zs → NodesTaken p l (k + 1) a c xs zs
taken_next p l order k n at a b c xs ys zs first second = record {
  grows = grows_on a b c first.grows second.grows;
  calls = more_calls l order k n at a.calls b.calls c.calls second.grows.calls first.calls second.calls;
  adds = adds_below_next (ItemOfPlace p l) b c k xs ys zs first.adds second.grows
      (adds_same c (NodeItem p l.method l n) (ItemOfPlace p l k) ys zs
      (λ x. (
        (λ h. (n, at, h)),
        (λ (m, there, h). subst (λ (node : Node). NodeItem p l.method l node x) (same_Some m n (sym there ∙ at)) h),
      ))
      second.adds);
}

-- all of them
pub taken_all : (p : Program) (l : LoweredMethod) (limit : ℕ) (a b : Numbered) (xs ys : List Item) → length l.nodes ≤ limit → NodesTaken p l limit a b xs ys → Adds b (MethodItem p l) xs ys
taken_all p l limit a b xs ys past taken =
    adds_same b (OfOneBelow (ItemOfPlace p l) limit) (MethodItem p l) xs ys
    (λ x. (
      (λ (k, below, (n, at, h)). (n, contains_at l.nodes k n at, h)),
      (λ (n, there, h). let (k, at) = place_in l.nodes n there in let within = slice_get_within l.nodes k n at in (k, omega (arith, within, past), (n, at, h))),
    ))
    taken.adds
