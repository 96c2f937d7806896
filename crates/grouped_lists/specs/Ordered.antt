-- Public contracts rest on this module.
-- Lists by number, each put into order.
use Rattle.std.specs.Prelude.{◌≡◌, ◌↔◌, ℕ, Bool, true, List, Contains}
use Rattle.std.specs.declared.alloc.Global.{Global}
use Rattle.std.specs.declared.cmp.Ordering.{Ordering}
use Rattle.std.specs.declared.vec.Vec.{Vec}
use Rattle.std.specs.List.Sorted.{IsStrictlySortedBy}
use Rattle.grouped_lists.specs.Groups.{values_at}

-- The new list ascends, so that no value stands twice; and it has the values of the old one, where `==` tells values apart.
pub record IsOrdered {V : Type 0} (eq : V → V → Bool) (cmp : V → V → Ordering) (old new : List V) : Type 0 where
  pub ascend : IsStrictlySortedBy cmp new
  pub same : ((a b : V) → eq a b ≡ true → a ≡ b) → (x : V) → Contains new x ↔ Contains old x

-- So are the values of each number.
pub record AreOrdered {V : Type 0} (eq : V → V → Bool) (cmp : V → V → Ordering) (old new : List (Vec V Global)) : Type 0 where
  pub each : (number : ℕ) → IsOrdered eq cmp (values_at old number) (values_at new number)
