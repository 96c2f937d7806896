-- Public contracts rest on this module.
-- The order in which the places of a class file stand: by offset, and at one offset by reason.
use Rattle.std.specs.Prelude.{◌≡◌, ℕ, ◌<◌, true, List, AllPairs}
use Rattle.std.specs.declared.cmp.Ordering.{Ordering}
use Rattle.std.specs.Ordering.{is_le}
use Rattle.jvm_model.specs.declared.reason.Reason.{Reason}
use Rattle.jvm_model.specs.Soundness.{PlacedUse, reason_of}

-- The place has a greater offset, or this one and a reason that is not lower in an order of the reasons.
pub data IsNotBefore (order : Reason → Reason → Ordering) (offset : ℕ) (reason : Reason) (p : PlacedUse) : Type 0 where
  by_offset : offset < p.offset → IsNotBefore order offset reason p
  by_reason : offset ≡ p.offset → is_le (order reason (reason_of p.use_)) ≡ true → IsNotBefore order offset reason p

-- Each place is not before any that stands before it in the list.
abbrev pub AreAscending : (Reason → Reason → Ordering) → List PlacedUse → Type 0
AreAscending order places = AllPairs (λ (p q : PlacedUse). IsNotBefore order p.offset (reason_of p.use_) q) places
