use Rattle.std.proofs.Common.{◌≡◌, ℕ, ◌<◌, Bool, true, false, length, arith, nat_eq}
use Rattle.std.proofs.lemmas.Bool.Decides.{nat_tests}
use Rattle.stage_slots.proofs.Knowing.{empty_lone, none_lone, some_lone}
use Rattle.stage_slots.proofs.slots_at.SlotsAtNodeSlots.refers_to_no_other.Goals as goal

pub returns-then-is_empty : goal.returns-then-is_empty
returns-then-is_empty c = λ w l n is.
    let none = no_items (length c.sites_at.result.now) c.is_empty.result c.is_empty.ensures c.if-is_empty.true in
    empty_lone c.self.view_is c.self.invariant.0 w l n is c.args.slot c.sites_at.result.now c.is_empty.result (λ h of. c.sites_at.ensures.sites h (c.in-Some.ensures.found h of)) none c.if-is_empty.true
  where
    no_items : (n : ℕ) (t : Bool) → t ≡ nat_eq n 0 → t ≡ true → n ≡ 0
    no_items n t is e = grind (arith, nat_tests, is, e)

pub returns-else-is_empty : goal.returns-else-is_empty
returns-else-is_empty c = λ w l n is.
    let some = some_items (length c.sites_at.result.now) c.is_empty.result c.is_empty.ensures c.if-is_empty.false in
    some_lone c.self.view_is c.self.invariant.0 w l n is c.args.slot c.sites_at.result.now c.holds_alone.result (λ h of. c.sites_at.ensures.sites h (c.in-Some.ensures.found h of))
    c.sites_at.ensures.within some (λ h s of at. c.holds_alone.ensures h s (c.in-Some.ensures.found h of) at)
  where
    some_items : (n : ℕ) (t : Bool) → t ≡ nat_eq n 0 → t ≡ false → 0 < n
    some_items n t is e = grind (arith, nat_tests, is, e)

pub returns-in-None : goal.returns-in-None
returns-in-None c = λ w l n is. none_lone c.self.view_is c.self.invariant.0 w l n is c.args.slot c.in-None.ensures.none
