use Rattle.std.proofs.Common.{◌≡◌, ℕ, List, [], ◌∷◌, ◌++◌, Option, Some, sym, ap}
use Rattle.std.specs.Option.{option_to_list}
use Rattle.program_index.specs.ClassSets.{Classes, with_class, with_classes}
use Rattle.program_index.proofs.ClassLists.{with_classes-append}
use Rattle.program_index.proofs.order.add_direct.Goals as goal

-- the superinterfaces are added, and then the superclass
both_added : (old between new : Classes) (xs : List ℕ) (o : Option ℕ) (y : ℕ) → between ≡ record { size = old.size; items = with_classes old.items xs }
    → new ≡ record { size = between.size; items = with_class between.items y } → o ≡ Some y
    → new ≡ record { size = old.size; items = with_classes old.items (xs ++ option_to_list o) }
both_added old between new xs o y first second is =
    rw (second, first, is) (ap (λ (zs : List ℕ). let s : Classes = record { size = old.size; items = zs } in s) (sym (with_classes-append old.items xs (y ∷ []))))

pub returns-in_ok-add : goal.returns-in_ok-add
returns-in_ok-add c =
    both_added c.args.classes.now c.add_all.new.self c.add.new.self c.args.parents.now.interfaces.items c.args.parents.now.super_class c.in-Some.class
    (rw (← c.deref.ensures.value) c.in_ok-add_all.ensures.ok) c.in_ok-add.ensures.ok c.in-Some.is
