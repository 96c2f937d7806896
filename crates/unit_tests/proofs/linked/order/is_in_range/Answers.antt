use Rattle.std.proofs.Common.{◌≡◌, ℕ, ◌<◌, ◌≤◌, List, [], length, take, ◌∙◌, subst}
use Rattle.std.specs.List.{All}
use Rattle.std.specs.Option.{option_to_list}
use Rattle.std.proofs.lemmas.Bool.{ltb-true}
use Rattle.std.proofs.lemmas.List.{take_all}
use Rattle.std.proofs.lemmas.List.Elements.{All-append, All-cons, All-nil, All-more}
use Rattle.program_index.specs.declared.parents.Parents.{Parents}
use Rattle.program_index.specs.Supertypes.{direct_of}
use Rattle.unit_tests.proofs.linked.order.is_in_range.Goals as goal

all_direct : (count i : ℕ) (p : Parents) (xs : List ℕ) → xs ≡ p.interfaces.items → length xs ≤ i → All (λ (y : ℕ). y < count) (take i xs)
    → All (λ (y : ℕ). y < count) (option_to_list p.super_class) → All (λ (y : ℕ). y < count) (direct_of p)
all_direct count i p xs same l interfaces super =
    All-append (λ (y : ℕ). y < count) p.interfaces.items (option_to_list p.super_class)
    (subst (λ (ys : List ℕ). All (λ (y : ℕ). y < count) ys) (take_all i xs l ∙ same) interfaces) super

pub returns-in-Some : goal.returns-in-Some
returns-in-Some c = λ h.
    all_direct c.args.count c.loop-interface.interface-index c.args.parents.now c.deref-interface-items.result.now c.deref-interface-items.ensures.value c.loop-interface-test.false
    c.loop-interface.invariant
    (rw c.in-Some.is (All-cons (λ (y : ℕ). y < c.args.count) c.in-Some.class [] (ltb-true c.in-Some.class c.args.count h) (All-nil (λ (y : ℕ). y < c.args.count))))

pub returns-in-None : goal.returns-in-None
returns-in-None c = λ h.
    all_direct c.args.count c.loop-interface.interface-index c.args.parents.now c.deref-interface-items.result.now c.deref-interface-items.ensures.value c.loop-interface-test.false
    c.loop-interface.invariant (rw c.in-None.is (All-nil (λ (y : ℕ). y < c.args.count)))

pub loop-interface-preserved : goal.loop-interface-preserved
loop-interface-preserved c =
    All-more (λ (y : ℕ). y < c.args.count) c.deref-interface-items.result.now c.loop-interface.interface-index 0 c.loop-interface-test.true c.loop-interface.invariant
    c.if-interface-count.false
