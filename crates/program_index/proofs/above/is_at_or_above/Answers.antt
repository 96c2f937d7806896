use Rattle.std.proofs.Common.{◌≡◌, ℕ, ◌<◌, List, length, get_or, Some, Vec, refl, sym, ◌∙◌, subst}
use Rattle.std.specs.declared.alloc.Global.{Global}
use Rattle.std.specs.List.{slice_get, Contains}
use Rattle.std.specs.List.Sorted.{IsNonDecreasing}
use Rattle.std.proofs.lemmas.Option.{slice_get_within, slice_get_read, same_Some, none-some}
use Rattle.std.proofs.lemmas.Bool.{false≢true}
use Rattle.program_index.specs.declared.parents.Parents.{Parents}
use Rattle.program_index.specs.AboveLists.{AreSortedAbove}
use Rattle.program_index.proofs.Reaching.{reaching_start, reaching_more, in_sorted, up_or_none}
use Rattle.program_index.proofs.above.is_at_or_above.Goals as goal

-- the copy that is read is that of the class
copy_read : (g : List Parents) (sorted : List (Vec ℕ Global)) (class : ℕ) (copy : Vec ℕ Global) → AreSortedAbove g sorted → class < length g → copy ≡ get_or sorted class copy
    → slice_get sorted class ≡ Some copy
copy_read g sorted class copy lists l is =
    slice_get_read sorted (length sorted) class copy refl (slice_get_within sorted class (lists.each class l).copy (lists.each class l).stands) is

ascending : (g : List Parents) (sorted : List (Vec ℕ Global)) (class : ℕ) (copy : Vec ℕ Global) → AreSortedAbove g sorted → class < length g → slice_get sorted class ≡ Some copy
    → IsNonDecreasing copy.items
ascending g sorted class copy lists l place =
    let own = lists.each class l in
    let same = same_Some own.copy copy (sym own.stands ∙ place) in
    subst (λ (v : Vec ℕ Global). IsNonDecreasing v.items) same own.ascending

pub loop-init : goal.loop-init
loop-init c = reaching_start c.args.parents.now c.args.lower c.args.upper c.requires.ordered c.requires.lower

pub bounds-sorted-class : goal.bounds-sorted-class
bounds-sorted-class c =
    let own = c.requires.lists.each c.loop.class c.loop.invariant.below in slice_get_within c.args.sorted.now c.loop.class own.copy own.stands

pub holds-requires : goal.holds-requires
holds-requires c =
    let place = copy_read c.args.parents.now c.args.sorted.now c.loop.class c.index-sorted-class.result c.requires.lists c.loop.invariant.below c.index-sorted-class.is in
    subst (λ (xs : List ℕ). IsNonDecreasing xs) (sym c.deref.ensures.value)
    (ascending c.args.parents.now c.args.sorted.now c.loop.class c.index-sorted-class.result c.requires.lists c.loop.invariant.below place)

pub returns-then-holds : goal.returns-then-holds
returns-then-holds c =
    let place = copy_read c.args.parents.now c.args.sorted.now c.loop.class c.index-sorted-class.result c.requires.lists c.loop.invariant.below c.index-sorted-class.is in
    let has = subst (λ (xs : List ℕ). Contains xs c.args.upper) c.deref.ensures.value (c.holds.ensures.0 c.if-holds.true) in (
      (λ h. c.loop.invariant.back (in_sorted c.args.parents.now c.args.sorted.now c.loop.class c.args.upper c.index-sorted-class.result c.requires.lists c.loop.invariant.below place has)),
      (λ a. refl),
    )

pub returns-in-None : goal.returns-in-None
returns-in-None c =
    let g = c.args.parents.now in
    let p = c.index-parents-class.result in
    let place = copy_read g c.args.sorted.now c.loop.class c.index-sorted-class.result c.requires.lists c.loop.invariant.below c.index-sorted-class.is in
    let stands = slice_get_read g (length g) c.loop.class p refl c.loop.invariant.below c.index-parents-class.is in (
      (λ h. absurd (false≢true h)),
      (λ a.
          let up = up_or_none g c.args.sorted.now c.loop.class c.args.upper p c.index-sorted-class.result c.requires.lists c.loop.invariant.below stands place c.if-class-upper.false
          (λ has. false≢true (sym c.if-holds.false ∙ c.holds.ensures.1 (subst (λ (xs : List ℕ). Contains xs c.args.upper) (sym c.deref.ensures.value) has)))
          (c.loop.invariant.onward a) in
          absurd (none-some up.0 (sym c.in-None.is ∙ up.1))),
    )

pub loop-preserved : goal.loop-preserved
loop-preserved c =
    let g = c.args.parents.now in
    let p = c.index-parents-class.result in
    let place = copy_read g c.args.sorted.now c.loop.class c.index-sorted-class.result c.requires.lists c.loop.invariant.below c.index-sorted-class.is in
    let stands = slice_get_read g (length g) c.loop.class p refl c.loop.invariant.below c.index-parents-class.is in
    reaching_more g c.args.sorted.now c.args.lower c.args.upper c.loop.class c.loop.index c.in-Some.above p c.index-sorted-class.result c.requires.in_range c.requires.lists
    c.loop.invariant stands place c.if-class-upper.false
    (λ has. false≢true (sym c.if-holds.false ∙ c.holds.ensures.1 (subst (λ (xs : List ℕ). Contains xs c.args.upper) (sym c.deref.ensures.value) has)))
    c.in-Some.is
