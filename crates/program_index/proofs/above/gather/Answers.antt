use Rattle.std.proofs.Common.{◌≡◌, ℕ, ◌<◌, List, length, get_or, Option, Some, Vec, refl, sym, ◌∙◌, ap, subst}
use Rattle.std.specs.declared.alloc.Global.{Global}
use Rattle.std.specs.List.{All}
use Rattle.std.proofs.lemmas.Option.{slice_get_within, slice_get_read, slice_get-get_or, same_Some}
use Rattle.program_index.specs.declared.parents.Parents.{Parents}
use Rattle.program_index.specs.Supertypes.{AreInRange, at}
use Rattle.program_index.specs.ClassSets.{Classes, with_class, with_classes}
use Rattle.program_index.specs.AboveLists.{IsListed}
use Rattle.program_index.proofs.Gathering.{IsGathering, places_left, places_fall, gathering_more, gathering_end, listed_in_range}
use Rattle.program_index.proofs.above.gather.Goals as goal

-- the class that is next, with its list
next_below : (g : List Parents) (lists : List (Vec ℕ Global)) (first x : ℕ) (before now : Classes) (o : Option ℕ) → IsGathering g lists first before now o → o ≡ Some x → x < length g
next_below g lists first x before now o old is = old.below x is

next_listed : (g : List Parents) (lists : List (Vec ℕ Global)) (first x : ℕ) (before now : Classes) (o : Option ℕ) → IsGathering g lists first before now o → o ≡ Some x → IsListed g lists x
next_listed g lists first x before now o old is = (old.listed x is).listed x (at refl)

pub bounds-lists-class : goal.bounds-lists-class
bounds-lists-class c =
    let own = next_listed c.args.parents.now c.args.lists.now c.args.first c.in-Some.class c.args.gathered.now c.loop-next.gathered c.loop-next.next c.loop-next.invariant c.in-Some.is in
    slice_get_within c.args.lists.now c.in-Some.class own.list own.stands

-- the classes of its list are in range
next_in_range : (g : List Parents) (lists : List (Vec ℕ Global)) (first x size : ℕ) (before now : Classes) (o : Option ℕ) (list : Vec ℕ Global) → AreInRange g
    → IsGathering g lists first before now o → o ≡ Some x → list ≡ get_or lists x list → size ≡ length g → All (λ (y : ℕ). y < size) list.items
next_in_range g lists first x size before now o list range old is read count =
    let own = next_listed g lists first x before now o old is in
    let place = slice_get_read lists (length lists) x list refl (slice_get_within lists x own.list own.stands) read in
    let same : own.list ≡ list = same_Some own.list list (sym own.stands ∙ place) in
    subst (λ (n : ℕ). All (λ (y : ℕ). y < n) list.items) (sym count)
    (subst (λ (v : Vec ℕ Global). All (λ (y : ℕ). y < length g) v.items) same (listed_in_range g x own.list.items range own.searched))

pub add_all-requires : goal.add_all-requires
add_all-requires c =
    let old = c.loop-next.invariant in
    let size : c.add.new.self.size ≡ length c.args.parents.now =
    ap (λ (s : Classes). s.size) c.in_ok-add.ensures.ok ∙ ap (λ (s : Classes). s.size) old.is ∙ c.requires.size in
    rw c.deref.ensures.value
    (next_in_range c.args.parents.now c.args.lists.now c.args.first c.in-Some.class c.add.new.self.size c.args.gathered.now c.loop-next.gathered c.loop-next.next
    c.index-lists-class.result c.requires.in_range old c.in-Some.is c.index-lists-class.is size)

pub loop-next-smaller : goal.loop-next-smaller
loop-next-smaller c =
    let g = c.args.parents.now in
    let x = c.in-Some.class in
    let below = next_below g c.args.lists.now c.args.first x c.args.gathered.now c.loop-next.gathered c.loop-next.next c.loop-next.invariant c.in-Some.is in
    let p = get_or g x c.index-parents-class.result in
    subst (λ (o : Option ℕ). places_left c.args.order.now p.super_class < places_left c.args.order.now o) (sym c.in-Some.is)
    (places_fall g c.args.order.now x p p.super_class c.requires.upward (slice_get-get_or g x c.index-parents-class.result below) refl)

-- the class and its list are added
both_added : (now between new : Classes) (x : ℕ) (list xs : List ℕ) → between ≡ record { size = now.size; items = with_class now.items x }
    → new ≡ record { size = between.size; items = with_classes between.items xs } → xs ≡ list
    → new ≡ record { size = now.size; items = with_classes (with_class now.items x) list }
both_added now between new x list xs first second same = rw (second, first, same) refl

pub loop-next-preserved : goal.loop-next-preserved
loop-next-preserved c =
    let g = c.args.parents.now in
    let lists = c.args.lists.now in
    let x = c.in-Some.class in
    let now = c.loop-next.gathered in
    let list = c.index-lists-class.result in
    let below = next_below g lists c.args.first x c.args.gathered.now now c.loop-next.next c.loop-next.invariant c.in-Some.is in
    let own = next_listed g lists c.args.first x c.args.gathered.now now c.loop-next.next c.loop-next.invariant c.in-Some.is in
    let place = slice_get_read lists (length lists) x list refl (slice_get_within lists x own.list own.stands) c.index-lists-class.is in
    gathering_more g lists c.args.first x c.args.gathered.now now c.add_all.new.self (get_or g x c.index-parents-class.result) list c.requires.in_range
    (subst (λ (o : Option ℕ). IsGathering g lists c.args.first c.args.gathered.now now o) c.in-Some.is c.loop-next.invariant)
    (slice_get-get_or g x c.index-parents-class.result below) place
    (both_added now c.add.new.self c.add_all.new.self x list.items c.deref.result.now c.in_ok-add.ensures.ok c.in_ok-add_all.ensures.ok c.deref.ensures.value)

pub returns : goal.returns
returns c =
    gathering_end c.args.parents.now c.args.lists.now c.args.first c.args.gathered.now c.loop-next.gathered
    (subst (λ (o : Option ℕ). IsGathering c.args.parents.now c.args.lists.now c.args.first c.args.gathered.now c.loop-next.gathered o) c.in_default.is c.loop-next.invariant)
