use Rattle.std.proofs.Common.{◌≡◌, ℕ, ◌<◌, List, [], length, take, get_or, sym, ◌∙◌, ap, subst}
use Rattle.std.specs.List.{Contains}
use Rattle.std.proofs.lemmas.Option.{slice_get-get_or}
use Rattle.std.proofs.lemmas.List.{take_more, take_all}
use Rattle.std.proofs.lemmas.List.Elements.{Contains-get_or}
use Rattle.program_index.specs.declared.parents.Parents.{Parents}
use Rattle.program_index.specs.Supertypes.{IsDirect}
use Rattle.program_index.specs.ClassSets.{Classes}
use Rattle.program_index.proofs.UpwardSteps.{direct_below}
use Rattle.program_index.proofs.Gathering.{IsGatheringAll, gathering_none, gathering_next, searched_all, interface_direct, listed_from}
use Rattle.program_index.proofs.above.gather_all.Goals as goal

-- the interface that is read is one of the class
interface_read : (g : List Parents) (class i : ℕ) (d : Parents) (xs : List ℕ) → class < length g → xs ≡ (get_or g class d).interfaces.items → i < length xs
    → IsDirect g class (get_or xs i 0)
interface_read g class i d xs l same li =
    interface_direct g class (get_or xs i 0) (get_or g class d) (slice_get-get_or g class d l)
    (subst (λ (ys : List ℕ). Contains ys (get_or xs i 0)) same (Contains-get_or xs i 0 li))

pub loop-interface-init : goal.loop-interface-init
loop-interface-init c =
    gathering_none c.args.parents.now (length c.args.parents.now) c.clear.new.self
    (c.clear.ensures ∙ ap (λ (n : ℕ). let s : Classes = record { size = n; items = [] } in s) c.requires.size)

pub gather-requires-clause-first : goal.gather-requires-clause-first
gather-requires-clause-first c =
    let i = c.loop-interface.interface-index in
    let xs = c.deref-interface-items.result.now in
    direct_below c.args.parents.now c.args.class (get_or xs i 0) c.requires.in_range
    (interface_read c.args.parents.now c.args.class i c.index-parents-class.result xs c.requires.class c.deref-interface-items.ensures.value c.loop-interface-test.true)

pub gather-requires-clause-listed : goal.gather-requires-clause-listed
gather-requires-clause-listed c =
    let i = c.loop-interface.interface-index in
    let xs = c.deref-interface-items.result.now in
    listed_from c.args.parents.now c.args.lists.now c.args.class (get_or xs i 0) c.requires.listed
    (interface_read c.args.parents.now c.args.class i c.index-parents-class.result xs c.requires.class c.deref-interface-items.ensures.value c.loop-interface-test.true)

pub loop-interface-preserved : goal.loop-interface-preserved
loop-interface-preserved c =
    let g = c.args.parents.now in
    let i = c.loop-interface.interface-index in
    let xs = c.deref-interface-items.result.now in
    subst (λ (ys : List ℕ). IsGatheringAll g ys (length g) c.gather.new.gathered) (sym (take_more xs i 0 c.loop-interface-test.true))
    (gathering_next g (take i xs) (length g) c.loop-interface.gathered c.gather.new.gathered (get_or xs i 0) c.loop-interface.invariant c.in_ok-gather.ensures)

pub returns-clause-searched : goal.returns-clause-searched
returns-clause-searched c =
    let g = c.args.parents.now in
    let p = get_or g c.args.class c.index-parents-class.result in
    let whole = take_all c.loop-interface.interface-index c.deref-interface-items.result.now c.loop-interface-test.false ∙ c.deref-interface-items.ensures.value in
    searched_all g c.args.class (length g) p c.loop-interface.gathered (slice_get-get_or g c.args.class c.index-parents-class.result c.requires.class)
    (subst (λ (ys : List ℕ). IsGatheringAll g ys (length g) c.loop-interface.gathered) whole c.loop-interface.invariant)
