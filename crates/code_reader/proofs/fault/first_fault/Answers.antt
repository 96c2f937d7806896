use Rattle.std.proofs.Common.{◌≡◌, ℕ, ◌+◌, ◌<◌, ◌≤◌, add-one, List, ◌∷◌, length, drop, get_or, Option, Some, None, refl, sym, ap, ◌∙◌, subst}
use Rattle.std.proofs.Math.Seq.{drop-cons}
use Rattle.std.proofs.lemmas.List.{drop_all}
use Rattle.jvm_model.specs.declared.reason.Reason.{Reason}
use Rattle.code_reader.specs.Division.{Spot, fault_of, first_fault, first_or}
use Rattle.code_reader.proofs.fault.first_fault.Goals as goal

-- what is left begins with the item at the index
left_at : (xs : List Spot) (k : ℕ) (x : Spot) → k < length xs → x ≡ get_or xs k x → drop k xs ≡ x ∷ drop (k + 1) xs
left_at xs k x lt is = subst (λ (y : Spot). drop k xs ≡ y ∷ drop (k + 1) xs) (sym is) (rw add-one (drop-cons xs k x lt))

-- an instruction with which nothing is wrong is passed over, and else it is the first
passed : (test : Spot → Option Reason) (stop : Option (ℕ × Reason)) (xs : List Spot) (k : ℕ) (x : Spot) → k < length xs → x ≡ get_or xs k x → test x ≡ None
    → first_fault test stop (drop k xs) ≡ first_fault test stop (drop (k + 1) xs)
passed test stop xs k x lt is none =
    ap (λ (ys : List Spot). first_fault test stop ys) (left_at xs k x lt is) ∙ ap (λ (o : Option Reason). first_or x.offset o (first_fault test stop (drop (k + 1) xs))) none

found : (test : Spot → Option Reason) (stop : Option (ℕ × Reason)) (xs : List Spot) (k : ℕ) (x : Spot) (reason : Reason) → k < length xs → x ≡ get_or xs k x → test x ≡ Some reason
    → first_fault test stop (drop k xs) ≡ Some (x.offset, reason)
found test stop xs k x reason lt is some =
    ap (λ (ys : List Spot). first_fault test stop ys) (left_at xs k x lt is) ∙ ap (λ (o : Option Reason). first_or x.offset o (first_fault test stop (drop (k + 1) xs))) some

pub loop-spot-init : goal.loop-spot-init
loop-spot-init c = refl

pub loop-spot-preserved : goal.loop-spot-preserved
loop-spot-preserved c =
    let spots = c.args.division.now.spots.items in
    let k = c.loop-spot.spot-index in
    let spot = c.spot-item.result in
    let test = fault_of c.args.pool.now (record { limit = c.args.locals.limit; parameters = c.args.locals.parameters }) spots c.args.division.now.stop in
    let lt : k < length spots = subst (λ (xs : List Spot). k < length xs) c.deref-spot-items.ensures.value c.loop-spot-test.true in
    let is : spot ≡ get_or spots k spot = subst (λ (xs : List Spot). spot ≡ get_or xs k spot) c.deref-spot-items.ensures.value c.spot-item.is in
    c.loop-spot.invariant ∙ passed test c.args.division.now.stop spots k spot lt is (sym c.fault_of.ensures ∙ c.in_default.is)

pub returns : goal.returns
returns c =
    let spots = c.args.division.now.spots.items in
    let k = c.loop-spot.spot-index in
    let test = fault_of c.args.pool.now (record { limit = c.args.locals.limit; parameters = c.args.locals.parameters }) spots c.args.division.now.stop in
    let all : length spots ≤ k = subst (λ (xs : List Spot). length xs ≤ k) c.deref-spot-items.ensures.value c.loop-spot-test.false in
    sym (c.loop-spot.invariant ∙ ap (λ (xs : List Spot). first_fault test c.args.division.now.stop xs) (drop_all k spots all))

pub returns-in-Some : goal.returns-in-Some
returns-in-Some c =
    let spots = c.args.division.now.spots.items in
    let k = c.loop-spot.spot-index in
    let spot = c.spot-item.result in
    let test = fault_of c.args.pool.now (record { limit = c.args.locals.limit; parameters = c.args.locals.parameters }) spots c.args.division.now.stop in
    let lt : k < length spots = subst (λ (xs : List Spot). k < length xs) c.deref-spot-items.ensures.value c.loop-spot-test.true in
    let is : spot ≡ get_or spots k spot = subst (λ (xs : List Spot). spot ≡ get_or xs k spot) c.deref-spot-items.ensures.value c.spot-item.is in
    let there = found test c.args.division.now.stop spots k spot c.in-Some.reason lt is (sym c.fault_of.ensures ∙ c.in-Some.is) in
    ap (λ (s : Spot). Some (s.offset, c.in-Some.reason)) c.spot.view_is ∙ sym (c.loop-spot.invariant ∙ there)
