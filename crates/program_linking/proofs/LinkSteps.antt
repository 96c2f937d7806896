-- From the checks and the program that is put together to what linking gives.
use Rattle.std.proofs.Common.{◌≡◌, ◌+◌, ◌<◌, List, [], ◌∷◌, ◌++◌, length, map, All, Contains, IfOk, IfErr, MatchResult, Ok, Err, Result, refl, sym, ap, subst, arith}
use Rattle.std.specs.List.Sorted.{IsSorted}
use Rattle.std.specs.declared.cmp.Ordering.{Ordering}
use Rattle.std.proofs.lemmas.List.{get_or-map, length-map}
use Rattle.std.proofs.lemmas.List.Elements.{All-append, Contains-append_right}
use Rattle.std.proofs.lemmas.List.Sorted.{Contains-permutation, IsPermutation-append_left, IsPermutation-map, IsPermutation-sym, IsPermutation-trans, length_permutation}
use Rattle.jvm_model.specs.declared.program.NamedClass.{NamedClass}
use Rattle.jvm_model.specs.declared.program.Origin.{Origin}
use Rattle.jvm_model.specs.declared.stub.StubClass.{StubClass}
use Rattle.jvm_model.specs.LinkedPrograms.{HasStubClasses}
use Rattle.jvm_model.specs.Linking.{AreMet, barred, Claim, class_from, cycle_claim, folder_origin, IsFileOrder, IsOrder, kind_claims, linked, name_claims, origins, own_classes, program_from, stub_origin, there_claims}
use Rattle.jvm_model.specs.Programs.{Program}
use Rattle.jvm_model.specs.Stubs.{class_of_stub}
use Rattle.failure.specs.Widening.{IsWidened}
use Rattle.program_index.specs.declared.index_failure.TooMany.{TooMany as TooManyItems}
use Rattle.failure.specs.declared.Failure.{Failure}
use Rattle.program_model.specs.declared.link_failure.LinkFault.{LinkFault}
use Rattle.failure.specs.declared.Failure.TheVariants.{Cause, OutOfMemory}
use Rattle.program_model.specs.declared.link_failure.LinkFault.TheVariants.{Refused, TooMany}
use Rattle.program_model.specs.Assembling.{Assembles}
use Rattle.program_model.specs.Whole.{IsLinkable}
use Rattle.program_model.proofs.Assembled.{all_from}
use Rattle.program_model.proofs.Bridges.{map_to}
use Rattle.program_linking.specs.Claims.{TellsEndOrLarge, unsorted}
use Rattle.program_linking.specs.LinkAnswers.{flat_claims, IsLinkAnswer, IsAnswerInOrder}
use Rattle.program_linking.specs.TooLarge.{IsTooLargeInput, in_classes, in_file, in_patches, in_program, in_stub, TellsTooMany}
use Rattle.program_linking.proofs.ClaimSteps.{met_append, met_back, met_front, unmet_back, unmet_front}
use Rattle.program_linking.proofs.FlatClaims.{kind_flat, names_flat, there_flat}
use Rattle.program_linking.proofs.KnownClasses.{all_met_same, end_same, IsFlatClaim}
use Rattle.program_linking.proofs.LargeInputs.{names_count}
use Rattle.program_linking.proofs.Linkables.{linkable}
use Rattle.program_linking.proofs.OrderedPrograms.{ordered_same}
use Rattle.program_laws.proofs.ClassOrders.{exists_order, in_order}

-- A list in the order of what a function gives of its elements is mapped to a list in order.
pub IsSorted-map : {X Y : Type 0} (f : X → Y) (cmp : Y → Y → Ordering) (xs : List X) → IsSorted (λ a b. cmp (f a) (f b)) xs → IsSorted cmp (map f xs)
IsSorted-map f cmp [] sorted k d low high = absurd (omega arith)
IsSorted-map f cmp (x ∷ xs) sorted k d low high =
    let within : k + 1 < length (x ∷ xs) = omega (arith, length-map (x ∷ xs) f) in
    rw (get_or-map f (x ∷ xs) (k + 1) x d within, get_or-map f (x ∷ xs) k x d (omega arith)) (sorted k x low within)

-- What is too large in the order of the files is so in each order.
large_in_order : (files ordered : List NamedClass) (stubs : List StubClass) → IsFileOrder files ordered → IsTooLargeInput ordered stubs → IsTooLargeInput files stubs
large_in_order files ordered stubs is (in_classes many) =
    let long = length_permutation files ordered is.same in
    in_classes (omega (arith, names_count files stubs, names_count ordered stubs, long, many))
large_in_order files ordered stubs is (in_patches many) = in_patches many
large_in_order files ordered stubs is (in_stub c among many) = in_stub c among many
large_in_order files ordered stubs is (in_file f among many) = in_file f (Contains-permutation ordered files f (IsPermutation-sym files ordered is.same) among) many
large_in_order files ordered stubs is (in_program order in_order' large) =
    let own = map (stub_origin stubs) (own_classes stubs) in
    let moved = IsPermutation-append_left own (map (folder_origin stubs) files) (map (folder_origin stubs) ordered) (IsPermutation-map (folder_origin stubs) files ordered is.same) in
    in_program order (record { same = IsPermutation-trans (origins files stubs) (origins ordered stubs) order moved in_order'.same; sorted = in_order'.sorted }) large

-- What is told of class files in the order of their files is told of them in each order.
pub told_in_order : (files ordered : List NamedClass) (stubs : List StubClass) → IsFileOrder files ordered → (r : Result Program (Failure LinkFault)) → IsAnswerInOrder ordered stubs r → IsLinkAnswer files stubs r
told_in_order files ordered stubs is (Ok p) told = record { ordered = ordered; by_file = is; links = told }
told_in_order files ordered stubs is (Err (Cause (Refused refusal))) told = record { ordered = ordered; by_file = is; links = told }
told_in_order files ordered stubs is (Err (Cause TooMany)) told = large_in_order files ordered stubs is told
told_in_order files ordered stubs is (Err OutOfMemory) told = tt

-- ---- the program, or the first demand that is not met

module _ (files : List NamedClass) (stubs : List StubClass) where
  abbrev ns : List Claim
  ns = name_claims files (own_classes stubs)

  abbrev ts : List Claim
  ts = there_claims files stubs

  abbrev ks : List Claim
  ks = kind_claims files (own_classes stubs)

  all_flat : All IsFlatClaim (flat_claims files stubs)
  all_flat = All-append IsFlatClaim (ns ++ ts) ks (All-append IsFlatClaim ns ts (names_flat files (own_classes stubs)) (there_flat files stubs)) (kind_flat files (own_classes stubs))

  -- a check that fails bars the program in each order
  pub link_barred : (end : Failure LinkFault) → TellsEndOrLarge (IsTooLargeInput files stubs) (unsorted files stubs) (flat_claims files stubs) end → IsAnswerInOrder files stubs (Err end)
  link_barred (Cause (Refused refusal)) told =
      let order = exists_order (origins files stubs) in
      let p = program_from order.0 in
      let here = end_same (IsTooLargeInput files stubs) (unsorted files stubs) p (flat_claims files stubs) (Cause (Refused refusal)) (ordered_same (origins files stubs) order.0 order.1) all_flat told in
      barred order.0 refusal order.1 (unmet_front p refusal (flat_claims files stubs) (map cycle_claim order.0) here) refl
  link_barred (Cause TooMany) told = told
  link_barred OutOfMemory told = tt

  -- and so does an index that is full
  pub index_barred : (e : Failure TooManyItems) (end : Failure LinkFault) → IsWidened (λ _ fault. fault ≡ TooMany) e end → TellsTooMany (IsTooLargeInput files stubs) e → IsAnswerInOrder files stubs (Err end)
  index_barred (Cause _) (Cause fault) is told = subst (λ (f : LinkFault). IsAnswerInOrder files stubs (Err (Cause f))) (sym is) told
  index_barred (Cause _) OutOfMemory is told = absurd is
  index_barred OutOfMemory (Cause _) is told = absurd is
  index_barred OutOfMemory OutOfMemory is told = tt

  pub handed_barred : {X : Type 0} (r : Result X (Failure TooManyItems)) (end : Failure LinkFault)
      → MatchResult r (λ x. ◌≡◌ {A = Result X (Failure LinkFault)} (Err end) (Ok x)) (λ e. IsWidened (λ _ fault. fault ≡ TooMany) e end) → IfErr r (TellsTooMany (IsTooLargeInput files stubs))
      → IsAnswerInOrder files stubs (Err end)
  handed_barred (Ok x) end cases told = absurd (cc cases)
  handed_barred (Err e) end cases told = index_barred e end cases told

  module _ (order : List Origin) (is : IsOrder (origins files stubs) order) (met : AreMet (unsorted files stubs) (flat_claims files stubs)) where
    abbrev p : Program
    p = program_from order

    flat_met : AreMet p (flat_claims files stubs)
    flat_met = all_met_same (unsorted files stubs) p (flat_claims files stubs) (ordered_same (origins files stubs) order is) all_flat met

    pub is_linkable : IsLinkable order
    is_linkable = linkable files stubs order is (met_back p ns ts (met_front p (ns ++ ts) ks flat_met)) (met_back p (ns ++ ts) ks flat_met) (met_front p ns ts (met_front p (ns ++ ts) ks flat_met))

    -- what putting the program together tells is what linking gives
    pub link_told : (r : Result Program (Failure LinkFault)) → Assembles order r → IsAnswerInOrder files stubs r
    link_told (Ok q) a = linked order is (met_append p (flat_claims files stubs) (map cycle_claim order) flat_met a.1) (ap Ok a.0)
    link_told (Err (Cause (Refused refusal))) a = barred order refusal is (unmet_back p refusal (flat_claims files stubs) (map cycle_claim order) flat_met a) refl
    link_told (Err (Cause TooMany)) a = in_program order is a
    link_told (Err OutOfMemory) a = tt

    -- each stub that is a class of its own is a class of the program
    has_stubs : HasStubClasses p stubs
    has_stubs = all_from (λ (c : StubClass). Contains p.classes (class_of_stub c)) (own_classes stubs) (λ c among.
        let own = map_to (stub_origin stubs) (own_classes stubs) c among in
        map_to class_from order (stub_origin stubs c)
        (in_order (origins files stubs) order is (stub_origin stubs c) (Contains-append_right (map (folder_origin stubs) files) (map (stub_origin stubs) (own_classes stubs)) (stub_origin stubs c) own)))

    pub stubs_told : (r : Result Program (Failure LinkFault)) → Assembles order r → IfOk r (λ (q : Program). HasStubClasses q stubs)
    stubs_told (Ok q) a = subst (λ (q : Program). HasStubClasses q stubs) (sym a.0) has_stubs
    stubs_told (Err end) a = tt
