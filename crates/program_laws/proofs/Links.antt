-- Class files and stubs link to one program, or have one first demand that is not met.
use Rattle.std.proofs.Common.{◌≡◌, ◌≢◌, List, ◌++◌, map, Result, Ok, Err, sym, ap, ◌∙◌, subst, inl, inr, ◌⊎◌, append_assoc}
use Rattle.std.specs.List.{AllPairs}
use Rattle.jvm_model.specs.declared.program.NamedClass.{NamedClass}
use Rattle.jvm_model.specs.declared.program.Origin.{Origin}
use Rattle.jvm_model.specs.declared.reason.Refusal.{Refusal}
use Rattle.jvm_model.specs.declared.stub.StubClass.{StubClass}
use Rattle.jvm_model.specs.Programs.{Program}
use Rattle.jvm_model.specs.Linking.{Claim, IsFirstUnmet, AreMet, name_claims, there_claims, kind_claims, cycle_claim, claims, own_classes, origins, class_from, program_from, IsOrder, LinksInOrder, linked, barred, Links}
use Rattle.program_laws.proofs.FirstUnmet.{alike_itself, front_met, in_front, one_unmet, met_or_unmet}
use Rattle.program_laws.proofs.NameClaims.{names_alike, names_once}
use Rattle.program_laws.proofs.Orders.{once_in_pairs, one_order}

abbrev answer : Program → Result Program Refusal
answer p = Ok p

abbrev refused : Refusal → Result Program Refusal
refused r = Err r

-- ---- names first, and then all else

abbrev of_names : List NamedClass → List StubClass → List Claim
of_names files stubs = name_claims files (own_classes stubs)

abbrev of_others : List NamedClass → List StubClass → List Origin → List Claim
of_others files stubs order = there_claims files stubs ++ (kind_claims files (own_classes stubs) ++ map cycle_claim order)

in_parts : (files : List NamedClass) (stubs : List StubClass) (order : List Origin) → claims files stubs order ≡ of_names files stubs ++ of_others files stubs order
in_parts files stubs order =
    let names = of_names files stubs in
    let there = there_claims files stubs in
    let kinds = kind_claims files (own_classes stubs) in
    let cycles = map cycle_claim order in
    append_assoc (names ++ there) kinds cycles ∙ append_assoc names there (kinds ++ cycles)

names_met : (p : Program) (files : List NamedClass) (stubs : List StubClass) (order : List Origin) → AreMet p (claims files stubs order) → AreMet p (of_names files stubs)
names_met p files stubs order met =
    front_met p (of_names files stubs) (of_others files stubs order) (subst (λ (all : List Claim). AreMet p all) (in_parts files stubs order) met)

names_first : (p : Program) (r : Refusal) (files : List NamedClass) (stubs : List StubClass) (order : List Origin) → IsFirstUnmet p r (claims files stubs order)
    → IsFirstUnmet p r (of_names files stubs) ⊎ AreMet p (of_names files stubs)
names_first p r files stubs order unmet =
    in_front p r (of_names files stubs) (of_others files stubs order) (subst (λ (all : List Claim). IsFirstUnmet p r all) (in_parts files stubs order) unmet)

-- ---- class files in one order

-- where names differ, the classes have one order
same_order : (p : Program) (files : List NamedClass) (stubs : List StubClass) (a b : List Origin) → AreMet p (of_names files stubs)
    → IsOrder (origins files stubs) a → IsOrder (origins files stubs) b → a ≡ b
same_order p files stubs a b met x y =
    one_order (λ (o : Origin). (class_from o).name) (origins files stubs) a b (names_once p files stubs met) x.same y.same x.sorted y.sorted

met_and_unmet : (files : List NamedClass) (stubs : List StubClass) (a b : List Origin) (r : Refusal) → IsOrder (origins files stubs) a → IsOrder (origins files stubs) b
    → AreMet (program_from a) (claims files stubs a) → IsFirstUnmet (program_from b) r (claims files stubs b) → ⊥
met_and_unmet files stubs a b r x y met unmet =
    let same : b ≡ a = sym (same_order (program_from a) files stubs a b (names_met (program_from a) files stubs a met) x y) in
    let here : IsFirstUnmet (program_from a) r (claims files stubs a) = subst (λ (o : List Origin). IsFirstUnmet (program_from o) r (claims files stubs o)) same unmet in
    met_or_unmet (program_from a) (program_from a) r (claims files stubs a) (alike_itself (program_from a) (claims files stubs a)) here met

unmet_in_order : (files : List NamedClass) (stubs : List StubClass) (a b : List Origin) (r s : Refusal) → a ≡ b
    → IsFirstUnmet (program_from a) r (claims files stubs a) → IsFirstUnmet (program_from b) s (claims files stubs b) → r ≡ s
unmet_in_order files stubs a b r s same x y =
    let here : IsFirstUnmet (program_from a) s (claims files stubs a) = subst (λ (o : List Origin). IsFirstUnmet (program_from o) s (claims files stubs o)) (sym same) y in
    one_unmet (program_from a) (program_from a) r s (claims files stubs a) (alike_itself (program_from a) (claims files stubs a)) x here

-- a name stands twice, and the first that does is told in whatever order; or the classes have one order
one_refusal : (files : List NamedClass) (stubs : List StubClass) (a b : List Origin) (r s : Refusal) → IsOrder (origins files stubs) a → IsOrder (origins files stubs) b
    → IsFirstUnmet (program_from a) r (claims files stubs a) → IsFirstUnmet (program_from b) s (claims files stubs b) → r ≡ s
one_refusal files stubs a b r s x y unmet unmet2 =
    by (names_first (program_from a) r files stubs a unmet) (names_first (program_from b) s files stubs b unmet2)
  where
    by : IsFirstUnmet (program_from a) r (of_names files stubs) ⊎ AreMet (program_from a) (of_names files stubs)
        → IsFirstUnmet (program_from b) s (of_names files stubs) ⊎ AreMet (program_from b) (of_names files stubs) → r ≡ s
    by (inr met) names2 = unmet_in_order files stubs a b r s (same_order (program_from a) files stubs a b met x y) unmet unmet2
    by (inl first) (inl second) =
        one_unmet (program_from a) (program_from b) r s (of_names files stubs) (names_alike (program_from a) (program_from b) files (own_classes stubs)) first second
    by (inl first) (inr met) =
        absurd (met_or_unmet (program_from a) (program_from b) r (of_names files stubs) (names_alike (program_from a) (program_from b) files (own_classes stubs)) first met)

one_in_order : (files : List NamedClass) (stubs : List StubClass) (a b : Result Program Refusal) → LinksInOrder files stubs a → LinksInOrder files stubs b → a ≡ b
one_in_order files stubs a b (linked o x met is) (linked o2 y met2 is2) =
    is ∙ ap (λ (order : List Origin). answer (program_from order)) (same_order (program_from o) files stubs o o2 (names_met (program_from o) files stubs o met) x y) ∙ sym is2
one_in_order files stubs a b (linked o x met is) (barred o2 s y unmet is2) = absurd (met_and_unmet files stubs o o2 s x y met unmet)
one_in_order files stubs a b (barred o r x unmet is) (linked o2 y met is2) = absurd (met_and_unmet files stubs o2 o r y x met unmet)
one_in_order files stubs a b (barred o r x unmet is) (barred o2 s y unmet2 is2) = is ∙ ap refused (one_refusal files stubs o o2 r s x y unmet unmet2) ∙ sym is2

-- ---- class files in any order

pub one_answer : (files : List NamedClass) (stubs : List StubClass) (a b : Result Program Refusal) → AllPairs (λ f g. f.file ≢ g.file) files
    → Links files stubs a → Links files stubs b → a ≡ b
one_answer files stubs a b differ x y =
    let once = once_in_pairs (λ (f : NamedClass). f.file) files differ in
    let same : y.ordered ≡ x.ordered =
    one_order (λ (f : NamedClass). f.file) files y.ordered x.ordered once y.by_file.same x.by_file.same y.by_file.sorted x.by_file.sorted in
    one_in_order x.ordered stubs a b x.links (subst (λ (ordered : List NamedClass). LinksInOrder ordered stubs b) same y.links)
