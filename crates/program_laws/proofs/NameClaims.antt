-- The claims that names differ: they hold alike of all programs, and where they are met, no name stands twice.
use Rattle.std.proofs.Common.{◌≡◌, ℕ, ◌<◌, ◌≤◌, cond, false, not, List, [], ◌∷◌, ◌++◌, map, refl, sym, ap, ◌∙◌, subst, inl, inr, ◌⊎◌, arith}
use Rattle.std.specs.List.{Contains}
use Rattle.std.proofs.lemmas.Bool.{cases_lt}
use Rattle.std.proofs.lemmas.List.{map-append}
use Rattle.std.proofs.lemmas.List.Elements.{All-nil, All-cons, All-append, Contains-append_left, Contains-append_right, Contains-append_cases, Contains-push}
use Rattle.std.proofs.lemmas.List.Sorted.{sum_by-IsPermutation, IsPermutation-map, IsPermutation-filter_both}
use Rattle.std.proofs.lemmas.List.Sums.{sum_by-append}
use Rattle.std.proofs.lemmas.Simd.{map-map}
use Rattle.std.specs.Str.{bytes_eq}
use Rattle.list_laws.proofs.Members.{contains_cases, contains_first, contains_later}
use Rattle.jvm_model.specs.declared.program.NamedClass.{NamedClass}
use Rattle.jvm_model.specs.declared.program.Origin.{Origin}
use Rattle.jvm_model.specs.declared.stub.StubClass.{StubClass}
use Rattle.jvm_model.specs.Linking.{claim, differs, AreMet, file_claims, stub_claims, is_base_stub, base_first, name_claims, own_classes, folder_origin, stub_origin, origins, class_from, names}
use Rattle.jvm_model.specs.Programs.{Program, name_of}
use Rattle.jvm_model.specs.Soundness.{this_class_offset}
use Rattle.program_laws.proofs.FirstUnmet.{IsAlike, Alike, first_met, others_met, front_met, back_met}
use Rattle.program_laws.proofs.Orders.{count_of, AreOnce, counted_here, counted_elsewhere, this_or_other, there_counted}

abbrev file_name : NamedClass → List ℕ
file_name f = name_of f.class

abbrev stub_name : StubClass → List ℕ
stub_name c = c.name

abbrev origin_name : Origin → List ℕ
origin_name o = (class_from o).name

-- ---- they hold alike

differs_alike : (p q : Program) (file : List ℕ) (offset : ℕ) (earlier : List (List ℕ)) (name : List ℕ) → IsAlike p q (claim file offset (differs earlier name))
differs_alike p q file offset earlier name = record { to = λ met. met; back = λ met. met }

files_alike : (p q : Program) (others earlier : List (List ℕ)) (files : List NamedClass) → Alike p q (file_claims others earlier files)
files_alike p q others earlier [] = All-nil (IsAlike p q)
files_alike p q others earlier (f ∷ files) =
    let first = claim f.file (this_class_offset f.class) (differs (earlier ++ others) (name_of f.class)) in
    All-cons (IsAlike p q) first (file_claims others (earlier ++ name_of f.class ∷ []) files)
    (differs_alike p q f.file (this_class_offset f.class) (earlier ++ others) (name_of f.class)) (files_alike p q others (earlier ++ name_of f.class ∷ []) files)

stubs_alike : (p q : Program) (earlier : List (List ℕ)) (stubs : List StubClass) → Alike p q (stub_claims earlier stubs)
stubs_alike p q earlier [] = All-nil (IsAlike p q)
stubs_alike p q earlier (c ∷ stubs) =
    All-cons (IsAlike p q) (claim c.file 0 (differs earlier c.name)) (stub_claims (earlier ++ c.name ∷ []) stubs)
    (differs_alike p q c.file 0 earlier c.name) (stubs_alike p q (earlier ++ c.name ∷ []) stubs)

pub names_alike : (p q : Program) (files : List NamedClass) (classes : List StubClass) → Alike p q (name_claims files classes)
names_alike p q files classes =
    All-append (IsAlike p q) (file_claims (map stub_name classes) [] files) (stub_claims [] (base_first classes))
    (files_alike p q (map stub_name classes) [] files) (stubs_alike p q [] (base_first classes))

-- ---- names that are none of earlier ones

-- each name is none of those that are taken, and none of the earlier ones
abbrev AreNew : List (List ℕ) → List (List ℕ) → Type 0
AreNew taken [] = Unit {0}
AreNew taken (n ∷ ns) = (Contains taken n → ⊥) × AreNew (n ∷ taken) ns

-- a list of names in which none stands twice, and none of those that are taken stands
record AreApart (taken ns : List (List ℕ)) : Type 0 where
  once : (q : List ℕ) → count_of q ns ≤ 1
  none : (q : List ℕ) → Contains taken q → count_of q ns ≡ 0

apart : (taken ns : List (List ℕ)) → AreNew taken ns → AreApart taken ns
apart taken [] new = record { once = λ q. omega arith; none = λ q there. refl }
apart taken (n ∷ ns) new = by (apart (n ∷ taken) ns new.1)
  where
    by : AreApart (n ∷ taken) ns → AreApart taken (n ∷ ns)
    by rest = record { once = λ q. few q (this_or_other n q); none = λ q there. nowhere q there (this_or_other n q) }
      where
        few : (q : List ℕ) → (n ≡ q) ⊎ (bytes_eq n q ≡ false) → count_of q (n ∷ ns) ≤ 1
        few q (inl e) =
            let here = counted_here q n ns e in
            let later = rest.none q (subst (λ (m : List ℕ). Contains (n ∷ taken) m) e (contains_first n taken)) in
            omega arith
        few q (inr other) = let same = counted_elsewhere q n ns other in let later = rest.once q in omega arith

        nowhere : (q : List ℕ) → Contains taken q → (n ≡ q) ⊎ (bytes_eq n q ≡ false) → count_of q (n ∷ ns) ≡ 0
        nowhere q there (inl e) = absurd (new.0 (subst (λ (m : List ℕ). Contains taken m) (sym e) there))
        nowhere q there (inr other) = counted_elsewhere q n ns other ∙ rest.none q (contains_later n q taken there)

-- the names of the one list are names of the other
record AreAmong (some all : List (List ℕ)) : Type 0 where
  among : (q : List ℕ) → Contains some q → Contains all q

-- one more name that is there
one_more : (taken all : List (List ℕ)) (n : List ℕ) → Contains all n → AreAmong taken all → AreAmong (n ∷ taken) all
one_more taken all n there a = record { among = λ q h. by q (contains_cases n q taken h) }
  where
    by : (q : List ℕ) → (n ≡ q) ⊎ Contains taken q → Contains all q
    by q (inl e) = subst (λ (m : List ℕ). Contains all m) e there
    by q (inr h) = a.among q h

after_earlier : (taken earlier : List (List ℕ)) (n : List ℕ) → AreAmong taken earlier → AreAmong (n ∷ taken) (earlier ++ n ∷ [])
after_earlier taken earlier n a =
    one_more taken (earlier ++ n ∷ []) n (Contains-push earlier n) (record { among = λ q there. Contains-append_left earlier (n ∷ []) q (a.among q there) })

before_others : (taken earlier others : List (List ℕ)) (n : List ℕ) → AreAmong taken (earlier ++ others) → AreAmong (n ∷ taken) ((earlier ++ n ∷ []) ++ others)
before_others taken earlier others n a =
    one_more taken ((earlier ++ n ∷ []) ++ others) n (Contains-append_left (earlier ++ n ∷ []) others n (Contains-push earlier n))
    (record { among = λ q there. by q (Contains-append_cases earlier others q (a.among q there)) })
  where
    by : (q : List ℕ) → Contains earlier q ⊎ Contains others q → Contains ((earlier ++ n ∷ []) ++ others) q
    by q (inl h) = Contains-append_left (earlier ++ n ∷ []) others q (Contains-append_left earlier (n ∷ []) q h)
    by q (inr h) = Contains-append_right (earlier ++ n ∷ []) others q h

-- ---- where they are met

new_files : (p : Program) (taken others earlier : List (List ℕ)) (files : List NamedClass) → AreAmong taken (earlier ++ others) → AreMet p (file_claims others earlier files)
    → AreNew taken (map file_name files)
new_files p taken others earlier [] a met = tt
new_files p taken others earlier (f ∷ files) a met =
    let first = claim f.file (this_class_offset f.class) (differs (earlier ++ others) (name_of f.class)) in
    let claims = file_claims others (earlier ++ name_of f.class ∷ []) files in (
      λ there. first_met p first claims met (a.among (name_of f.class) there),
      new_files p (name_of f.class ∷ taken) others (earlier ++ name_of f.class ∷ []) files (before_others taken earlier others (name_of f.class) a) (others_met p first claims met),
    )

new_stubs : (p : Program) (taken earlier : List (List ℕ)) (stubs : List StubClass) → AreAmong taken earlier → AreMet p (stub_claims earlier stubs) → AreNew taken (map stub_name stubs)
new_stubs p taken earlier [] a met = tt
new_stubs p taken earlier (c ∷ stubs) a met =
    let first = claim c.file 0 (differs earlier c.name) in
    let claims = stub_claims (earlier ++ c.name ∷ []) stubs in (
      λ there. first_met p first claims met (a.among c.name there),
      new_stubs p (c.name ∷ taken) (earlier ++ c.name ∷ []) stubs (after_earlier taken earlier c.name a) (others_met p first claims met),
    )

-- two lists, in each of which no name stands twice, and no name stands in both
both_once : (ns ms : List (List ℕ)) → AreApart ms ns → AreOnce ms → AreOnce (ns ++ ms)
both_once ns ms front back = record { once = λ q. by q (cases_lt 0 (count_of q ms)) }
  where
    by : (q : List ℕ) → (0 < count_of q ms) ⊎ (count_of q ms ≤ 0) → count_of q (ns ++ ms) ≤ 1
    by q (inl some) =
        let sum = sum_by-append (λ (n : List ℕ). cond (bytes_eq n q) 1 0) ns ms in
        let one = back.once q in
        let zero_there = front.none q (there_counted q ms some) in
        omega arith
    by q (inr nothing) =
        let sum = sum_by-append (λ (n : List ℕ). cond (bytes_eq n q) 1 0) ns ms in
        let one = front.once q in
        omega arith

-- the order in which stubs are claimed to differ does not matter
stubs_once : (classes : List StubClass) → AreOnce (map stub_name (base_first classes)) → AreOnce (map stub_name classes)
stubs_once classes once =
    let moved = IsPermutation-filter_both is_base_stub (λ (c : StubClass). not (is_base_stub c)) (λ c. refl) classes in
    record {
      once = λ q.
          let same = sum_by-IsPermutation (λ (n : List ℕ). cond (bytes_eq n q) 1 0) (map stub_name classes) (map stub_name (base_first classes))
          (IsPermutation-map stub_name classes (base_first classes) moved) in
          let one = once.once q in
          omega arith;
    }

-- the names of all classes are those of the class files and of the stubs
names_are : (files : List NamedClass) (stubs : List StubClass) → names (origins files stubs) ≡ map file_name files ++ map stub_name (own_classes stubs)
names_are files stubs =
    map-append origin_name (map (folder_origin stubs) files) (map (stub_origin stubs) (own_classes stubs))
    ∙ ap (λ (ns : List (List ℕ)). ns ++ map origin_name (map (stub_origin stubs) (own_classes stubs))) (map-map origin_name (folder_origin stubs) files)
    ∙ ap (λ (ns : List (List ℕ)). map file_name files ++ ns) (map-map origin_name (stub_origin stubs) (own_classes stubs))

pub names_once : (p : Program) (files : List NamedClass) (stubs : List StubClass) → AreMet p (name_claims files (own_classes stubs)) → AreOnce (names (origins files stubs))
names_once p files stubs met =
    let classes = own_classes stubs in
    let of_files = file_claims (map stub_name classes) [] files in
    let of_stubs = stub_claims [] (base_first classes) in
    let front = apart (map stub_name classes) (map file_name files)
    (new_files p (map stub_name classes) (map stub_name classes) [] files (record { among = λ q there. there }) (front_met p of_files of_stubs met)) in
    let back = apart [] (map stub_name (base_first classes)) (new_stubs p [] [] (base_first classes) (record { among = λ q there. there }) (back_met p of_files of_stubs met)) in
    subst AreOnce (sym (names_are files stubs)) (both_once (map file_name files) (map stub_name classes) front (stubs_once classes (record { once = back.once })))
