-- Names that are new one after the other; and what is known of all classes.
use Rattle.std.proofs.Common.{◌≡◌, ℕ, ◌+◌, ◌<◌, Bool, true, false, cond, not, List, [], ◌∷◌, ◌++◌, length, map, get_or, drop, refl, sym, ◌∙◌, ap, subst, arith, append_assoc, length-append}
use Rattle.std.proofs.lemmas.List.{append-nil, map-append, length-map}
use Rattle.jvm_model.specs.declared.program.NamedClass.{NamedClass}
use Rattle.jvm_model.specs.declared.stub.StubClass.{StubClass}
use Rattle.jvm_model.specs.Linking.{own_classes, class_from, folder_origin, stub_origin, origins}
use Rattle.jvm_model.specs.Programs.{Class, Program}
use Rattle.program_linking.specs.Claims.{known_class, known_classes, known_program, Knows, unsorted, AreNewNames, file_name, file_kind, stub_name, stub_kind, own_name, own_kind}
use Rattle.program_linking.proofs.ClaimSteps.{from_item}
use Rattle.program_linking.proofs.KnownClasses.{known_of}

-- ---- names that are new

pub new_front : (earlier xs ys : List (List ℕ)) → AreNewNames earlier (xs ++ ys) → AreNewNames earlier xs
new_front earlier [] ys new = tt
new_front earlier (x ∷ xs) ys new = (new.0, new_front (earlier ++ x ∷ []) xs ys new.1)

pub new_back : (earlier xs ys : List (List ℕ)) → AreNewNames earlier (xs ++ ys) → AreNewNames (earlier ++ xs) ys
new_back earlier [] ys new = subst (λ (e : List (List ℕ)). AreNewNames e ys) (sym (append-nil earlier)) new
new_back earlier (x ∷ xs) ys new = subst (λ (e : List (List ℕ)). AreNewNames e ys) (append_assoc earlier (x ∷ []) xs) (new_back (earlier ++ x ∷ []) xs ys new.1)

-- names of the items of a list, one item after the other
module _ {X : Type 0} (f : List X → List (List ℕ)) (one : X → List (List ℕ)) (split : (x : X) (xs : List X) → f (x ∷ xs) ≡ one x ++ f xs)
    (xs : List X) (i : ℕ) (x : X) (lt : i < length xs) (is : x ≡ get_or xs i x) (acc : List (List ℕ)) (new : AreNewNames acc (f (drop i xs))) where
  new_parts : AreNewNames acc (one x ++ f (drop (i + 1) xs))
  new_parts = subst (AreNewNames acc) (ap f (from_item xs i x lt is) ∙ split x (drop (i + 1) xs)) new

  pub new_head : AreNewNames acc (one x)
  new_head = new_front acc (one x) _ new_parts

  pub new_next : (more : List (List ℕ)) → more ≡ acc ++ one x → AreNewNames more (f (drop (i + 1) xs))
  new_next more e = subst (λ (names : List (List ℕ)). AreNewNames names (f (drop (i + 1) xs))) (sym e) (new_back acc (one x) _ new_parts)

-- ---- names of stubs that are classes of their own

pub own_names_split : (c : StubClass) (stubs : List StubClass) → map stub_name (own_classes (c ∷ stubs)) ≡ own_name c ++ map stub_name (own_classes stubs)
own_names_split c stubs = by c.is_patch
  where
    by : (b : Bool) → map stub_name (cond (not b) (c ∷ own_classes stubs) (own_classes stubs)) ≡ cond b [] (c.name ∷ []) ++ map stub_name (own_classes stubs)
    by true = refl
    by false = refl

pub own_kinds_split : (c : StubClass) (stubs : List StubClass) → map stub_kind (own_classes (c ∷ stubs)) ≡ own_kind c ++ map stub_kind (own_classes stubs)
own_kinds_split c stubs = by c.is_patch
  where
    by : (b : Bool) → map stub_kind (cond (not b) (c ∷ own_classes stubs) (own_classes stubs)) ≡ cond b [] (c.is_interface ∷ []) ++ map stub_kind (own_classes stubs)
    by true = refl
    by false = refl

-- ---- all of it is the known part of the program

known_pairs : {X : Type 0} (name : X → List ℕ) (kind : X → Bool) (xs : List X) (names : List (List ℕ)) (kinds : List Bool)
    → known_classes (map name xs ++ names) (map kind xs ++ kinds) ≡ map (λ (x : X). known_class (name x) (kind x)) xs ++ known_classes names kinds
known_pairs name kind [] names kinds = refl
known_pairs name kind (x ∷ xs) names kinds = ap (λ (cs : List Class). known_class (name x) (kind x) ∷ cs) (known_pairs name kind xs names kinds)

known_pairs_all : {X : Type 0} (name : X → List ℕ) (kind : X → Bool) (xs : List X)
    → known_classes (map name xs) (map kind xs) ≡ map (λ (x : X). known_class (name x) (kind x)) xs
known_pairs_all name kind [] = refl
known_pairs_all name kind (x ∷ xs) = ap (λ (cs : List Class). known_class (name x) (kind x) ∷ cs) (known_pairs_all name kind xs)

known_files : (stubs : List StubClass) (files : List NamedClass) → map (λ (f : NamedClass). known_class (file_name f) (file_kind f)) files ≡ map known_of (map class_from (map (folder_origin stubs) files))
known_files stubs [] = refl
known_files stubs (f ∷ files) = ap (λ (cs : List Class). known_class (file_name f) (file_kind f) ∷ cs) (known_files stubs files)

known_stubs : (stubs cs : List StubClass) → map (λ (c : StubClass). known_class (stub_name c) (stub_kind c)) cs ≡ map known_of (map class_from (map (stub_origin stubs) cs))
known_stubs stubs [] = refl
known_stubs stubs (c ∷ cs) = ap (λ (ds : List Class). known_class (stub_name c) (stub_kind c) ∷ ds) (known_stubs stubs cs)

pub all_known : (files : List NamedClass) (stubs : List StubClass)
    → known_classes (map file_name files ++ map stub_name (own_classes stubs)) (map file_kind files ++ map stub_kind (own_classes stubs)) ≡ map known_of (map class_from (origins files stubs))
all_known files stubs =
    let xs = map (folder_origin stubs) files in
    let ys = map (stub_origin stubs) (own_classes stubs) in
    known_pairs file_name file_kind files (map stub_name (own_classes stubs)) (map stub_kind (own_classes stubs))
    ∙ ap (λ (cs : List Class). map (λ (f : NamedClass). known_class (file_name f) (file_kind f)) files ++ cs) (known_pairs_all stub_name stub_kind (own_classes stubs))
    ∙ (λ i. known_files stubs files i ++ known_stubs stubs (own_classes stubs) i)
    ∙ sym (ap (map known_of) (map-append class_from xs ys) ∙ map-append known_of (map class_from xs) (map class_from ys))

pub knows_all : (files : List NamedClass) (stubs : List StubClass) (names : List (List ℕ)) (kinds : List Bool)
    → names ≡ map file_name files ++ map stub_name (own_classes stubs) → kinds ≡ map file_kind files ++ map stub_kind (own_classes stubs)
    → Knows (known_program names kinds) (unsorted files stubs)
knows_all files stubs names kinds n k = record {
  same = (λ i. known_program (n i) (k i)) ∙ ap (λ (cs : List Class). let p : Program = record { classes = cs; methods = []; fields = [] } in p) (all_known files stubs);
}

pub pairs_long : (files : List NamedClass) (stubs : List StubClass) (names : List (List ℕ)) (kinds : List Bool)
    → names ≡ map file_name files ++ map stub_name (own_classes stubs) → kinds ≡ map file_kind files ++ map stub_kind (own_classes stubs)
    → length names ≡ length kinds
pairs_long files stubs names kinds n k =
    ap (length {A = List ℕ}) n ∙ length-append (map file_name files) (map stub_name (own_classes stubs))
    ∙ omega (arith, length-map files file_name, length-map files file_kind, length-map (own_classes stubs) stub_name, length-map (own_classes stubs) stub_kind)
    ∙ sym (ap (length {A = Bool}) k ∙ length-append (map file_kind files) (map stub_kind (own_classes stubs)))
