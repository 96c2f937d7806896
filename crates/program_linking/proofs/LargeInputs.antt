-- More than 32 bits can number: of what an index tells, and of what linking is given.
use Rattle.std.proofs.Common.{◌≡◌, ℕ, ◌+◌, ◌*◌, ◌<◌, ◌≤◌, Bool, true, false, cond, not, List, [], ◌∷◌, ◌++◌, length, map, filter, drop, get_or, All, Contains, Result, Ok, Err, IfErr, MatchResult, refl, sym, ◌∙◌, ap, subst, inl, inr, arith, length-append}
use Rattle.std.specs.List.{list_any}
use Rattle.std.specs.Str.{bytes_eq}
use Rattle.std.proofs.lemmas.List.{append-nil, length-map, map-append}
use Rattle.std.proofs.lemmas.List.Elements.{All-contains}
use Rattle.std.proofs.lemmas.List.Filters.{length-filter_both}
use Rattle.jvm_model.specs.declared.access.AccessFlag.TheVariants.{Native}
use Rattle.jvm_model.specs.declared.class_file.Member.{Member}
use Rattle.jvm_model.specs.declared.program.NamedClass.{NamedClass}
use Rattle.jvm_model.specs.declared.stub.StubClass.{StubClass}
use Rattle.jvm_model.specs.Access.{has_flag}
use Rattle.jvm_model.specs.Linking.{Claim, Description, is_base_stub, own_classes, stub_descriptions, with_description, with_descriptions}
use Rattle.jvm_model.specs.Programs.{Program}
use Rattle.jvm_model.specs.Stubs.{is_same_method}
use Rattle.failure.specs.declared.Failure.{Failure}
use Rattle.failure.specs.declared.Failure.TheVariants.{Cause, OutOfMemory}
use Rattle.failure.specs.Widening.{IsWidened}
use Rattle.program_index.specs.declared.index_failure.TooMany.{TooMany}
use Rattle.program_index.specs.Limits.{AreTooMany, too_many}
use Rattle.program_index.specs.MemberKeys.{Key, key_texts}
use Rattle.program_index.specs.TextNumbers.{Extends, with_text, with_texts}
use Rattle.program_index.proofs.OrderPlaces.{contains_cases, contains_first, contains_later, contains_none}
use Rattle.program_model.specs.declared.link_failure.LinkFault.{LinkFault}
use Rattle.program_model.specs.declared.link_failure.LinkFault.TheVariants as faults
use Rattle.program_model.specs.MemberLists.{AreTooManyKeys}
use Rattle.program_model.proofs.MembersTold.{many_keys_more}
use Rattle.program_linking.specs.declared.class_names.StubSource.TheVariants.{Base, User}
use Rattle.program_linking.specs.Claims.{TellsEndOrLarge, all_names, file_name, stub_name, with_own_names}
use Rattle.program_linking.specs.LinkAnswers.{IsSoundFile}
use Rattle.program_linking.specs.Patching.{is_patch_stub, member_key, method_key, native_keys, own_one, patch_one}
use Rattle.program_linking.specs.StubSources.{own_from}
use Rattle.program_linking.specs.TooLarge.{AreTooManyDescriptions, AreTooManyNatives, HasLargeFile, HasLargeStub, IsTooLargeInput, in_classes, in_file, in_patches, in_stub, TellsTooMany}
use Rattle.program_linking.proofs.Building.{same_key, with_step}

-- ---- what an index tells

pub error_told : {X : Type 0} (Large : Type 0) (e : Failure TooMany) → (◌≡◌ {A = Result X (Failure TooMany)} (Err e) (Err (Cause too_many)) → Large) → TellsTooMany Large e
error_told Large (Cause _) large = large refl
error_told Large OutOfMemory large = tt

pub error_more : (Large More : Type 0) (e : Failure TooMany) → (Large → More) → TellsTooMany Large e → TellsTooMany More e
error_more Large More (Cause _) more told = more told
error_more Large More OutOfMemory more told = tt

-- as a failure of linking
pub error_end : (Large : Type 0) (p : Program) (claims : List Claim) (e : Failure TooMany) (end : Failure LinkFault) → IsWidened (λ _ fault. fault ≡ faults.TooMany) e end → TellsTooMany Large e → TellsEndOrLarge Large p claims end
error_end Large p claims (Cause _) (Cause fault) is told = subst (λ (f : LinkFault). TellsEndOrLarge Large p claims (Cause f)) (sym is) told
error_end Large p claims (Cause _) OutOfMemory is told = absurd is
error_end Large p claims OutOfMemory (Cause _) is told = absurd is
error_end Large p claims OutOfMemory OutOfMemory is told = tt

-- the same of an answer whose failure is handed on
pub errors_more : {X : Type 0} (Large More : Type 0) (r : Result X (Failure TooMany)) → (Large → More) → IfErr r (TellsTooMany Large) → IfErr r (TellsTooMany More)
errors_more Large More (Ok x) more told = tt
errors_more Large More (Err e) more told = error_more Large More e more told

pub handed_end : {X : Type 0} (Large : Type 0) (p : Program) (claims : List Claim) (r : Result X (Failure TooMany)) (end : Failure LinkFault)
    → MatchResult r (λ x. ◌≡◌ {A = Result X (Failure LinkFault)} (Err end) (Ok x)) (λ e. IsWidened (λ _ fault. fault ≡ faults.TooMany) e end) → IfErr r (TellsTooMany Large)
    → TellsEndOrLarge Large p claims end
handed_end Large p claims (Ok x) end cases told = absurd (cc cases)
handed_end Large p claims (Err e) end cases told = error_end Large p claims e end cases told

-- ---- lists of which a front is too long

pub many_more : {X : Type 0} (xs more whole : List X) → xs ++ more ≡ whole → AreTooMany xs → AreTooMany whole
many_more {X} xs more whole is many = omega (arith, ap (length {A = X}) is, length-append xs more, many)

pub keys_more : (keys more whole : List Key) → keys ++ more ≡ whole → AreTooManyKeys keys → AreTooManyKeys whole
keys_more keys more whole is many = subst AreTooManyKeys is (many_keys_more keys more many)

pub descriptions_more : (ds more whole : List Description) → ds ++ more ≡ whole → AreTooManyDescriptions ds → AreTooManyDescriptions whole
descriptions_more ds more whole is many =
    keys_more (map method_key ds) (map method_key more) (map method_key whole) (sym (map-append method_key ds more) ∙ ap (map method_key) is) many

-- ---- descriptions that one adds: their keys stay, and more come last

keys_stay : (held : List Description) (d : Description) → Extends (map method_key held) (map method_key (with_description held d))
keys_stay [] d = record { added = method_key d ∷ []; is = refl }
keys_stay (e ∷ held) d = by (is_same_method e.method d.method) refl (keys_stay held d)
  where
    by : (b : Bool) → is_same_method e.method d.method ≡ b → Extends (map method_key held) (map method_key (with_description held d))
        → Extends (map method_key (e ∷ held)) (map method_key (cond b (d ∷ held) (e ∷ with_description held d)))
    by true same rest = record {
      added = [];
      is = ap (λ (k : Key). k ∷ map method_key held) (sym (same_key e d same)) ∙ sym (append-nil (map method_key (e ∷ held)));
    }
    by false other rest = record { added = rest.added; is = ap (λ (ks : List Key). method_key e ∷ ks) rest.is }

pub many_with : (held ds : List Description) → AreTooManyDescriptions held → AreTooManyDescriptions (with_descriptions held ds)
many_with held [] many = many
many_with held (d ∷ ds) many =
    let longer = keys_stay held d in
    many_with (with_description held d) ds (keys_more (map method_key held) longer.added (map method_key (with_description held d)) (sym longer.is) many)

-- too many with those of one item, and so with those of all
pub many_at : {X : Type 0} (f : List X → List Description) (first : List Description) (one : X → List Description) → ((x : X) (xs : List X) → f (x ∷ xs) ≡ one x ++ f xs)
    → (xs : List X) (i : ℕ) (x : X) → i < length xs → x ≡ get_or xs i x → (held : List Description) → with_descriptions held (f (drop i xs)) ≡ with_descriptions first (f xs)
    → AreTooManyDescriptions (with_descriptions held (one x)) → AreTooManyDescriptions (with_descriptions first (f xs))
many_at f first one split xs i x lt is held so_far many =
    let held' = with_descriptions held (one x) in
    subst AreTooManyDescriptions (with_step f first one split xs i x lt is held held' refl so_far) (many_with held' (f (drop (i + 1) xs)) many)

-- ---- names of stubs

pub text_grows : (texts : List (List ℕ)) (t : List ℕ) → (length texts ≤ length (with_text texts t)) × (length (with_text texts t) ≤ length texts + 1)
unfolding with_text
text_grows texts t = by (list_any (bytes_eq t) texts)
  where
    by : (b : Bool) → (length texts ≤ length (cond b texts (texts ++ t ∷ []))) × (length (cond b texts (texts ++ t ∷ [])) ≤ length texts + 1)
    by true = (omega arith, omega arith)
    by false = (omega (arith, length-append texts (t ∷ [])), omega (arith, length-append texts (t ∷ [])))

own_names_grow : (texts : List (List ℕ)) (stubs : List StubClass)
    → (length texts ≤ length (with_own_names texts stubs)) × (length (with_own_names texts stubs) ≤ length texts + length (own_classes stubs))
own_names_grow texts [] = (omega arith, omega arith)
own_names_grow texts (c ∷ stubs) = by c.is_patch (λ more. own_names_grow more stubs)
  where
    by : (b : Bool) → ((more : List (List ℕ)) → (length more ≤ length (with_own_names more stubs)) × (length (with_own_names more stubs) ≤ length more + length (own_classes stubs)))
        → (length texts ≤ length (with_own_names (cond b texts (with_text texts c.name)) stubs))
        × (length (with_own_names (cond b texts (with_text texts c.name)) stubs) ≤ length texts + length (cond (not b) (c ∷ own_classes stubs) (own_classes stubs)))
    by true rest = rest texts
    by false rest =
        let one = text_grows texts c.name in
        let all = rest (with_text texts c.name) in
        (omega (arith, one.0, all.0), omega (arith, one.1, all.1))

-- the names of the first stubs are too many, and so the stubs
pub many_own_names : (texts : List (List ℕ)) (left stubs : List StubClass) → with_own_names texts left ≡ with_own_names [] stubs → AreTooMany texts → AreTooMany (own_classes stubs)
many_own_names texts left stubs is many =
    let here = (own_names_grow texts left).0 in
    let all = (own_names_grow [] stubs).1 in
    omega (arith, here, all, ap (length {A = List ℕ}) is, many)

-- those that are there from the start, and those of the user's files
module _ (stubs : List StubClass) (none : List (List ℕ)) (empty : none ≡ []) where
  sources : length (own_from Base stubs) + length (own_from User stubs) ≡ length (own_classes stubs)
  sources = length-filter_both is_base_stub (λ c. not (is_base_stub c)) (λ c. refl) (own_classes stubs)

  from_base : length (none ++ map stub_name (own_from Base stubs)) ≡ length (own_from Base stubs)
  from_base = omega (arith, ap (length {A = List ℕ}) empty, length-append none (map stub_name (own_from Base stubs)), length-map (own_from Base stubs) stub_name)

  pub many_base : AreTooMany (none ++ map stub_name (own_from Base stubs)) → AreTooMany (own_classes stubs)
  many_base many = omega (arith, sources, from_base, many)

  pub many_user : (earlier : List (List ℕ)) → earlier ≡ none ++ map stub_name (own_from Base stubs) → AreTooMany (earlier ++ map stub_name (own_from User stubs)) → AreTooMany (own_classes stubs)
  many_user earlier is many =
      omega (arith, sources, from_base, ap (length {A = List ℕ}) is, length-append earlier (map stub_name (own_from User stubs)), length-map (own_from User stubs) stub_name, many)

-- ---- patches

pub one_patch : (s : StubClass) → s.is_patch ≡ true → length (patch_one s) ≡ 1
one_patch s is = ap (λ (b : Bool). length (cond b (s ∷ []) [])) is

pub patches_count : (s : StubClass) (stubs : List StubClass) → length (filter is_patch_stub (s ∷ stubs)) ≡ length (patch_one s) + length (filter is_patch_stub stubs)
patches_count s stubs = by s.is_patch
  where
    by : (b : Bool) → length (cond b (s ∷ filter is_patch_stub stubs) (filter is_patch_stub stubs)) ≡ length (cond b (s ∷ []) []) + length (filter is_patch_stub stubs)
    by true = omega arith
    by false = omega arith

pub filter_few : {X : Type 0} (p : X → Bool) (xs : List X) → length (filter p xs) ≤ length xs
filter_few p xs = omega (arith, length-filter_both p (λ x. not (p x)) (λ x. refl) xs)

-- ---- native methods of a class file are few

texts_few : (texts more : List (List ℕ)) → length (with_texts texts more) ≤ length texts + length more
texts_few texts [] = omega arith
texts_few texts (t ∷ more) = omega (arith, (text_grows texts t).1, texts_few (with_text texts t) more)

two_texts : (keys : List Key) → length (key_texts keys) ≡ 2 * length keys
two_texts [] = refl
two_texts (k ∷ keys) = omega (arith, two_texts keys)

natives_few : (f : NamedClass) → IsSoundFile f → AreTooManyKeys (native_keys f.class.pool f.class.methods) → ⊥
natives_few f sound many =
    let keys = native_keys f.class.pool f.class.methods in
    let is_native : Member → Bool = λ m. has_flag m.flags Native in
    let long = length-map (filter is_native f.class.methods) (member_key f.class.pool) in
    let few = filter_few is_native f.class.methods in
    let fits = sound.fits.method_count in
    elim many [
      | inl all ↦ absurd (omega (arith, long, few, fits, all))
      | inr texts ↦ absurd (omega (arith, long, few, fits, texts_few [] (key_texts keys), two_texts keys, texts))
    ]

-- ---- stubs that are classes of their own

own_among : (stubs : List StubClass) (c : StubClass) → c.is_patch ≡ false → Contains stubs c → Contains (own_classes stubs) c
own_among [] c own among = absurd (contains_none c among)
own_among (s ∷ stubs) c own among = elim (contains_cases s stubs c among) [
  | inl same ↦
      let is : own_classes (s ∷ stubs) ≡ s ∷ own_classes stubs = ap (λ (b : Bool). cond (not b) (s ∷ own_classes stubs) (own_classes stubs)) (ap (λ (x : StubClass). x.is_patch) same ∙ own) in
      subst (λ (all : List StubClass). Contains all c) (sym is) (subst (Contains (s ∷ own_classes stubs)) same (contains_first s (own_classes stubs)))
  | inr later ↦ by s.is_patch (own_among stubs c own later)
]
  where
    by : (b : Bool) → Contains (own_classes stubs) c → Contains (cond (not b) (s ∷ own_classes stubs) (own_classes stubs)) c
    by true rest = rest
    by false rest = contains_later s (own_classes stubs) c rest

one_among : (stubs : List StubClass) (c x : StubClass) → Contains stubs c → Contains (own_one c) x → Contains (own_classes stubs) x
one_among stubs c x among one = by c.is_patch refl one
  where
    by : (b : Bool) → c.is_patch ≡ b → Contains (cond b [] (c ∷ [])) x → Contains (own_classes stubs) x
    by true is has = absurd (contains_none x has)
    by false is has = elim (contains_cases c [] x has) [
      | inl same ↦ subst (Contains (own_classes stubs)) same (own_among stubs c is among)
      | inr later ↦ absurd (contains_none x later)
    ]

-- ---- one class of a list

pub own_large : (patches : List StubClass) (c : StubClass) → c.is_patch ≡ false → AreTooManyDescriptions (stub_descriptions patches c) → HasLargeStub patches (own_one c)
own_large patches c own many =
    let is : own_one c ≡ c ∷ [] = ap (λ (b : Bool). cond b [] (c ∷ [])) own in
    record { class = c; among = subst (λ (cs : List StubClass). Contains cs c) (sym is) (contains_first c []); many = many }

pub large_stub : (patches stubs : List StubClass) (i : ℕ) (c : StubClass) → i < length stubs → c ≡ get_or stubs i c → HasLargeStub patches (own_one c) → HasLargeStub patches (own_classes stubs)
large_stub patches stubs i c lt is large = record { class = large.class; among = one_among stubs c large.class (i, lt, sym is) large.among; many = large.many }

pub large_file : (patches : List StubClass) (files : List NamedClass) (i : ℕ) (f : NamedClass) → i < length files → f ≡ get_or files i f → AreTooManyNatives patches f.class → HasLargeFile patches files
large_file patches files i f lt is many = record { file = f; among = (i, lt, sym is); many = many }

-- ---- what linking is given

module _ (files : List NamedClass) (stubs : List StubClass) where
  pub names_count : length (all_names files stubs) ≡ length files + length (own_classes stubs)
  names_count = omega (arith, length-append (map file_name files) (map stub_name (own_classes stubs)), length-map files file_name, length-map (own_classes stubs) stub_name)

  pub many_files : AreTooMany files → IsTooLargeInput files stubs
  many_files many = in_classes (omega (arith, names_count, many))

  pub many_stubs : AreTooMany (own_classes stubs) → IsTooLargeInput files stubs
  many_stubs many = in_classes (omega (arith, names_count, many))

  -- also where the patches are given alone
  pub many_patches : AreTooMany (filter is_patch_stub (filter is_patch_stub stubs)) → IsTooLargeInput files stubs
  many_patches many = in_patches (omega (arith, filter_few is_patch_stub (filter is_patch_stub stubs), many))

  pub stub_large : HasLargeStub stubs (own_classes stubs) → IsTooLargeInput files stubs
  stub_large large = in_stub large.class large.among large.many

  pub file_large : All IsSoundFile files → HasLargeFile stubs files → IsTooLargeInput files stubs
  file_large sound large = elim large.many [
    | inl natives ↦ absurd (natives_few large.file (All-contains IsSoundFile files large.file sound large.among) natives)
    | inr ds ↦ in_file large.file large.among ds
  ]
