-- Names of classes that differ, told one after the other.
use Rattle.std.proofs.Common.{◌≡◌, ℕ, suc, ◌+◌, ◌<◌, Bool, true, false, cond, not, ◌&&◌, ◌||◌, List, [], ◌∷◌, ◌++◌, length, map, filter, get_or, drop, Result, Ok, Err, Contains, Some, refl, sym, ◌∙◌, ap, subst, arith, append_assoc, inl, inr, ◌⊎◌}
use Rattle.std.specs.List.{list_any}
use Rattle.std.specs.Str.{bytes_eq}
use Rattle.std.proofs.lemmas.List.{append-nil, map-append}
use Rattle.std.proofs.lemmas.List.Elements.{Contains-append_left, Contains-append_right, Contains-append_cases}
use Rattle.std.proofs.lemmas.Slice.Eq.{bytes_eq-Decides}
use Rattle.jvm_model.specs.declared.program.NamedClass.{NamedClass}
use Rattle.jvm_model.specs.declared.stub.StubClass.{StubClass}
use Rattle.jvm_model.specs.Linking.{base_first, Claim, claim, differs, AreMet, own_classes, file_claims, stub_claims}
use Rattle.jvm_model.specs.Programs.{Program}
use Rattle.jvm_model.specs.Soundness.{this_class_offset}
use Rattle.program_index.specs.TextNumbers.{with_text}
use Rattle.program_index.proofs.ListPlaces.{pushed_at}
use Rattle.program_index.proofs.OrderPlaces.{contains_at, contains_cases, contains_none, place_of}
use Rattle.failure.specs.declared.Failure.{Failure}
use Rattle.program_model.specs.declared.link_failure.LinkFault.{LinkFault}
use Rattle.failure.specs.declared.Failure.TheVariants.{Cause}
use Rattle.program_model.specs.declared.link_failure.LinkFault.TheVariants.{Refused}
use Rattle.program_linking.specs.declared.class_names.StubSource.{StubSource}
use Rattle.program_linking.specs.declared.class_names.StubSource.TheVariants.{Base, User}
use Rattle.program_linking.specs.Claims.{TellsEndOrLarge, TellsClaimsOrLarge, HasTextsOf, with_own_names, file_name, stub_name}
use Rattle.program_linking.specs.StubSources.{is_from, one_from, own_from}
use Rattle.program_linking.proofs.ClaimSteps.{Left, end_front, from_item, left_as, left_step, left_stop, one_met, tells_back}
use Rattle.program_linking.proofs.NewNames.{own_names_split}

-- ---- one name

pub name_taken : (Large : Type 0) (p : Program) (file : List ℕ) (offset : ℕ) (earlier names : List (List ℕ)) (name : List ℕ) (e : Failure LinkFault)
    → TellsEndOrLarge Large p (claim file offset (differs earlier name) ∷ []) e → TellsEndOrLarge Large p (claim file offset (differs (earlier ++ names) name) ∷ []) e
name_taken Large p file offset earlier names name (Cause (Refused r)) (inl h) = inl ((λ meets. h.0 (λ has. meets (Contains-append_left earlier names name has))), h.1)
name_taken Large p file offset earlier names name (Cause (Refused r)) (inr h) = absurd h.1
name_taken Large p file offset earlier names name _ h = h

pub name_new : (p : Program) (file : List ℕ) (offset : ℕ) (earlier names : List (List ℕ)) (name : List ℕ) → (Contains names name → ⊥)
    → AreMet p (claim file offset (differs earlier name) ∷ []) → AreMet p (claim file offset (differs (earlier ++ names) name) ∷ [])
name_new p file offset earlier names name none met =
    one_met p (claim file offset (differs (earlier ++ names) name)) (λ has. elim (Contains-append_cases earlier names name has) [
      | inl h ↦ met 0 (claim file offset (differs earlier name)) (omega arith) h
      | inr h ↦ none h
    ])

pub names_told : {X : Type 0} (Large : Type 0) (p : Program) (file : List ℕ) (offset : ℕ) (earlier names : List (List ℕ)) (name : List ℕ) (r : Result X (Failure LinkFault)) → (Contains names name → ⊥)
    → TellsClaimsOrLarge Large p (claim file offset (differs earlier name) ∷ []) r → TellsClaimsOrLarge Large p (claim file offset (differs (earlier ++ names) name) ∷ []) r
names_told Large p file offset earlier names name (Ok x) none told = name_new p file offset earlier names name none told
names_told Large p file offset earlier names name (Err e) none told = name_taken Large p file offset earlier names name e told

-- ---- the names of stubs, which may stand twice

only_one : (x n : List ℕ) → Contains (x ∷ []) n → x ≡ n
only_one x n has = elim (contains_cases x [] n has) [ inl e ↦ e | inr later ↦ absurd (contains_none n later) ]

any_has : (texts : List (List ℕ)) (t : List ℕ) → list_any (bytes_eq t) texts ≡ true → Contains texts t
any_has [] t e = cc
any_has (x ∷ xs) t e = by (bytes_eq t x) refl e (any_has xs t)
  where
    by : (b : Bool) → bytes_eq t x ≡ b → (b || list_any (bytes_eq t) xs) ≡ true → (list_any (bytes_eq t) xs ≡ true → Contains xs t) → Contains (x ∷ xs) t
    by true is h rest = contains_at (x ∷ xs) 0 t (ap Some (sym ((bytes_eq-Decides t x).0 is)))
    by false is h rest = let at = place_of xs t (rest h) in contains_at (x ∷ xs) (suc at.0) t at.1

text_has : (texts : List (List ℕ)) (t : List ℕ) → Contains (with_text texts t) t
unfolding with_text
text_has texts t = by (list_any (bytes_eq t) texts) refl
  where
    by : (b : Bool) → list_any (bytes_eq t) texts ≡ b → Contains (cond b texts (texts ++ t ∷ [])) t
    by true is = any_has texts t is
    by false is = contains_at (texts ++ t ∷ []) (length texts) t (pushed_at texts t)

text_keeps : (texts : List (List ℕ)) (t n : List ℕ) → Contains texts n → Contains (with_text texts t) n
unfolding with_text
text_keeps texts t n has = by (list_any (bytes_eq t) texts)
  where
    by : (b : Bool) → Contains (cond b texts (texts ++ t ∷ [])) n
    by true = has
    by false = Contains-append_left texts (t ∷ []) n has

text_only : (texts : List (List ℕ)) (t n : List ℕ) → Contains (with_text texts t) n → Contains texts n ⊎ (t ≡ n)
unfolding with_text
text_only texts t n has = by (list_any (bytes_eq t) texts) has
  where
    by : (b : Bool) → Contains (cond b texts (texts ++ t ∷ [])) n → Contains texts n ⊎ (t ≡ n)
    by true h = inl h
    by false h = elim (Contains-append_cases texts (t ∷ []) n h) [ inl old ↦ inl old | inr last ↦ inr (only_one t n last) ]

all_there : (stubs : List StubClass) (acc : List (List ℕ)) (n : List ℕ) → Contains acc n ⊎ Contains (map stub_name (own_classes stubs)) n → Contains (with_own_names acc stubs) n
all_there [] acc n (inl h) = h
all_there [] acc n (inr h) = absurd (contains_none n h)
all_there (c ∷ stubs) acc n h =
    by c.is_patch (elim h [ inl old ↦ inl old | inr new ↦ inr (subst (λ (ns : List (List ℕ)). Contains ns n) (own_names_split c stubs) new) ]) (λ more. all_there stubs more n)
  where
    by : (b : Bool) → Contains acc n ⊎ Contains (cond b [] (c.name ∷ []) ++ map stub_name (own_classes stubs)) n
        → ((more : List (List ℕ)) → Contains more n ⊎ Contains (map stub_name (own_classes stubs)) n → Contains (with_own_names more stubs) n)
        → Contains (with_own_names (cond b acc (with_text acc c.name)) stubs) n
    by true k ih = ih acc k
    by false (inl k) ih = ih (with_text acc c.name) (inl (text_keeps acc c.name n k))
    by false (inr k) ih = elim (Contains-append_cases (c.name ∷ []) (map stub_name (own_classes stubs)) n k) [
      | inl one ↦ ih (with_text acc c.name) (inl (subst (Contains (with_text acc c.name)) (only_one c.name n one) (text_has acc c.name)))
      | inr other ↦ ih (with_text acc c.name) (inr other)
    ]

only_those : (stubs : List StubClass) (acc : List (List ℕ)) (n : List ℕ) → Contains (with_own_names acc stubs) n → Contains acc n ⊎ Contains (map stub_name (own_classes stubs)) n
only_those [] acc n h = inl h
only_those (c ∷ stubs) acc n h =
    elim (by c.is_patch h (λ more. only_those stubs more n)) [ inl old ↦ inl old | inr new ↦ inr (subst (λ (ns : List (List ℕ)). Contains ns n) (sym (own_names_split c stubs)) new) ]
  where
    by : (b : Bool) → Contains (with_own_names (cond b acc (with_text acc c.name)) stubs) n
        → ((more : List (List ℕ)) → Contains (with_own_names more stubs) n → Contains more n ⊎ Contains (map stub_name (own_classes stubs)) n)
        → Contains acc n ⊎ Contains (cond b [] (c.name ∷ []) ++ map stub_name (own_classes stubs)) n
    by true k ih = ih acc k
    by false k ih = elim (ih (with_text acc c.name) k) [
      | inl t ↦ elim (text_only acc c.name n t) [
        | inl old ↦ inl old
        | inr is ↦ inr (Contains-append_left (c.name ∷ []) (map stub_name (own_classes stubs)) n (contains_at (c.name ∷ []) 0 n (ap Some is)))
      ]
      | inr other ↦ inr (Contains-append_right (c.name ∷ []) (map stub_name (own_classes stubs)) n other)
    ]

pub texts_of_stubs : (texts : List (List ℕ)) (stubs : List StubClass) → texts ≡ with_own_names [] stubs → HasTextsOf texts (map stub_name (own_classes stubs))
texts_of_stubs texts stubs is = record {
  none = λ n absent has. absent (subst (λ (ts : List (List ℕ)). Contains ts n) (sym is) (all_there stubs [] n (inr has)));
  some = λ n has. elim (only_those stubs [] n (subst (λ (ts : List (List ℕ)). Contains ts n) is has)) [ inl h ↦ absurd (contains_none n h) | inr h ↦ h ];
}

-- ---- the claims on names of class files, one after the other

module _ (p : Program) (names earlier new : List (List ℕ)) (files : List NamedClass) (i : ℕ) (f : NamedClass) (lt : i < length files) (is : f ≡ get_or files i f)
    (left : Left p (file_claims names [] files) (file_claims names earlier (drop i files))) where
  at_file : Left p (file_claims names [] files) (claim f.file (this_class_offset f.class) (differs (earlier ++ names) (file_name f)) ∷ [] ++ file_claims names (earlier ++ file_name f ∷ []) (drop (i + 1) files))
  at_file = left_as p _ _ _ (ap (file_claims names earlier) (from_item files i f lt is)) left

  pub next_file : new ≡ earlier ++ file_name f ∷ [] → AreMet p (claim f.file (this_class_offset f.class) (differs (earlier ++ names) (file_name f)) ∷ [])
      → Left p (file_claims names [] files) (file_claims names new (drop (i + 1) files))
  next_file more met =
      left_as p _ _ _ (ap (λ (ns : List (List ℕ)). file_claims names ns (drop (i + 1) files)) (sym more)) (left_step p _ (claim f.file (this_class_offset f.class) (differs (earlier ++ names) (file_name f)) ∷ []) _ at_file met)

  pub stop_file : (Large : Type 0) (e : Failure LinkFault) → TellsEndOrLarge Large p (claim f.file (this_class_offset f.class) (differs (earlier ++ names) (file_name f)) ∷ []) e → TellsEndOrLarge Large p (file_claims names [] files) e
  stop_file Large e h = left_stop Large p _ (claim f.file (this_class_offset f.class) (differs (earlier ++ names) (file_name f)) ∷ []) _ e at_file h

-- ---- the claims on names of stubs, one after the other

stub_claims-append : (earlier : List (List ℕ)) (xs ys : List StubClass) → stub_claims earlier (xs ++ ys) ≡ stub_claims earlier xs ++ stub_claims (earlier ++ map stub_name xs) ys
stub_claims-append earlier [] ys = ap (λ (ns : List (List ℕ)). stub_claims ns ys) (sym (append-nil earlier))
stub_claims-append earlier (x ∷ xs) ys =
    ap (λ (cs : List Claim). claim x.file 0 (differs earlier x.name) ∷ cs)
    (stub_claims-append (earlier ++ x.name ∷ []) xs ys
    ∙ ap (λ (ns : List (List ℕ)). stub_claims (earlier ++ x.name ∷ []) xs ++ stub_claims ns ys) (append_assoc earlier (x.name ∷ []) (map stub_name xs)))

own_from_split : (source : StubSource) (c : StubClass) (stubs : List StubClass) → own_from source (c ∷ stubs) ≡ one_from source c ++ own_from source stubs
own_from_split source c stubs = by c.is_patch
  where
    kept : (b : Bool) → cond b (c ∷ own_from source stubs) (own_from source stubs) ≡ cond b (c ∷ []) [] ++ own_from source stubs
    kept true = refl
    kept false = refl

    by : (b : Bool) → filter (is_from source) (cond (not b) (c ∷ own_classes stubs) (own_classes stubs)) ≡ cond (not b && is_from source c) (c ∷ []) [] ++ own_from source stubs
    by true = refl
    by false = kept (is_from source c)

pub own_names_from_split : (source : StubSource) (c : StubClass) (stubs : List StubClass) → map stub_name (own_from source (c ∷ stubs)) ≡ map stub_name (one_from source c) ++ map stub_name (own_from source stubs)
own_names_from_split source c stubs = ap (map stub_name) (own_from_split source c stubs) ∙ map-append stub_name (one_from source c) (own_from source stubs)

module _ (p : Program) (source : StubSource) (first earlier new : List (List ℕ)) (stubs : List StubClass) (i : ℕ) (c : StubClass) (lt : i < length stubs) (is : c ≡ get_or stubs i c)
    (left : Left p (stub_claims first (own_from source stubs)) (stub_claims earlier (own_from source (drop i stubs)))) where
  abbrev rest : List StubClass
  rest = own_from source (drop (i + 1) stubs)

  at_stub : Left p (stub_claims first (own_from source stubs)) (stub_claims earlier (one_from source c) ++ stub_claims (earlier ++ map stub_name (one_from source c)) rest)
  at_stub =
      left_as p _ _ _
      (ap (λ (cs : List StubClass). stub_claims earlier (own_from source cs)) (from_item stubs i c lt is)
      ∙ ap (stub_claims earlier) (own_from_split source c (drop (i + 1) stubs))
      ∙ stub_claims-append earlier (one_from source c) rest) left

  pub next_stub : new ≡ earlier ++ map stub_name (one_from source c) → AreMet p (stub_claims earlier (one_from source c)) → Left p (stub_claims first (own_from source stubs)) (stub_claims new rest)
  next_stub more met = left_as p _ _ _ (ap (λ (ns : List (List ℕ)). stub_claims ns rest) (sym more)) (left_step p _ (stub_claims earlier (one_from source c)) _ at_stub met)

  pub stop_stub : (Large : Type 0) (e : Failure LinkFault) → TellsEndOrLarge Large p (stub_claims earlier (one_from source c)) e → TellsEndOrLarge Large p (stub_claims first (own_from source stubs)) e
  stop_stub Large e h = left_stop Large p _ (stub_claims earlier (one_from source c)) _ e at_stub h

-- ---- first those that are there from the start, and then those of the user's files

module _ (p : Program) (stubs : List StubClass) (none : List (List ℕ)) (empty : none ≡ []) where
  abbrev base : List StubClass
  base = own_from Base stubs

  abbrev user : List StubClass
  user = own_from User stubs

  both : stub_claims none base ++ stub_claims (none ++ map stub_name base) user ≡ stub_claims [] (base_first (own_classes stubs))
  both = ap (λ (ns : List (List ℕ)). stub_claims ns base ++ stub_claims (ns ++ map stub_name base) user) empty ∙ sym (stub_claims-append [] base user)

  pub base_stop : (Large : Type 0) (e : Failure LinkFault) → TellsEndOrLarge Large p (stub_claims none base) e → TellsEndOrLarge Large p (stub_claims [] (base_first (own_classes stubs))) e
  base_stop Large e h = subst (λ (cs : List Claim). TellsEndOrLarge Large p cs e) both (end_front Large p (stub_claims none base) (stub_claims (none ++ map stub_name base) user) e h)

  pub user_told : {X : Type 0} (Large : Type 0) (earlier : List (List ℕ)) (r : Result X (Failure LinkFault)) → earlier ≡ none ++ map stub_name base → AreMet p (stub_claims none base) → TellsClaimsOrLarge Large p (stub_claims earlier user) r
      → TellsClaimsOrLarge Large p (stub_claims [] (base_first (own_classes stubs))) r
  user_told Large earlier r is met h =
      subst (λ (cs : List Claim). TellsClaimsOrLarge Large p cs r) both
      (tells_back Large p (stub_claims none base) (stub_claims (none ++ map stub_name base) user) r met (subst (λ (ns : List (List ℕ)). TellsClaimsOrLarge Large p (stub_claims ns user) r) is h))
