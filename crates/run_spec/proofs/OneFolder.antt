-- The class files of a folder are one list, in files of different names; or one thing is refused, and then there are none.
use Rattle.std.proofs.Common.{◌≡◌, ◌≢◌, ◌⊎◌, inl, inr, ◌∙◌, ℕ, zero, suc, ◌+◌, ◌<◌, ◌≤◌, Bool, true, false, cond, not, ◌||◌, List, [], ◌∷◌, ◌++◌, length, map, filter, fold, get_or, Some, Contains, AllPairs, IsPermutation, IsSorted, nat_cmp, bytes_eq, refl, sym, subst, arith, append_assoc}
use Rattle.std.specs.Cmp.Lexicographic.{slice_cmp}
use Rattle.std.specs.List.{AllZip, list_any}
use Rattle.std.proofs.lemmas.Bool.{and_parts}
use Rattle.std.proofs.lemmas.List.{map-id}
use Rattle.std.proofs.lemmas.List.Sorted.{sum_by-IsPermutation}
use Rattle.std.proofs.lemmas.List.Sums.{sum_by-cons, fold-append}
use Rattle.std.proofs.lemmas.Option.{same_Some}
use Rattle.std.proofs.lemmas.Slice.Eq.{bytes_eq-Decides}
use Rattle.ts_outside.specs.Files.{File, file_at, class_names, is_class_name, names_differ, IsListing}
use Rattle.jvm_model.specs.declared.program.NamedClass.{NamedClass}
use Rattle.jvm_model.specs.declared.reason.Reason.{Reason}
use Rattle.jvm_model.specs.declared.reason.Refusal.{Refusal}
use Rattle.classfile_reader.specs.ClassReading.{SpellsReadable}
use Rattle.classfile_reader.specs.Faults.{IsFaulty}
use Rattle.classfile_reader.proofs.OneSpelling.{one_spelling}
use Rattle.classfile_reader.proofs.Refusals.{faulty_or_sound, one_fault}
use Rattle.class_folder.specs.ClassFiles.{AreClassFiles, AreRead, AreTooMany, IsClassFile, IsFirstRefused, IsRefusedAfter, by_fault, by_size, by_sum, IsRefusedFolder, one_file, too_many, bytes_of, size_of, most_files, most_bytes, most_bytes_together}
use Rattle.program_laws.proofs.Orders.{AreOnce, count_of, counted_elsewhere, counted_here, first_there, more_there, one_order, this_or_other, where_there, none_there}
use Rattle.run_spec.specs.Inputs.{HaveDifferentNames}

-- ---- names that differ

abbrev one_if : Bool → ℕ
one_if b = cond b 1 0

counted : (q n : List ℕ) (names : List (List ℕ)) → count_of q (n ∷ names) ≡ one_if (bytes_eq n q) + count_of q names
counted q n names = sum_by-cons (λ (m : List ℕ). one_if (bytes_eq m q)) n names

neither : (a b : Bool) → (a || b) ≡ false → (a ≡ false) × (b ≡ false)
neither true b e = absurd cc
neither false b e = (refl, e)

is_false : (b : Bool) → not b ≡ true → b ≡ false
is_false true e = absurd cc
is_false false e = refl

-- a name that is none of the names is not counted
not_counted : (n : List ℕ) (names : List (List ℕ)) → list_any (bytes_eq n) names ≡ false → count_of n names ≡ 0
not_counted n [] e = refl
not_counted n (m ∷ names) e = by (this_or_other m n) (not_counted n names parts.1)
  where
    parts : (bytes_eq n m ≡ false) × (list_any (bytes_eq n) names ≡ false)
    parts = neither (bytes_eq n m) (list_any (bytes_eq n) names) e

    by : (m ≡ n) ⊎ (bytes_eq m n ≡ false) → count_of n names ≡ 0 → count_of n (m ∷ names) ≡ 0
    by (inl is) none = absurd (let here : bytes_eq n m ≡ true = (bytes_eq-Decides n m).1 (sym is) in let other : bytes_eq n m ≡ false = parts.0 in cc)
    by (inr other) none = counted_elsewhere n m names other ∙ none

once_from_differ : (names : List (List ℕ)) → names_differ names ≡ true → AreOnce names
once_from_differ [] e = record { once = λ q. omega arith }
once_from_differ (n ∷ names) e = by (once_from_differ names parts.1)
  where
    parts : (not (list_any (bytes_eq n) names) ≡ true) × (names_differ names ≡ true)
    parts = and_parts (not (list_any (bytes_eq n) names)) (names_differ names) e

    by : AreOnce names → AreOnce (n ∷ names)
    by rest = record { once = λ q. few q (this_or_other n q) }
      where
        few : (q : List ℕ) → (n ≡ q) ⊎ (bytes_eq n q ≡ false) → count_of q (n ∷ names) ≤ 1
        few q (inl is) =
            let none = subst (λ (m : List ℕ). count_of m names ≡ 0) is (not_counted n names (is_false (list_any (bytes_eq n) names) parts.0)) in
            let here = counted_here q n names is in
            omega arith
        few q (inr other) = let elsewhere = counted_elsewhere q n names other in let one = rest.once q in omega arith

-- fewer names are there where some are left out
fewer_filtered : (q : List ℕ) (test : List ℕ → Bool) (names : List (List ℕ)) → count_of q (filter test names) ≤ count_of q names
fewer_filtered q test [] = omega arith
fewer_filtered q test (n ∷ names) = by (test n) (fewer_filtered q test names)
  where
    by : (b : Bool) → count_of q (filter test names) ≤ count_of q names
        → count_of q (cond b (n ∷ filter test names) (filter test names)) ≤ count_of q (n ∷ names)
    by true less = let kept = counted q n (filter test names) in let all = counted q n names in omega arith
    by false less = let all = counted q n names in omega arith

once_filtered : (test : List ℕ → Bool) (names : List (List ℕ)) → AreOnce names → AreOnce (filter test names)
once_filtered test names once = record { once = λ q. let few = fewer_filtered q test names in let one = once.once q in omega arith }

once_moved : (names others : List (List ℕ)) → IsPermutation names others → AreOnce names → AreOnce others
once_moved names others moved once = record {
  once = λ q.
      let same = sum_by-IsPermutation (λ (n : List ℕ). one_if (bytes_eq n q)) names others moved in
      let few = once.once q in
      omega arith;
}

-- where each name is there once, no two items have one name
count_there : (q : List ℕ) (names : List (List ℕ)) → Contains names q → 1 ≤ count_of q names
count_there q [] there = absurd (none_there q there)
count_there q (n ∷ names) there = by (count_there q names) (where_there n q names there)
  where
    by : (Contains names q → 1 ≤ count_of q names) → (n ≡ q) ⊎ Contains names q → 1 ≤ count_of q (n ∷ names)
    by later (inl is) = let one = counted_here q n names is in omega arith
    by later (inr there2) = let some = later there2 in let all = counted q n names in omega arith

name_there : {X : Type 0} (key : X → List ℕ) (xs : List X) (k : ℕ) (d : X) → k < length xs → Contains (map key xs) (key (get_or xs k d))
name_there key [] k d lt = absurd (omega arith)
name_there key (x ∷ xs) zero d lt = first_there (key x) (map key xs)
name_there key (x ∷ xs) (suc k) d lt = more_there (key x) (key (get_or xs k d)) (map key xs) (name_there key xs k d (omega arith))

pairs_differ : {X : Type 0} (key : X → List ℕ) (xs : List X) → AreOnce (map key xs) → AllPairs (λ x y. key x ≢ key y) xs
pairs_differ key [] once i j d lt lt2 = absurd (omega arith)
pairs_differ key (x ∷ xs) once i zero d lt lt2 = absurd (omega arith)
pairs_differ {X = X} key (x ∷ xs) once zero (suc k) d lt lt2 =
    λ same.
    let name = key (get_or xs k d) in
    let twice = count_there name (map key xs) (name_there key xs k d (omega arith)) in
    let first = counted_here name (key x) (map key xs) same in
    let one = once.once name in
    absurd (omega arith)
pairs_differ key (x ∷ xs) once (suc i) (suc j) d lt lt2 =
    let rest : AreOnce (map key xs) = record { once = λ q. let all = counted q (key x) (map key xs) in let one = once.once q in omega arith } in
    pairs_differ key xs rest i j d (omega arith) (omega arith)

-- ---- the listing

module _ (files : List File) (differ : HaveDifferentNames files) where
  once_named : AreOnce (class_names files)
  once_named = once_filtered is_class_name (map (λ (f : File). f.name) files) (once_from_differ (map (λ (f : File). f.name) files) differ)

  -- a tree has one listing
  listing_same : (names others : List (List ℕ)) → IsListing files names → IsListing files others → names ≡ others
  listing_same names others x y =
      one_order (λ (n : List ℕ). n) (class_names files) names others
      (subst AreOnce (sym (map-id (class_names files))) once_named) x.each y.each
      (subst (IsSorted (slice_cmp nat_cmp)) (sym (map-id names)) x.order)
      (subst (IsSorted (slice_cmp nat_cmp)) (sym (map-id others)) y.order)

  once_listed : (names : List (List ℕ)) → IsListing files names → AreOnce names
  once_listed names x = once_moved (class_names files) names x.each once_named

-- ---- files that are read

module _ (files : List File) where
  bytes_same : (name b c : List ℕ) → file_at files name ≡ Some b → file_at files name ≡ Some c → b ≡ c
  bytes_same name b c x y = same_Some b c (sym x ∙ y)

  class_same : (name : List ℕ) (c d : NamedClass) → IsClassFile files name c → IsClassFile files name d → c ≡ d
  class_same name c d x y =
      let here = subst (λ (b : List ℕ). SpellsReadable b c.class) (bytes_same name x.bytes y.bytes x.held y.held) x.spelled in
      let class : c.class ≡ d.class = one_spelling y.bytes c.class d.class here.spelling y.spelled.spelling in
      let file : c.file ≡ d.file = x.file ∙ sym y.file in
      (λ i. record { file = file i; class = class i })

  classes_same : (names : List (List ℕ)) (xs ys : List NamedClass) → AllZip (IsClassFile files) names xs → AllZip (IsClassFile files) names ys → xs ≡ ys
  classes_same [] [] [] h k = refl
  classes_same [] [] (y ∷ ys) h k = absurd k
  classes_same [] (x ∷ xs) ys h k = absurd h
  classes_same (n ∷ names) [] ys h k = absurd h
  classes_same (n ∷ names) (x ∷ xs) [] h k = absurd k
  classes_same (n ∷ names) (x ∷ xs) (y ∷ ys) h k =
      let here = class_same n x y h.0 k.0 in
      let rest = classes_same names xs ys h.1 k.1 in
      (λ i. here i ∷ rest i)

  named_so : (names : List (List ℕ)) (xs : List NamedClass) → AllZip (IsClassFile files) names xs → names ≡ map (λ (c : NamedClass). c.file) xs
  named_so [] [] h = refl
  named_so [] (x ∷ xs) h = absurd h
  named_so (n ∷ names) [] h = absurd h
  named_so (n ∷ names) (x ∷ xs) h =
      let rest = named_so names xs h.1 in
      let here = sym h.0.file in
      (λ i. here i ∷ rest i)

  -- the class file of a name in the middle
  read_at : (before after : List (List ℕ)) (name : List ℕ) (xs : List NamedClass) → AllZip (IsClassFile files) (before ++ name ∷ after) xs
      → (c : NamedClass) × IsClassFile files name c
  read_at [] after name [] h = absurd h
  read_at [] after name (x ∷ xs) h = (x, h.0)
  read_at (b ∷ before) after name [] h = absurd h
  read_at (b ∷ before) after name (x ∷ xs) h = read_at before after name xs h.1

  -- ---- how large they are

  size_grows : (names : List (List ℕ)) (n : ℕ) → n ≤ fold (λ size (name : List ℕ). size + length (bytes_of files name)) n names
  size_grows [] n = omega arith
  size_grows (x ∷ xs) n = let rest = size_grows xs (n + length (bytes_of files x)) in omega arith

  size_front : (names others : List (List ℕ)) → size_of files names ≤ size_of files (names ++ others)
  size_front names others =
      let whole = fold-append (λ (size : ℕ) (name : List ℕ). size + length (bytes_of files name)) 0 names others in
      subst (λ (n : ℕ). size_of files names ≤ n) (sym whole) (size_grows others (size_of files names))

  size_to : (before after : List (List ℕ)) (name : List ℕ) → size_of files (before ++ name ∷ []) ≤ size_of files (before ++ name ∷ after)
  size_to before after name =
      subst (λ (names : List (List ℕ)). size_of files (before ++ name ∷ []) ≤ size_of files names) (append_assoc before (name ∷ []) after)
      (size_front (before ++ name ∷ []) after)

  -- ---- refusals

  above : (limit n m : ℕ) → limit < n → n ≤ m → m ≤ limit → ⊥
  above limit n m over up within = omega arith

  -- what is read is not refused
  read_or_refused : (before after : List (List ℕ)) (name : List ℕ) (classes : List NamedClass) (offset : ℕ) (reason : Reason)
      → AreRead files (before ++ name ∷ after) classes
      → IsRefusedAfter files before name offset reason → ⊥
  read_or_refused before after name classes offset reason read (by_size bytes held large faulty) =
      let c = read_at before after name classes read.each in
      let here = subst (λ (b : List ℕ). SpellsReadable b c.0.class) (bytes_same name c.1.bytes bytes c.1.held held) c.1.spelled in
      faulty_or_sound bytes offset reason c.0.class faulty here c.1.sound
  read_or_refused before after name classes offset reason read (by_sum bytes held few over at why) =
      above most_bytes_together (size_of files (before ++ name ∷ [])) (size_of files (before ++ name ∷ after)) over (size_to before after name) read.size
  read_or_refused before after name classes offset reason read (by_fault bytes held few within faulty) =
      let c = read_at before after name classes read.each in
      let here = subst (λ (b : List ℕ). SpellsReadable b c.0.class) (bytes_same name c.1.bytes bytes c.1.held held) c.1.spelled in
      faulty_or_sound bytes offset reason c.0.class faulty here c.1.sound

  module _ (before : List (List ℕ)) (name : List ℕ) (o p : ℕ) (a b : Reason) where
    fault_same : (x y : List ℕ) → file_at files name ≡ Some x → file_at files name ≡ Some y → IsFaulty x o a → IsFaulty y p b → (o ≡ p) × (a ≡ b)
    fault_same x y held held2 faulty faulty2 =
        one_fault y o p a b (subst (λ (bytes : List ℕ). IsFaulty bytes o a) (bytes_same name x y held held2) faulty) faulty2

    large_or_small : (x y : List ℕ) → file_at files name ≡ Some x → file_at files name ≡ Some y → most_bytes < length x → length y ≤ most_bytes → ⊥
    large_or_small x y held held2 large few =
        above most_bytes (length x) (length x) large (omega arith) (subst (λ (bytes : List ℕ). length bytes ≤ most_bytes) (bytes_same name y x held2 held) few)

    over_or_within : most_bytes_together < size_of files (before ++ name ∷ []) → size_of files (before ++ name ∷ []) ≤ most_bytes_together → ⊥
    over_or_within over within = above most_bytes_together (size_of files (before ++ name ∷ [])) (size_of files (before ++ name ∷ [])) over (omega arith) within

    -- a file is refused for one thing
    reason_same : IsRefusedAfter files before name o a → IsRefusedAfter files before name p b → (o ≡ p) × (a ≡ b)
    reason_same (by_size x held large faulty) (by_size y held2 large2 faulty2) = fault_same x y held held2 faulty faulty2
    reason_same (by_size x held large faulty) (by_sum y held2 few over at why) = absurd (large_or_small x y held held2 large few)
    reason_same (by_size x held large faulty) (by_fault y held2 few within faulty2) = absurd (large_or_small x y held held2 large few)
    reason_same (by_sum x held few over at why) (by_size y held2 large faulty) = absurd (large_or_small y x held2 held large few)
    reason_same (by_sum x held few over at why) (by_sum y held2 few2 over2 at2 why2) = (at ∙ sym at2, why ∙ sym why2)
    reason_same (by_sum x held few over at why) (by_fault y held2 few2 within faulty) = absurd (over_or_within over within)
    reason_same (by_fault x held few within faulty) (by_size y held2 large faulty2) = absurd (large_or_small y x held2 held large few)
    reason_same (by_fault x held few within faulty) (by_sum y held2 few2 over at why) = absurd (over_or_within over within)
    reason_same (by_fault x held few within faulty) (by_fault y held2 few2 within2 faulty2) = fault_same x y held held2 faulty faulty2

-- ---- places in a list

-- Of two places in a list both are one, or the one stands before the other.
data Places {X : Type 0} (a b : List X) (x y : X) : Type 0 where
  together : a ≡ b → x ≡ y → Places a b x y
  earlier : (mid : List X) → b ≡ a ++ x ∷ mid → Places a b x y
  later : (mid : List X) → a ≡ b ++ y ∷ mid → Places a b x y

heads_same : {X : Type 0} (x y : X) (xs ys : List X) → x ∷ xs ≡ y ∷ ys → (x ≡ y) × (xs ≡ ys)
heads_same x y xs ys e = (cc, cc)

placed : {X : Type 0} (a b : List X) (x y : X) (left right : List X) → a ++ x ∷ left ≡ b ++ y ∷ right → Places a b x y
placed [] [] x y left right e = together refl (heads_same x y left right e).0
placed [] (z ∷ b) x y left right e = let head = sym (heads_same x z left (b ++ y ∷ right) e).0 in earlier b (λ i. head i ∷ b)
placed (z ∷ a) [] x y left right e = let head = (heads_same z y (a ++ x ∷ left) right e).0 in later a (λ i. head i ∷ a)
placed {X = X} (z ∷ a) (w ∷ b) x y left right e = by (placed a b x y left right both.1)
  where
    both : (z ≡ w) × (a ++ x ∷ left ≡ b ++ y ∷ right)
    both = heads_same z w (a ++ x ∷ left) (b ++ y ∷ right) e

    by : Places a b x y → Places (z ∷ a) (w ∷ b) x y
    by (together fronts is) = together (λ i. both.0 i ∷ fronts i) is
    by (earlier mid is) = earlier mid (λ i. sym both.0 i ∷ is i)
    by (later mid is) = later mid (λ i. both.0 i ∷ is i)

-- ---- the folder

module _ (files : List File) (differ : HaveDifferentNames files) where
  pub AreClassFiles-same : (xs ys : List NamedClass) → AreClassFiles files xs → AreClassFiles files ys → xs ≡ ys
  AreClassFiles-same xs ys x y =
      let names = listing_same files differ x.names y.names x.listing y.listing in
      classes_same files y.names xs ys (subst (λ (ns : List (List ℕ)). AllZip (IsClassFile files) ns xs) names x.read.each) y.read.each

  pub files_differ : (xs : List NamedClass) → AreClassFiles files xs → AllPairs (λ f g. f.file ≢ g.file) xs
  files_differ xs x =
      pairs_differ (λ (c : NamedClass). c.file) xs (subst AreOnce (named_so files x.names xs x.read.each) (once_listed files differ x.names x.listing))

  -- there are not both too many files and few enough
  many_or_few : (names others : List (List ℕ)) → IsListing files names → IsListing files others → most_files < length names → length others ≤ most_files → ⊥
  many_or_few names others x y many few =
      above files most_files (length names) (length names) many (omega arith)
      (subst (λ (ns : List (List ℕ)). length ns ≤ most_files) (listing_same files differ others names y x) few)

  refused_apart : (x : Refusal) (classes : List NamedClass) (r : IsFirstRefused files x) (mid before : List (List ℕ)) → before ≡ r.before ++ x.file ∷ mid
      → AreRead files before classes → ⊥
  refused_apart x classes r mid before is read =
      read_or_refused files r.before mid x.file classes x.offset x.reason (subst (λ (ns : List (List ℕ)). AreRead files ns classes) is read) r.refused

  first_same : (x y : Refusal) → IsFirstRefused files x → IsFirstRefused files y → x ≡ y
  first_same x y r q =
      by (placed r.before q.before x.file y.file r.after q.after (sym r.stands ∙ listing_same files differ r.names q.names r.listing q.listing ∙ q.stands))
    where
      by : Places r.before q.before x.file y.file → x ≡ y
      by (earlier mid is) = absurd (refused_apart x q.classes r mid q.before is q.read)
      by (later mid is) = absurd (refused_apart y r.classes q mid r.before is r.read)
      by (together fronts is) =
          let here = subst (λ (name : List ℕ). IsRefusedAfter files q.before name x.offset x.reason) is
          (subst (λ (before : List (List ℕ)). IsRefusedAfter files before x.file x.offset x.reason) fronts r.refused) in
          let both = reason_same files q.before y.file x.offset y.offset x.reason y.reason here q.refused in
          (λ i. record { file = is i; offset = both.0 i; reason = both.1 i })

  many_same : (x y : Refusal) → AreTooMany files x → AreTooMany files y → x ≡ y
  many_same x y r q =
      let file : x.file ≡ y.file = r.file ∙ sym q.file in
      let offset : x.offset ≡ y.offset = r.offset ∙ sym q.offset in
      let reason : x.reason ≡ y.reason = r.reason ∙ sym q.reason in
      (λ i. record { file = file i; offset = offset i; reason = reason i })

  pub IsRefusedFolder-same : (x y : Refusal) → IsRefusedFolder files x → IsRefusedFolder files y → x ≡ y
  IsRefusedFolder-same x y (too_many r) (too_many q) = many_same x y r q
  IsRefusedFolder-same x y (too_many r) (one_file q) = absurd (many_or_few r.names q.names r.listing q.listing r.number q.number)
  IsRefusedFolder-same x y (one_file r) (too_many q) = absurd (many_or_few q.names r.names q.listing r.listing q.number r.number)
  IsRefusedFolder-same x y (one_file r) (one_file q) = first_same x y r q

  pub classes_or_refused : (xs : List NamedClass) (y : Refusal) → AreClassFiles files xs → IsRefusedFolder files y → ⊥
  classes_or_refused xs y x (too_many q) = many_or_few q.names x.names q.listing x.listing q.number x.number
  classes_or_refused xs y x (one_file q) =
      let names = listing_same files differ x.names q.names x.listing q.listing ∙ q.stands in
      read_or_refused files q.before q.after y.file xs y.offset y.reason (subst (λ (ns : List (List ℕ)). AreRead files ns xs) names x.read) q.refused
