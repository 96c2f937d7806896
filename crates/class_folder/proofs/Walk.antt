-- The walk over the names of the listing: those before are read, and the first that is refused is in its place.
use Rattle.std.proofs.Common.{◌≡◌, ℕ, suc, zero, ◌+◌, ◌<◌, ◌≤◌, Bool, true, false, cond, List, [], ◌∷◌, ◌++◌, length, take, drop, get_or, slice_get, map}
use Rattle.std.proofs.Common.{find, Option, Some, None, IfSome, option_map, Contains, String, Global, string_bytes, All, ◌⊎◌, inl, inr, refl, sym, ap}
use Rattle.std.proofs.Common.{◌∙◌, subst, arith}
use Rattle.std.specs.Str.{bytes_eq}
use Rattle.std.proofs.lemmas.Bool.{false≢true}
use Rattle.std.proofs.lemmas.List.{take-append-drop, drop_more, map-id, map-append}
use Rattle.std.proofs.lemmas.List.Elements.{Contains-append_right, Contains-get_or}
use Rattle.std.proofs.lemmas.List.Sorted.{Contains-permutation, IsPermutation-sym}
use Rattle.std.proofs.lemmas.Option.{slice_get-get_or, same_Some, none-some}
use Rattle.std.proofs.lemmas.Slice.Eq.{bytes_eq-Decides}
use Rattle.ts_outside.specs.Files.{File, file_at, class_names, is_class_name, IsListing}
use Rattle.failure.specs.declared.Failure.{Failure}
use Rattle.failure.specs.declared.Failure.TheVariants.{Cause, OutOfMemory}
use Rattle.jvm_model.specs.declared.program.NamedClass.{NamedClass}
use Rattle.jvm_model.specs.Soundness.{IsChecked}
use Rattle.class_folder.specs.declared.fault.FolderFault.{FolderFault}
use Rattle.class_folder.specs.declared.fault.FolderFault.TheVariants.{Refused, Missing, Unreadable}
use Rattle.class_folder.specs.ClassFiles.{AreClassFiles, IsFolderFailure, IsRefusedAfter, one_file, most_bytes_together}
use Rattle.class_folder.specs.Reading.{AreListed, IsNextFailure, IsReadNext, IsReadSoFar}
use Rattle.class_folder.proofs.Options.{if_some, at_some}

-- What is known in the walk: what was read of the files at its start, and that nothing of the tree changed but its count.
pub record HasRead (start now : Option (List File)) (faults count : ℕ) (done : List (String Global)) (classes : List NamedClass) (size : ℕ) : Type 0 where
  pub so_far : IfSome start (λ files. IsReadSoFar files (map (string_bytes {Z = Global}) done) classes size)
  pub sound : All (λ (c : NamedClass). IsChecked c.class) classes
  pub room : size ≤ most_bytes_together
  pub same_files : now ≡ start
  pub no_fault : count ≡ faults

-- ---- none that is listed is missing

first_of_none : (b : Bool) (f : File) (rest : Option File) → option_map (λ (x : File). x.bytes) (cond b (Some f) rest) ≡ None
    → (b ≡ false) × (option_map (λ (x : File). x.bytes) rest ≡ None)
first_of_none true f rest e = cc
first_of_none false f rest e = (refl, e)

kept_at : (b : Bool) (x : List ℕ) (xs : List (List ℕ)) (k : ℕ) (y : List ℕ) → slice_get (cond b (x ∷ xs) xs) k ≡ Some y
    → (x ≡ y) ⊎ ((j : ℕ) × (slice_get xs j ≡ Some y))
kept_at true x xs zero y e = inl (same_Some _ _ e)
kept_at true x xs (suc k) y e = inr (k, e)
kept_at false x xs k y e = inr (k, e)

-- No class file has the name of a file that is not held.
none_named : (files : List File) (name : List ℕ) (k : ℕ) → file_at files name ≡ None → slice_get (class_names files) k ≡ Some name → ⊥
none_named [] name k none at = none-some name at
none_named (f ∷ files) name k none at =
    let n = first_of_none (bytes_eq f.name name) f (find (λ (x : File). bytes_eq x.name name) files) none in
    elim (kept_at (is_class_name f.name) f.name (class_names files) k name at) [
      | inl same ↦ false≢true (sym n.0 ∙ (bytes_eq-Decides f.name name).1 same)
      | inr later ↦ none_named files name later.0 n.1 later.1
    ]

-- A name that is listed is held.
listed_is_held : (files : List File) (names : List (List ℕ)) (name : List ℕ) → IsListing files names → Contains names name → file_at files name ≡ None → ⊥
listed_is_held files names name listing there none =
    let among = Contains-permutation names (class_names files) name (IsPermutation-sym (class_names files) names listing.each) there in
    none_named files name among.0 none (slice_get-get_or (class_names files) among.0 name among.1 ∙ ap Some among.2)

-- ---- the first that is refused

contains_middle : (before : List (List ℕ)) (name : List ℕ) (after : List (List ℕ)) → Contains (before ++ name ∷ after) name
contains_middle before name after = Contains-append_right before (name ∷ after) name (Contains-get_or (name ∷ after) 0 name (omega arith))

-- The whole list, about the item that comes next.
pub at_turn : {X : Type 0} (all done : List X) (x : X) → map (λ (y : X). y) done ≡ take (length done) all
    → (length done < length all) × (x ≡ get_or all (length done) x)
    → all ≡ done ++ x ∷ drop (length done + 1) all
at_turn all done x front (lt, is) =
    sym (take-append-drop (length done) all)
    ∙ ((λ i. (sym front ∙ map-id done) i ++ drop_more all (length done) x lt i) ∙ ap (λ y. done ++ y ∷ drop (length done + 1) all) (sym is))

folder_failure : (files : List File) (names before : List (List ℕ)) (name : List ℕ) (after : List (List ℕ)) (classes : List NamedClass) (size : ℕ)
    (failure : Failure FolderFault)
    → AreListed files names → names ≡ before ++ name ∷ after → IsReadSoFar files before classes size → IsNextFailure files name size failure
    → IsFolderFailure files failure
folder_failure files names before name after classes size (Cause (Refused r)) listed stands so_far h =
    one_file (record {
      names = names;
      listing = listed.listing;
      number = listed.number;
      before = before;
      after = after;
      stands = stands ∙ ap (λ (x : List ℕ). before ++ x ∷ after) (sym h.0);
      classes = classes;
      read = so_far.read;
      refused = subst (λ (x : List ℕ). IsRefusedAfter files before x r.offset r.reason) (sym h.0) (h.1 before so_far.size_is);
    })
folder_failure files names before name after classes size (Cause (Missing other)) listed stands so_far h =
    listed_is_held files names name listed.listing (subst (λ (xs : List (List ℕ)). Contains xs name) (sym stands) (contains_middle before name after)) h
folder_failure files names before name after classes size (Cause Unreadable) listed stands so_far h = tt
folder_failure files names before name after classes size OutOfMemory listed stands so_far h = tt

-- The listing is named by texts.
pub names_at_turn : (all done rest : List (String Global)) (name : String Global) → all ≡ done ++ name ∷ rest
    → map (string_bytes {Z = Global}) all ≡ map (string_bytes {Z = Global}) done ++ string_bytes name ∷ map (string_bytes {Z = Global}) rest
names_at_turn all done rest name is = ap (map (string_bytes {Z = Global})) is ∙ map-append (string_bytes {Z = Global}) done (name ∷ rest)

pub fails_at : (start now : Option (List File)) (faults count : ℕ) (all done rest : List (String Global)) (name : String Global) (classes : List NamedClass)
    (size : ℕ) (failure : Failure FolderFault)
    → IfSome start (λ files. AreListed files (map (string_bytes {Z = Global}) all)) → all ≡ done ++ name ∷ rest
    → HasRead start now faults count done classes size
    → IfSome now (λ files. IsNextFailure files (string_bytes name) size failure) → IfSome start (λ files. IsFolderFailure files failure)
fails_at start now faults count all done rest name classes size failure listed is read h =
    if_some start (λ files. IsFolderFailure files failure)
    (λ files e. folder_failure files (map (string_bytes {Z = Global}) all) (map (string_bytes {Z = Global}) done) (string_bytes name)
    (map (string_bytes {Z = Global}) rest) classes size failure
    (at_some start (λ files. AreListed files (map (string_bytes {Z = Global}) all)) files e listed) (names_at_turn all done rest name is)
    (at_some start (λ files. IsReadSoFar files (map (string_bytes {Z = Global}) done) classes size) files e read.so_far)
    (at_some now (λ files. IsNextFailure files (string_bytes name) size failure) files (read.same_files ∙ e) h))

-- ---- one more, and all of them

pub reads_one_more : (start now after : Option (List File)) (faults count more : ℕ) (done : List (String Global)) (name : String Global)
    (old new : List NamedClass) (size sum : ℕ)
    → HasRead start now faults count done old size → IfSome now (λ files. IsReadNext files (string_bytes name) old size new sum)
    → (All (λ (c : NamedClass). IsChecked c.class) old → All (λ (c : NamedClass). IsChecked c.class) new) → sum ≤ most_bytes_together → after ≡ now
    → more ≡ count
    → HasRead start after faults more (done ++ name ∷ []) new sum
reads_one_more start now after faults count more done name old new size sum read next sound room same unfailing = record {
  so_far = if_some start (λ files. IsReadSoFar files (map (string_bytes {Z = Global}) (done ++ name ∷ [])) new sum)
      (λ files e. subst (λ (xs : List (List ℕ)). IsReadSoFar files xs new sum) (sym (map-append (string_bytes {Z = Global}) done (name ∷ [])))
      ((at_some now (λ files. IsReadNext files (string_bytes name) old size new sum) files (read.same_files ∙ e) next).next
      (map (string_bytes {Z = Global}) done)
      (at_some start (λ files. IsReadSoFar files (map (string_bytes {Z = Global}) done) old size) files e read.so_far)));
  sound = sound read.sound;
  room = room;
  same_files = same ∙ read.same_files;
  no_fault = unfailing ∙ read.no_fault;
}

pub reads_all : (start now : Option (List File)) (faults count : ℕ) (all done : List (String Global)) (classes : List NamedClass) (size : ℕ)
    → IfSome start (λ files. AreListed files (map (string_bytes {Z = Global}) all)) → map (λ (y : String Global). y) done ≡ all
    → HasRead start now faults count done classes size
    → IfSome start (λ files. AreClassFiles files classes)
reads_all start now faults count all done classes size listed is read =
    if_some start (λ files. AreClassFiles files classes)
    (λ files e. let l = at_some start (λ files. AreListed files (map (string_bytes {Z = Global}) all)) files e listed in
    let so_far = at_some start (λ files. IsReadSoFar files (map (string_bytes {Z = Global}) done) classes size) files e read.so_far in
    let whole : done ≡ all = sym (map-id done) ∙ is in
    let at_all = subst (λ (xs : List (String Global)). IsReadSoFar files (map (string_bytes {Z = Global}) xs) classes size) whole so_far in
    record { names = map (string_bytes {Z = Global}) all; listing = l.listing; number = l.number; read = at_all.read })
