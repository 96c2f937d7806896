-- From the front of a file that was read to the file: it is the class file, or it is refused.
use Rattle.std.proofs.Common.{◌≡◌, ℕ, ◌+◌, ◌<◌, ◌≤◌, List, [], ◌∷◌, ◌++◌, length, take, Option, Some, None, IfSome, option_map, unwrap_or, inl, inr, refl}
use Rattle.std.proofs.Common.{sym, ap, ◌∙◌, subst, arith}
use Rattle.std.proofs.lemmas.Bool.{cases_lt}
use Rattle.std.proofs.lemmas.List.{take_all, length-take}
use Rattle.std.proofs.lemmas.List.Sums.{fold-append}
use Rattle.std.proofs.lemmas.Slice.Zip.{all_zipped_more}
use Rattle.std.specs.List.{AllZip}
use Rattle.ts_outside.specs.Files.{File, file_at}
use Rattle.failure.specs.declared.Failure.{Failure}
use Rattle.failure.specs.declared.Failure.TheVariants.{Cause, OutOfMemory}
use Rattle.jvm_model.specs.declared.program.NamedClass.{NamedClass}
use Rattle.jvm_model.specs.declared.reason.Fault.{Fault}
use Rattle.jvm_model.specs.declared.reason.Reason.{Reason}
use Rattle.classfile_reader.specs.Faults.{IsClassFileRefusal, IsFaulty}
use Rattle.classfile_reader.proofs.Refusals.{faulty_cut}
use Rattle.class_folder.specs.declared.fault.FolderFault.{FolderFault}
use Rattle.class_folder.specs.declared.fault.FolderFault.TheVariants.{Refused, Missing, Unreadable}
use Rattle.class_folder.specs.ClassFiles.{IsClassFile, IsRefusedAfter, by_size, by_sum, by_fault, bytes_of, most_bytes, most_bytes_together, size_of}
use Rattle.class_folder.specs.Reading.{IsBad, IsFileFailure, IsFileRead, IsNextFailure, IsReadNext, IsReadSoFar, IsRefusedAs}
use Rattle.class_folder.proofs.Options.{if_some, at_some}

-- ---- of the bytes that were read

-- A fault of bytes of which the test of the sum was passed.
pub bad_fault : (bytes : List ℕ) (size : ℕ) (r : Failure Fault) (offset : ℕ) (reason : Reason) → (length bytes ≤ most_bytes → size ≤ most_bytes_together)
    → r ≡ Cause (record { offset = offset; reason = reason }) → IsClassFileRefusal bytes r → IsBad bytes size offset reason
bad_fault bytes size r offset reason fits is refusal =
    let faulty : IsFaulty bytes offset reason = subst (IsClassFileRefusal bytes) is refusal in
    elim (cases_lt most_bytes (length bytes)) [
      | inl large ↦ inl (large, faulty)
      | inr small ↦ inr (inr (small, fits small, faulty))
    ]

pub refused_file : (name bytes : List ℕ) (size offset : ℕ) (reason : Reason) (failure : Failure FolderFault) → IsRefusedAs name offset reason failure
    → IsBad bytes size offset reason → IsFileFailure name bytes size failure
refused_file name bytes size offset reason (Cause (Refused r)) is bad =
    (is.0, subst (λ (o : ℕ). IsBad bytes size o r.reason) (sym is.1) (subst (IsBad bytes size offset) (sym is.2) bad))
refused_file name bytes size offset reason (Cause (Missing other)) is bad = absurd is
refused_file name bytes size offset reason (Cause Unreadable) is bad = absurd is
refused_file name bytes size offset reason OutOfMemory is bad = absurd is

-- ---- of the file

-- The value behind a cut.
whole_of : (o : Option (List ℕ)) (n : ℕ) (bytes : List ℕ) → option_map (take n) o ≡ Some bytes → (whole : List ℕ) × (o ≡ Some whole) × (take n whole ≡ bytes)
whole_of None n bytes e = cc
whole_of (Some whole) n bytes e = (whole, refl, cc)

-- The first bytes are within the limit only where they are all of them.
cut_whole : (n limit : ℕ) (whole bytes : List ℕ) → limit < n → take n whole ≡ bytes → length bytes ≤ limit → bytes ≡ whole
cut_whole n limit whole bytes past is fits =
    let l : length (take n whole) ≤ limit = rw is fits in
    sym is ∙ take_all n whole (omega (arith, l, length-take n whole))

-- There are not fewer bytes in the file than were read.
large_whole : (n limit : ℕ) (whole bytes : List ℕ) → take n whole ≡ bytes → limit < length bytes → limit < length whole
large_whole n limit whole bytes is large =
    let l : limit < length (take n whole) = rw is large in
    omega (arith, l, length-take n whole)

-- So many bytes together, with those of one more file.
size_more : (files : List File) (before : List (List ℕ)) (name whole : List ℕ) (size : ℕ) → file_at files name ≡ Some whole → size ≡ size_of files before
    → size_of files (before ++ name ∷ []) ≡ size + length whole
size_more files before name whole size held so_far =
    fold-append (λ (n : ℕ) (x : List ℕ). n + length (bytes_of files x)) 0 before (name ∷ [])
    ∙ (ap (λ (n : ℕ). n + length (bytes_of files name)) (sym so_far) ∙ ap (λ (o : Option (List ℕ)). size + length (unwrap_or o [])) held)

refused_next : (files : List File) (name bytes whole : List ℕ) (before : List (List ℕ)) (n size sum offset : ℕ) (reason : Reason) → most_bytes < n
    → file_at files name ≡ Some whole → take n whole ≡ bytes → sum ≡ size + length bytes → IsBad bytes sum offset reason → size ≡ size_of files before
    → IsRefusedAfter files before name offset reason
refused_next files name bytes whole before n size sum offset reason past held is sum_is (inl large) so_far =
    by_size whole held (large_whole n most_bytes whole bytes is large.0) (faulty_cut n whole bytes offset reason past is large.1)
refused_next files name bytes whole before n size sum offset reason past held is sum_is (inr (inl over)) so_far =
    let same : bytes ≡ whole = cut_whole n most_bytes whole bytes past is over.0 in
    let long : length bytes ≡ length whole = ap length same in
    let fits : length bytes ≤ most_bytes = over.0 in
    let large : most_bytes_together < sum = over.1 in
    let total = size_more files before name whole size held so_far in
    by_sum whole held (omega arith) (rw total (omega arith)) over.2 over.3
refused_next files name bytes whole before n size sum offset reason past held is sum_is (inr (inr bad)) so_far =
    let same : bytes ≡ whole = cut_whole n most_bytes whole bytes past is bad.0 in
    let long : length bytes ≡ length whole = ap length same in
    let fits : length bytes ≤ most_bytes = bad.0 in
    let room : sum ≤ most_bytes_together = bad.1 in
    let total = size_more files before name whole size held so_far in
    by_fault whole held (omega arith) (rw total (omega arith)) (faulty_cut n whole bytes offset reason past is bad.2)

next_failure : (files : List File) (name bytes whole : List ℕ) (n size sum : ℕ) (failure : Failure FolderFault) → most_bytes < n
    → file_at files name ≡ Some whole → take n whole ≡ bytes → sum ≡ size + length bytes → IsFileFailure name bytes sum failure
    → IsNextFailure files name size failure
next_failure files name bytes whole n size sum (Cause (Refused r)) past held is sum_is h =
    (h.0, λ before so_far. refused_next files name bytes whole before n size sum r.offset r.reason past held is sum_is h.1 so_far)
next_failure files name bytes whole n size sum (Cause (Missing other)) past held is sum_is h = absurd h
next_failure files name bytes whole n size sum (Cause Unreadable) past held is sum_is h = tt
next_failure files name bytes whole n size sum OutOfMemory past held is sum_is h = tt

pub fails_next : (o : Option (List File)) (name bytes : List ℕ) (n size sum : ℕ) (failure : Failure FolderFault) → most_bytes < n
    → IfSome o (λ held. option_map (take n) (file_at held name) ≡ Some bytes) → sum ≡ size + length bytes → IsFileFailure name bytes sum failure
    → IfSome o (λ files. IsNextFailure files name size failure)
fails_next o name bytes n size sum failure past read sum_is h =
    if_some o (λ files. IsNextFailure files name size failure)
    (λ files e. let w = whole_of (file_at files name) n bytes (at_some o (λ held. option_map (take n) (file_at held name) ≡ Some bytes) files e read) in
    next_failure files name bytes w.0 n size sum failure past w.1 w.2 sum_is h)

read_more : (files : List File) (name bytes whole : List ℕ) (n size sum : ℕ) (c : NamedClass) (old new : List NamedClass) (before : List (List ℕ))
    → most_bytes < n
    → file_at files name ≡ Some whole → take n whole ≡ bytes → sum ≡ size + length bytes → IsFileRead name bytes sum c → new ≡ old ++ c ∷ []
    → IsReadSoFar files before old size → IsReadSoFar files (before ++ name ∷ []) new sum
read_more files name bytes whole n size sum c old new before past held is sum_is one new_is so_far =
    let same : bytes ≡ whole = cut_whole n most_bytes whole bytes past is one.spelled.size in
    let there : file_at files name ≡ Some bytes = held ∙ ap Some (sym same) in
    let total : sum ≡ size_of files (before ++ name ∷ []) = sum_is ∙ sym (size_more files before name bytes size there so_far.size_is) in
    let here : IsClassFile files name c = record { file = one.file; bytes = bytes; held = there; spelled = one.spelled; sound = one.sound } in
    record {
      read = record {
        each = subst (AllZip (IsClassFile files) (before ++ name ∷ [])) (sym new_is) (all_zipped_more
            (IsClassFile files) before old name c so_far.read.each here);
        size = subst (λ (s : ℕ). s ≤ most_bytes_together) total one.room;
      };
      size_is = total;
    }

pub reads_next : (o : Option (List File)) (name bytes : List ℕ) (n size sum : ℕ) (c : NamedClass) (old new : List NamedClass) → most_bytes < n
    → IfSome o (λ held. option_map (take n) (file_at held name) ≡ Some bytes) → sum ≡ size + length bytes → IsFileRead name bytes sum c → new ≡ old ++ c ∷ []
    → IfSome o (λ files. IsReadNext files name old size new sum)
reads_next o name bytes n size sum c old new past read sum_is one new_is =
    if_some o (λ files. IsReadNext files name old size new sum)
    (λ files e. let w = whole_of (file_at files name) n bytes (at_some o (λ held. option_map (take n) (file_at held name) ≡ Some bytes) files e read) in
    record { next = λ before so_far. read_more files name bytes w.0 n size sum c old new before past w.1 w.2 sum_is one new_is so_far })
