-- Why a class file is refused: there is one fault, and none where it is spelled well and sound.
use Rattle.std.proofs.Common.{◌≡◌, ℕ, ◌<◌, ◌≤◌, List, length, take, Some, Result, Ok, Err, sym, ap, ◌∙◌, subst, arith}
use Rattle.std.proofs.lemmas.List.{take_all, length-take}
use Rattle.jvm_model.specs.declared.class_file.ClassFile.{ClassFile}
use Rattle.jvm_model.specs.declared.reason.Reason.{Reason}
use Rattle.jvm_model.specs.Soundness.{places_of, IsSoundClass}
use Rattle.classfile_reader.specs.declared.limit.TheConstants.{CLASS_FILE_LIMIT}
use Rattle.jvm_model.specs.declared.reason.Fault.{Fault}
use Rattle.classfile_reader.specs.ClassReading.{class_of, SpellsReadable}
use Rattle.classfile_reader.specs.Faults.{IsFaulty, by_spelling, by_use}
use Rattle.classfile_reader.specs.FirstPlace.{IsFirstBreach}
use Rattle.classfile_reader.proofs.Classes.{class_of_again, class_of_cut}
use Rattle.classfile_reader.proofs.FirstPlaces.{one_told, one_breach}
use Rattle.classfile_reader.proofs.OneSpelling.{one_spelling}

two_readings : (r : Result ClassFile Fault) (c : ClassFile) (f : Fault) → r ≡ Ok c → r ≡ Err f → ⊥
two_readings r c f e g = cc

same_fault : (r : Result ClassFile Fault) (f g : Fault) → r ≡ Err f → r ≡ Err g → f ≡ g
same_fault r f g e h = cc

same_some : {X : Type 0} (x y : X) → Some x ≡ Some y → x ≡ y
same_some x y e = cc

-- a class file that is sound is not refused
pub faulty_or_sound : (bytes : List ℕ) (offset : ℕ) (reason : Reason) (c : ClassFile) → IsFaulty bytes offset reason → SpellsReadable bytes c → IsSoundClass c → ⊥
faulty_or_sound bytes offset reason c (by_spelling e) readable sound = two_readings (class_of bytes) c _ (class_of_again bytes c readable) e
faulty_or_sound bytes offset reason c (by_use d spelled first) readable sound =
    let same : d ≡ c = one_spelling bytes d c spelled.spelling readable.spelling in
    one_told c (offset, reason) (subst (λ (x : ClassFile). IsFirstBreach x.pool (places_of x) (Some (offset, reason))) same first) sound

-- it is refused for one fault
pub one_fault : (bytes : List ℕ) (offset other : ℕ) (reason why : Reason) → IsFaulty bytes offset reason → IsFaulty bytes other why → (offset ≡ other) × (reason ≡ why)
one_fault bytes offset other reason why (by_spelling e) (by_spelling f) =
    let same : record { offset = offset; reason = reason } ≡ record { offset = other; reason = why } = same_fault (class_of bytes) _ _ e f in
    (ap (λ (x : Fault). x.offset) same, ap (λ (x : Fault). x.reason) same)
one_fault bytes offset other reason why (by_spelling e) (by_use d spelled first) = absurd (two_readings (class_of bytes) d _ (class_of_again bytes d spelled) e)
one_fault bytes offset other reason why (by_use c spelled first) (by_spelling f) = absurd (two_readings (class_of bytes) c _ (class_of_again bytes c spelled) f)
one_fault bytes offset other reason why (by_use c spelled first) (by_use d spelled2 second) =
    let same : c ≡ d = one_spelling bytes c d spelled.spelling spelled2.spelling in
    let at_d = subst (λ (x : ClassFile). IsFirstBreach x.pool (places_of x) (Some (offset, reason))) same first in
    let both : Some (offset, reason) ≡ Some (other, why) = one_breach d.pool (places_of d) _ _ at_d second in
    let pair = same_some (offset, reason) (other, why) both in
    (ap (λ (p : ℕ × Reason). p.0) pair, ap (λ (p : ℕ × Reason). p.1) pair)

-- what is spelled and sound is read
pub is_read : (bytes : List ℕ) (c d : ClassFile) (offset : ℕ) (reason : Reason) → SpellsReadable bytes c → IsFirstBreach c.pool (places_of c) (Some (offset, reason)) → SpellsReadable bytes d → IsSoundClass d → ⊥
is_read bytes c d offset reason spelled first readable sound = faulty_or_sound bytes offset reason d (by_use c spelled first) readable sound

-- of a file that is cut past the limit the same fault is told
pub faulty_cut : (n : ℕ) (whole bytes : List ℕ) (offset : ℕ) (reason : Reason) → CLASS_FILE_LIMIT < n → take n whole ≡ bytes → IsFaulty bytes offset reason → IsFaulty whole offset reason
faulty_cut n whole bytes offset reason past is (by_spelling e) = by_spelling (sym (class_of_cut n whole past) ∙ ap class_of is ∙ e)
faulty_cut n whole bytes offset reason past is (by_use c spelled first) =
    by_use c (readable_whole n whole bytes c past is spelled) first
  where
    readable_whole : (n : ℕ) (whole bytes : List ℕ) (c : ClassFile) → CLASS_FILE_LIMIT < n → take n whole ≡ bytes → SpellsReadable bytes c → SpellsReadable whole c
    readable_whole n whole bytes c past is spelled =
        let fits : length (take n whole) ≤ CLASS_FILE_LIMIT = subst (λ (x : List ℕ). length x ≤ CLASS_FILE_LIMIT) (sym is) spelled.size in
        let same : bytes ≡ whole = sym is ∙ take_all n whole (omega (arith, past, fits, length-take n whole)) in
        subst (λ (x : List ℕ). SpellsReadable x c) same spelled
