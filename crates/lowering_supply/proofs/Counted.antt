-- The offsets that were counted, by class.
use Rattle.std.proofs.Common.{◌≡◌, ◌≢◌, ◌⊎◌, inl, inr, ℕ, ◌<◌, false, List, length, Some, sym, ◌∙◌, subst, arith}
use Rattle.std.specs.BTreeMap.{BTreeMap, Updates, get, is_at}
use Rattle.std.specs.Global.{Vec}
use Rattle.std.specs.Ordering.{nat_cmp}
use Rattle.std.proofs.lemmas.Bool.{cases_eq}
use Rattle.std.proofs.lemmas.Bool.Decides.{nat_tests}
use Rattle.std.proofs.lemmas.Option.{same_Some, slice_get_within}
use Rattle.jvm_model.specs.declared.class_file.ClassFile.{ClassFile}
use Rattle.jvm_model.specs.Programs.{Program}
use Rattle.code_reader.specs.Places.{method_offset}
use Rattle.program_model.specs.Files.{HaveOneFile}
use Rattle.lowering_supply.specs.Offsets.{AreCounted, AreOffsets, IsClassFileOf}

pub offset_below : (file : ClassFile) (offsets : List ℕ) (place : ℕ) → AreOffsets file offsets → place < length file.methods → place < length offsets
offset_below file offsets place are lt = slice_get_within offsets place (method_offset file place) (are.each place lt)

-- the class files of one class are one
one_file : (p : Program) (class : ℕ) (f g : ClassFile) → HaveOneFile p → IsClassFileOf p class f → IsClassFileOf p class g → f ≡ g
one_file p class f g one x y = one.same x.number y.number x.method y.method x.stands y.stands (x.of_class ∙ sym y.of_class) f g x.place y.place x.member y.member x.body y.body

other_key : (k q : ℕ) → k ≢ q → is_at (nat_cmp k) q ≡ false
other_key k q other = grind (arith, nat_tests)

pub counted_more : (p : Program) (old new : BTreeMap ℕ (Vec ℕ)) (class : ℕ) (offsets : Vec ℕ) (file : ClassFile) → HaveOneFile p → IsClassFileOf p class file → AreOffsets file offsets.items
    → AreCounted p old → Updates nat_cmp old new class (Some offsets) → AreCounted p new
counted_more p old new class offsets file one of are counted update = record { each = λ q os e f of_q. by q os e f of_q (cases_eq class q) }
  where
    by : (q : ℕ) (os : Vec ℕ) → get nat_cmp new q ≡ Some os → (f : ClassFile) → IsClassFileOf p q f → (class ≡ q) ⊎ (class ≢ q) → AreOffsets f os.items
    by q os e f of_q (inl here) =
        let of_class : IsClassFileOf p class f = subst (λ (n : ℕ). IsClassFileOf p n f) (sym here) of_q in
        let same : offsets ≡ os = same_Some offsets os (sym update.1 ∙ subst (λ (n : ℕ). get nat_cmp new n ≡ Some os) (sym here) e) in
        subst (λ (v : Vec ℕ). AreOffsets f v.items) same (subst (λ (g : ClassFile). AreOffsets g offsets.items) (one_file p class file f one of of_class) are)
    by q os e f of_q (inr other) = counted.each q os (sym (update.2 q (other_key class q other)) ∙ e) f of_q
