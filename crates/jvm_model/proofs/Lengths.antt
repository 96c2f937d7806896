-- How many bytes items take that are written one after another, and the parts of a class file.
use Rattle.std.proofs.Common.{◌≡◌, ℕ, ◌+◌, ◌*◌, ◌≤◌, ◌<◌, List, [], ◌∷◌, ◌++◌, length, take, get_or, refl, sym, ap, ◌∙◌, subst, arith, length-append}
use Rattle.std.specs.List.{flat_map}
use Rattle.std.proofs.lemmas.List.{take_all, take_more, append-nil}
use Rattle.std.proofs.lemmas.List.Concat.{flat_map-cons}
use Rattle.std.proofs.lemmas.Grind.{flat_map-append}
use Rattle.std.proofs.lemmas.List.Folds.{length-flat_map-take}
use Rattle.jvm_model.specs.declared.class_file.ClassFile.{ClassFile}
use Rattle.jvm_model.specs.Spelling.{u2, attribute, spell}
use Rattle.jvm_model.specs.Soundness.{attributes_offset}

-- ---- items one after another

-- those before an item, and the item, take no more than all
pub one_fits : {X : Type 0} (text : X → List ℕ) (xs : List X) (i : ℕ) (x : X) → i < length xs → x ≡ get_or xs i x
    → length (flat_map text (take i xs)) + length (text x) ≤ length (flat_map text xs)
one_fits text xs i x lt is =
    subst (λ y. length (flat_map text (take i xs)) + length (text y) ≤ length (flat_map text xs)) (sym is) (length-flat_map-take text xs i x lt)

-- those up to an item take what those before it and the item take
pub one_more : {X : Type 0} (text : X → List ℕ) (xs : List X) (i : ℕ) (x : X) → i < length xs → x ≡ get_or xs i x
    → length (flat_map text (take i xs)) + length (text x) ≡ length (flat_map text (take (i + 1) xs))
one_more {X} text xs i x lt is =
    let front = take i xs in
    let more : take (i + 1) xs ≡ front ++ x ∷ [] = subst (λ (y : X). take (i + 1) xs ≡ front ++ y ∷ []) (sym is) (take_more xs i x lt) in
    let parts : flat_map text (front ++ x ∷ []) ≡ flat_map text front ++ text x = flat_map-append text front (x ∷ []) ∙ ap (λ (t : List ℕ). flat_map text front ++ t) (append-nil (text x)) in
    sym (ap (λ (ys : List X). length (flat_map text ys)) more ∙ ap length parts ∙ length-append (flat_map text front) (text x))

-- those up to the end are all
pub at_end : {X : Type 0} (text : X → List ℕ) (xs : List X) (i : ℕ) → length xs ≤ i → length (flat_map text (take i xs)) ≡ length (flat_map text xs)
at_end {X} text xs i le = ap (λ (ys : List X). length (flat_map text ys)) (take_all i xs le)

-- ---- a class file

pub two_each : (ns : List ℕ) → length (flat_map u2 ns) ≡ 2 * length ns
two_each [] = refl
two_each (n ∷ ns) = omega (arith, two_each ns, ap length (flat_map-cons u2 n ns), length-append (u2 n) (flat_map u2 ns))

pub spell_length : (c : ClassFile) → length (spell c) ≡ attributes_offset c + length (flat_map attribute c.attributes)
spell_length c = simp length-append (omega (arith, two_each c.interfaces))
