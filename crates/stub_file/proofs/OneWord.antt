-- The words of a stub: each names one thing.
use Rattle.std.proofs.Common.{codes, ◌≡◌, ℕ, zero, suc, ◌<◌, ◌≤◌, ◌^◌, false, List, ◌++◌, ◌==◌, drop, get_or, Result, Ok, Err, arith, refl, sym, ap, ◌∙◌, subst}
use Rattle.std.specs.Fmt.{decimal}
use Rattle.std.proofs.lemmas.Bool.{false≢true}
use Rattle.std.proofs.lemmas.Bool.Decides.{Decides-eqb}
use Rattle.std.specs.Result.{result_ok}
use Rattle.std.specs.Str.Parse.{digits_value, without_leading_plus, AllDigits, IsNumeral, ParsesUnsigned}
use Rattle.std.proofs.lemmas.Fmt.{decimal_digit, decimal_injective, decimal-digits_value, parse-decimal}
use Rattle.std.proofs.lemmas.Str.Parse.{numerals_by_value, tells_digits, without_leading_plus_none}
use Rattle.jvm_model.specs.declared.stub.StubArgument.{StubArgument}
use Rattle.jvm_model.specs.declared.stub.StubArgument.TheVariants.{This, Argument}
use Rattle.jvm_model.specs.declared.stub.StubResult.{StubResult}
use Rattle.jvm_model.specs.declared.stub.StubResult.TheVariants.{Primitive, Void, Null, Given, New, Kept}
use Rattle.toml_tables.specs.Tables.{Finds}
use Rattle.stub_file.specs.StubReading.{IsPlainWord}
use Rattle.stub_file.specs.StubSpelling.{SpellsArgument, SpellsResult}

-- texts that differ at a place
tells : (k : ℕ) (xs ys : List ℕ) → (get_or xs k 0 == get_or ys k 0) ≡ false → xs ≡ ys → ⊥
tells k xs ys apart e =
    let same : (get_or xs k 0 == get_or xs k 0) ≡ false = subst (λ (w : List ℕ). (get_or xs k 0 == get_or w k 0) ≡ false) (sym e) apart in
    false≢true (sym same ∙ (Decides-eqb (get_or xs k 0) (get_or xs k 0)).1 refl)

same_digits : (ds es : List ℕ) → codes "arg" ++ ds ≡ codes "arg" ++ es → ds ≡ es
same_digits ds es e = ap (λ (l : List ℕ). drop 3 l) e

pub SpellsArgument-unique : (text : List ℕ) (x y : StubArgument) → SpellsArgument text x → SpellsArgument text y → x ≡ y
SpellsArgument-unique text This This p q = refl
SpellsArgument-unique text This (Argument n) p q = absurd (tells 0 (codes "this") (codes "arg" ++ decimal n) refl (sym p ∙ q.2))
SpellsArgument-unique text (Argument n) This p q = absurd (tells 0 (codes "this") (codes "arg" ++ decimal n) refl (sym q ∙ p.2))
SpellsArgument-unique text (Argument n) (Argument m) p q =
    let low : n ≤ 255 = p.1 in
    let lower : m ≤ 255 = q.1 in
    ap Argument (decimal_injective n m (omega arith) (omega arith) (same_digits (decimal n) (decimal m) (sym p.2 ∙ q.2)))

same_name : (x y : List ℕ) → codes "new:" ++ x ≡ codes "new:" ++ y → x ≡ y
same_name x y e = ap (λ (l : List ℕ). drop 4 l) e

pub SpellsResult-unique : (text : List ℕ) (x y : StubResult) → SpellsResult text x → SpellsResult text y → x ≡ y
SpellsResult-unique text Primitive Primitive p q = refl
SpellsResult-unique text Primitive Void p q = absurd (tells 0 (codes "prim") (codes "void") refl (sym p ∙ q))
SpellsResult-unique text Primitive Null p q = absurd (tells 0 (codes "prim") (codes "null") refl (sym p ∙ q))
SpellsResult-unique text Primitive (Given This) p q = absurd (tells 0 (codes "prim") (codes "this") refl (sym p ∙ q))
SpellsResult-unique text Primitive (Given (Argument m)) p q = absurd (tells 0 (codes "prim") (codes "arg" ++ decimal m) refl (sym p ∙ q.2))
SpellsResult-unique text Primitive (New m) p q = absurd (tells 0 (codes "prim") (codes "new:" ++ m) refl (sym p ∙ q))
SpellsResult-unique text Primitive Kept p q = absurd (tells 0 (codes "prim") (codes "kept") refl (sym p ∙ q))
SpellsResult-unique text Void Primitive p q = absurd (tells 0 (codes "void") (codes "prim") refl (sym p ∙ q))
SpellsResult-unique text Void Void p q = refl
SpellsResult-unique text Void Null p q = absurd (tells 0 (codes "void") (codes "null") refl (sym p ∙ q))
SpellsResult-unique text Void (Given This) p q = absurd (tells 0 (codes "void") (codes "this") refl (sym p ∙ q))
SpellsResult-unique text Void (Given (Argument m)) p q = absurd (tells 0 (codes "void") (codes "arg" ++ decimal m) refl (sym p ∙ q.2))
SpellsResult-unique text Void (New m) p q = absurd (tells 0 (codes "void") (codes "new:" ++ m) refl (sym p ∙ q))
SpellsResult-unique text Void Kept p q = absurd (tells 0 (codes "void") (codes "kept") refl (sym p ∙ q))
SpellsResult-unique text Null Primitive p q = absurd (tells 0 (codes "null") (codes "prim") refl (sym p ∙ q))
SpellsResult-unique text Null Void p q = absurd (tells 0 (codes "null") (codes "void") refl (sym p ∙ q))
SpellsResult-unique text Null Null p q = refl
SpellsResult-unique text Null (Given This) p q = absurd (tells 0 (codes "null") (codes "this") refl (sym p ∙ q))
SpellsResult-unique text Null (Given (Argument m)) p q = absurd (tells 0 (codes "null") (codes "arg" ++ decimal m) refl (sym p ∙ q.2))
SpellsResult-unique text Null (New m) p q = absurd (tells 1 (codes "null") (codes "new:" ++ m) refl (sym p ∙ q))
SpellsResult-unique text Null Kept p q = absurd (tells 0 (codes "null") (codes "kept") refl (sym p ∙ q))
SpellsResult-unique text (Given This) Primitive p q = absurd (tells 0 (codes "this") (codes "prim") refl (sym p ∙ q))
SpellsResult-unique text (Given This) Void p q = absurd (tells 0 (codes "this") (codes "void") refl (sym p ∙ q))
SpellsResult-unique text (Given This) Null p q = absurd (tells 0 (codes "this") (codes "null") refl (sym p ∙ q))
SpellsResult-unique text (Given This) (Given This) p q = refl
SpellsResult-unique text (Given This) (Given (Argument m)) p q = absurd (tells 0 (codes "this") (codes "arg" ++ decimal m) refl (sym p ∙ q.2))
SpellsResult-unique text (Given This) (New m) p q = absurd (tells 0 (codes "this") (codes "new:" ++ m) refl (sym p ∙ q))
SpellsResult-unique text (Given This) Kept p q = absurd (tells 0 (codes "this") (codes "kept") refl (sym p ∙ q))
SpellsResult-unique text (Given (Argument n)) Primitive p q = absurd (tells 0 (codes "arg" ++ decimal n) (codes "prim") refl (sym p.2 ∙ q))
SpellsResult-unique text (Given (Argument n)) Void p q = absurd (tells 0 (codes "arg" ++ decimal n) (codes "void") refl (sym p.2 ∙ q))
SpellsResult-unique text (Given (Argument n)) Null p q = absurd (tells 0 (codes "arg" ++ decimal n) (codes "null") refl (sym p.2 ∙ q))
SpellsResult-unique text (Given (Argument n)) (Given This) p q = absurd (tells 0 (codes "arg" ++ decimal n) (codes "this") refl (sym p.2 ∙ q))
SpellsResult-unique text (Given (Argument n)) (Given (Argument m)) p q = ap Given (SpellsArgument-unique text (Argument n) (Argument m) p q)
SpellsResult-unique text (Given (Argument n)) (New m) p q = absurd (tells 0 (codes "arg" ++ decimal n) (codes "new:" ++ m) refl (sym p.2 ∙ q))
SpellsResult-unique text (Given (Argument n)) Kept p q = absurd (tells 0 (codes "arg" ++ decimal n) (codes "kept") refl (sym p.2 ∙ q))
SpellsResult-unique text (New n) Primitive p q = absurd (tells 0 (codes "new:" ++ n) (codes "prim") refl (sym p ∙ q))
SpellsResult-unique text (New n) Void p q = absurd (tells 0 (codes "new:" ++ n) (codes "void") refl (sym p ∙ q))
SpellsResult-unique text (New n) Null p q = absurd (tells 1 (codes "new:" ++ n) (codes "null") refl (sym p ∙ q))
SpellsResult-unique text (New n) (Given This) p q = absurd (tells 0 (codes "new:" ++ n) (codes "this") refl (sym p ∙ q))
SpellsResult-unique text (New n) (Given (Argument m)) p q = absurd (tells 0 (codes "new:" ++ n) (codes "arg" ++ decimal m) refl (sym p ∙ q.2))
SpellsResult-unique text (New n) (New m) p q = ap New (same_name n m (sym p ∙ q))
SpellsResult-unique text (New n) Kept p q = absurd (tells 0 (codes "new:" ++ n) (codes "kept") refl (sym p ∙ q))
SpellsResult-unique text Kept Primitive p q = absurd (tells 0 (codes "kept") (codes "prim") refl (sym p ∙ q))
SpellsResult-unique text Kept Void p q = absurd (tells 0 (codes "kept") (codes "void") refl (sym p ∙ q))
SpellsResult-unique text Kept Null p q = absurd (tells 0 (codes "kept") (codes "null") refl (sym p ∙ q))
SpellsResult-unique text Kept (Given This) p q = absurd (tells 0 (codes "kept") (codes "this") refl (sym p ∙ q))
SpellsResult-unique text Kept (Given (Argument m)) p q = absurd (tells 0 (codes "kept") (codes "arg" ++ decimal m) refl (sym p ∙ q.2))
SpellsResult-unique text Kept (New m) p q = absurd (tells 0 (codes "kept") (codes "new:" ++ m) refl (sym p ∙ q))
SpellsResult-unique text Kept Kept p q = refl

-- a word that names nothing
pub no_result : (text : List ℕ) → ((x : StubResult) → IsPlainWord text x → ⊥) → ((a : StubArgument) → SpellsArgument text a → ⊥) → ((rest : List ℕ) → text ≡ codes "new:" ++ rest → ⊥) → (x : StubResult) → SpellsResult text x → ⊥
no_result text plain argument made Primitive p = plain Primitive p
no_result text plain argument made Void p = plain Void p
no_result text plain argument made Null p = plain Null p
no_result text plain argument made (Given a) p = argument a p
no_result text plain argument made (New name) p = made name p
no_result text plain argument made Kept p = plain Kept p

-- digits with no zero in front, as a number
-- these digits are the number
abbrev ReadAs : List ℕ → ℕ → Type 0
ReadAs ds n = (IsNumeral 10 ds × (digits_value 10 ds < 2 ^ 8)) × (n ≡ digits_value 10 ds)

digits_written : (bs : List ℕ) (n : ℕ) → 48 < get_or bs 0 0 → ReadAs (without_leading_plus bs) n → bs ≡ decimal n
digits_written bs n first p =
    let plain : without_leading_plus bs ≡ bs = without_leading_plus_none bs (λ e. omega arith) in
    let read : ReadAs bs n = subst (λ (l : List ℕ). ReadAs l n) plain p in
    let small : digits_value 10 bs < 2 ^ 8 = read.0.1 in
    let written : decimal (digits_value 10 bs) ≡ bs = decimal-digits_value (numerals_by_value (AllDigits 10) tells_digits) bs read.0.0.1 read.0.0.0 (λ e. absurd (omega arith)) (omega arith) in
    sym written ∙ ap decimal (sym read.1)

fits_byte : (ds : List ℕ) (n : ℕ) → ReadAs ds n → n ≤ 255
fits_byte ds n p =
    let small : digits_value 10 ds < 2 ^ 8 = p.0.1 in
    let is : n ≡ digits_value 10 ds = p.1 in
    omega arith

pub number_read : {E : Type 0} (bs : List ℕ) (r : Result ℕ E) → 48 < get_or bs 0 0 → ParsesUnsigned 8 10 bs r → Finds (λ n. (1 ≤ n) × (n ≤ 255) × (bs ≡ decimal n)) (result_ok r)
number_read bs (Ok zero) first p =
    let begins : get_or bs 0 0 ≡ get_or (decimal 0) 0 0 = ap (λ (l : List ℕ). get_or l 0 0) (digits_written bs 0 first p) in
    let digit : get_or (decimal 0) 0 0 ≡ 48 = ap (λ (l : List ℕ). get_or l 0 0) (decimal_digit 0 (omega arith)) in
    absurd (omega arith)
number_read bs (Ok (suc n)) first p =
    (omega arith, fits_byte (without_leading_plus bs) (suc n) p, digits_written bs (suc n) first p)
number_read bs (Err e) first p = λ n h.
    let small : n ≤ 255 = h.1 in
    let read : Err e ≡ Ok n = parse-decimal 8 n bs (Err e) (omega arith) (omega arith) h.2 p in
    cc
