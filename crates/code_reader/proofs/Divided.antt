-- Dividing a code array, as a loop does.
use Rattle.std.proofs.Common.{◌≡◌, ℕ, ◌+◌, ◌<◌, ◌≤◌, Bool, true, false, ◌||◌, eqb, List, [], ◌∷◌, ◌++◌, length, set, get_or, Option, Some, None, Ok, Err, refl, sym, ap, ◌∙◌, subst, append_assoc, arith}
use Rattle.std.proofs.lemmas.Bool.{eqb-true, eq-eqb}
use Rattle.std.proofs.lemmas.Option.{same_Some}
use Rattle.std.proofs.lemmas.List.{append-nil, get_or-set_same, get_or-set_other}
use Rattle.std.proofs.lemmas.List.Folds.{list_any-append}
use Rattle.jvm_model.specs.declared.pool.PoolEntry.{PoolEntry}
use Rattle.jvm_model.specs.declared.reason.Reason.{Reason}
use Rattle.jvm_model.specs.Instructions.{DecodedInstruction}
use Rattle.code_reader.specs.Division.{Spot, instruction_in, Divides, at_end, stops, goes_on, starts, first_or, first_fault}

-- what is divided from an offset on belongs to what was divided before
abbrev pub GoesBefore : List PoolEntry → List ℕ → ℕ → List Spot → Type 0
GoesBefore pool code offset spots = (others : List Spot) (stop : Option (ℕ × Reason)) → Divides pool code stop offset others → Divides pool code stop 0 (spots ++ others)

pub one_more : (pool : List PoolEntry) (code : List ℕ) (offset : ℕ) (spots : List Spot) (i : DecodedInstruction) → offset < length code → instruction_in pool code offset ≡ Ok i
    → GoesBefore pool code offset spots → GoesBefore pool code (offset + i.size) (spots ++ record { offset = offset; instruction = i } ∷ [])
one_more pool code offset spots i lt is before others stop rest =
    let s : Spot = record { offset = offset; instruction = i } in
    let all = before (s ∷ others) stop (goes_on offset (s ∷ others) i others lt is refl rest) in
    subst (Divides pool code stop 0) (sym (append_assoc spots (s ∷ []) others)) all

or_true : (b : Bool) → true ≡ (b || (true || false))
or_true true = refl
or_true false = refl

or_none : (b : Bool) → (b || (false || false)) ≡ b
or_none true = refl
or_none false = refl

differs : (m n : ℕ) → eqb m n ≡ false → n ≡ m → ⊥
differs m n e is = let yes = eq-eqb m n (sym is) in absurd cc

mark : (spots : List Spot) (table : List Bool) (offset t : ℕ) (same : Bool) → offset < length table → get_or table t false ≡ starts spots t
    → eqb offset t ≡ same → get_or (set table offset true) t false ≡ (starts spots t || (eqb offset t || false))
mark spots table offset t true lt known e =
    let is : t ≡ offset = sym (eqb-true offset t e) in
    rw (is, get_or-set_same table offset true false lt, eq-eqb offset offset refl) (or_true (starts spots offset))
mark spots table offset t false lt known e =
    rw (get_or-set_other table offset t true false (differs offset t e), e) (known ∙ sym (or_none (starts spots t)))

-- one more instruction starts at an offset
pub marks_one : (spots : List Spot) (table : List Bool) (offset : ℕ) (i : DecodedInstruction) → offset < length table → ((t : ℕ) → get_or table t false ≡ starts spots t)
    → (t : ℕ) → get_or (set table offset true) t false ≡ starts (spots ++ record { offset = offset; instruction = i } ∷ []) t
marks_one spots table offset i lt known t =
    mark spots table offset t (eqb offset t) lt (known t) refl ∙ sym (list_any-append (λ (s : Spot). eqb s.offset t) spots (record { offset = offset; instruction = i } ∷ []))

-- the division ends early
pub stopped : (pool : List PoolEntry) (code : List ℕ) (offset : ℕ) (spots : List Spot) (reason : Reason) → offset < length code → instruction_in pool code offset ≡ Err reason
    → GoesBefore pool code offset spots → Divides pool code (Some (offset, reason)) 0 spots
stopped pool code offset spots reason lt is before =
    subst (Divides pool code (Some (offset, reason)) 0) (append-nil spots) (before [] (Some (offset, reason)) (stops offset [] reason lt is refl refl))

-- it ends with the code
pub ended : (pool : List PoolEntry) (code : List ℕ) (offset : ℕ) (spots : List Spot) → offset ≤ length code → length code ≤ offset
    → GoesBefore pool code offset spots → Divides pool code None 0 spots
ended pool code offset spots le ge before =
    subst (Divides pool code None 0) (append-nil spots) (before [] None (at_end offset [] (omega (arith, le, ge)) refl refl))

first_of : (at : ℕ) (found : Option Reason) (others : Option (ℕ × Reason)) (long offset : ℕ) (reason : Reason) → at < long → ((o : ℕ) (r : Reason) → others ≡ Some (o, r) → o < long)
    → first_or at found others ≡ Some (offset, reason) → offset < long
first_of at (Some found) others long offset reason lt later e =
    let same : at ≡ offset = ap (λ (p : ℕ × Reason). p.0) (same_Some _ _ e) in
    omega (arith, same, lt)
first_of at None others long offset reason lt later e = later offset reason e

-- what is told of the code stands in it
pub told_inside : (pool : List PoolEntry) (code : List ℕ) (stop : Option (ℕ × Reason)) (test : Spot → Option Reason) (from : ℕ) (spots : List Spot) → Divides pool code stop from spots
    → (offset : ℕ) (reason : Reason) → first_fault test stop spots ≡ Some (offset, reason) → offset < length code
told_inside pool code stop test from spots (at_end at xs end none is) offset reason e =
    let told : stop ≡ Some (offset, reason) = subst (λ (ys : List Spot). first_fault test stop ys ≡ Some (offset, reason)) is e in
    absurd (cc (none, told))
told_inside pool code stop test from spots (stops at xs why lt refused early is) offset reason e =
    let told : stop ≡ Some (offset, reason) = subst (λ (ys : List Spot). first_fault test stop ys ≡ Some (offset, reason)) is e in
    let same : at ≡ offset = ap (λ (p : ℕ × Reason). p.0) (same_Some _ _ (sym early ∙ told)) in
    omega (arith, same, lt)
told_inside pool code stop test from spots (goes_on at xs i others lt read is rest) offset reason e =
    let s : Spot = record { offset = at; instruction = i } in
    let told = subst (λ (ys : List Spot). first_fault test stop ys ≡ Some (offset, reason)) is e in
    first_of at (test s) (first_fault test stop others) (length code) offset reason lt (told_inside pool code stop test (at + i.size) others rest) told
