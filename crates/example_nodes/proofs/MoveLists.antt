-- The moves of an instruction as a list, from its row.
use Rattle.std.proofs.Common.{◌≡◌, ◌≢◌, ◌⊎◌, inl, inr, ℕ, zero, suc, ◌+◌, ◌-◌, ◌<◌, Bool, true, false, not, ◌&&◌, cond, nat_eq, List, [], ◌∷◌, ◌++◌, length, Some, slice_get, refl, sym, ap, ◌∙◌, subst, true≢false, eqb-true, arith}
use Rattle.std.specs.List.{Contains, list_all}
use Rattle.std.proofs.lemmas.Bool.{and_parts, eq-eqb}
use Rattle.std.proofs.lemmas.List.Elements.{Contains-append_left, Contains-append_right, Contains-append_cases}
use Rattle.std.proofs.lemmas.Option.{same_Some, none-some}
use Rattle.jvm_model.specs.Table.{Row, UnitSource, popped, the_local, a_null, a_primitive, the_made}
use Rattle.op_model.specs.declared.op.Move.{Move}
use Rattle.op_model.specs.declared.op.Source.{Source}
use Rattle.op_model.specs.declared.op.Source.TheVariants as sources
use Rattle.lowering_spec.specs.Moves.{IsSourceOf, IsWrite, stored, pushed, cleared, AreMovesOf}
use Rattle.list_laws.proofs.Tests.{passes_at}
use Rattle.list_laws.proofs.Members.{contains_first, contains_later, contains_cases, contains_none}

-- ---- the list

abbrev source_of : ℕ → ℕ → UnitSource → Source
source_of operand base (popped unit) = sources.Slot (base + unit)
source_of operand base the_local = sources.Slot operand
source_of operand base a_null = sources.Null
source_of operand base a_primitive = sources.Primitive
source_of operand base the_made = sources.Primitive

abbrev is_read : UnitSource → Bool
is_read (popped unit) = true
is_read the_local = true
is_read a_null = true
is_read a_primitive = true
is_read the_made = false

abbrev pub makes_nothing : Row → Bool
makes_nothing r = list_all is_read r.stores && list_all is_read r.pushes

abbrev written_from : (operand base target : ℕ) → List UnitSource → List Move
written_from operand base target [] = []
written_from operand base target (u ∷ units) = record { source = source_of operand base u; target = target } ∷ written_from operand base (suc target) units

abbrev cleared_from : ℕ → ℕ → List Move
cleared_from zero target = []
cleared_from (suc count) target = record { source = sources.Primitive; target = target } ∷ cleared_from count (suc target)

abbrev writes_of : Row → ℕ → ℕ → List Move
writes_of r operand base = written_from operand base operand r.stores ++ (written_from operand base base r.pushes ++ cleared_from (length r.pops - length r.pushes) (base + length r.pushes))

abbrev changes_from : Source → ℕ → Bool
changes_from (sources.Slot z) target = not (nat_eq z target)
changes_from sources.Null target = true
changes_from sources.Primitive target = true

abbrev changes : Move → Bool
changes m = changes_from m.source m.target

abbrev changing : List Move → List Move
changing [] = []
changing (m ∷ moves) = cond (changes m) (m ∷ changing moves) (changing moves)

abbrev pub moves_of : Row → ℕ → ℕ → List Move
moves_of r operand base = changing (writes_of r operand base)

-- ---- what stands in it

-- a unit of a list, and its move
record IsWritten (operand base target : ℕ) (units : List UnitSource) (m : Move) : Type 0 where
  pub place : ℕ
  pub unit : UnitSource
  pub stands : slice_get units place ≡ Some unit
  pub there : m.target ≡ target + place
  pub reads : m.source ≡ source_of operand base unit

written_is : (operand base target : ℕ) (units : List UnitSource) (m : Move) → Contains (written_from operand base target units) m → IsWritten operand base target units m
written_is operand base target [] m there = absurd (contains_none m there)
written_is operand base target (u ∷ units) m there = by (contains_cases (record { source = source_of operand base u; target = target }) m (written_from operand base (suc target) units) there) (written_is operand base (suc target) units m)
  where
    by : (record { source = source_of operand base u; target = target } ≡ m) ⊎ Contains (written_from operand base (suc target) units) m
        → (Contains (written_from operand base (suc target) units) m → IsWritten operand base (suc target) units m) → IsWritten operand base target (u ∷ units) m
    by (inl e) deeper =
        let t : target ≡ m.target = ap (λ (k : Move). k.target) e in
        record { place = 0; unit = u; stands = refl; there = omega (arith, t); reads = sym (ap (λ (k : Move). k.source) e) }
    by (inr c) deeper = let w = deeper c in let t = w.there in record { place = suc w.place; unit = w.unit; stands = w.stands; there = omega (arith, t); reads = w.reads }

same_move : (m : Move) (s : Source) (t : ℕ) → m.source ≡ s → m.target ≡ t → record { source = s; target = t } ≡ m
same_move m s t e f = sym (subst (λ (z : ℕ). m ≡ record { source = s; target = z }) f (subst (λ (q : Source). m ≡ record { source = q; target = m.target }) e refl))

is_written : (operand base target : ℕ) (units : List UnitSource) (m : Move) → IsWritten operand base target units m → Contains (written_from operand base target units) m
is_written operand base target [] m w = absurd (none-some w.unit w.stands)
is_written operand base target (u ∷ units) m w = by w.place w.stands w.there (λ v. is_written operand base (suc target) units m v)
  where
    by : (place : ℕ) → slice_get (u ∷ units) place ≡ Some w.unit → m.target ≡ target + place → (IsWritten operand base (suc target) units m → Contains (written_from operand base (suc target) units) m)
        → Contains (written_from operand base target (u ∷ units)) m
    by zero stands there deeper =
        let same : u ≡ w.unit = same_Some u w.unit stands in
        let t : m.target ≡ target = omega (arith, there) in
        subst (λ (k : Move). Contains (record { source = source_of operand base u; target = target } ∷ written_from operand base (suc target) units) k)
        (same_move m (source_of operand base u) target (w.reads ∙ ap (source_of operand base) (sym same)) t) (contains_first _ _)
    by (suc n) stands there deeper = contains_later _ m _ (deeper (record { place = n; unit = w.unit; stands = stands; there = omega (arith, there); reads = w.reads }))

record IsCleared (count target : ℕ) (m : Move) : Type 0 where
  pub place : ℕ
  pub inside : place < count
  pub there : m.target ≡ target + place
  pub reads : m.source ≡ sources.Primitive

cleared_is : (count target : ℕ) (m : Move) → Contains (cleared_from count target) m → IsCleared count target m
cleared_is zero target m there = absurd (contains_none m there)
cleared_is (suc count) target m there = by (contains_cases (record { source = sources.Primitive; target = target }) m (cleared_from count (suc target)) there) (cleared_is count (suc target) m)
  where
    by : (record { source = sources.Primitive; target = target } ≡ m) ⊎ Contains (cleared_from count (suc target)) m → (Contains (cleared_from count (suc target)) m → IsCleared count (suc target) m) → IsCleared (suc count) target m
    by (inl e) deeper =
        let t : target ≡ m.target = ap (λ (k : Move). k.target) e in
        record { place = 0; inside = omega arith; there = omega (arith, t); reads = sym (ap (λ (k : Move). k.source) e) }
    by (inr c) deeper = let w = deeper c in let t = w.there in let l = w.inside in record { place = suc w.place; inside = omega (arith, l); there = omega (arith, t); reads = w.reads }

is_cleared : (count target : ℕ) (m : Move) → IsCleared count target m → Contains (cleared_from count target) m
is_cleared zero target m w = let l = w.inside in absurd (omega (arith, l))
is_cleared (suc count) target m w = by w.place w.inside w.there (λ v. is_cleared count (suc target) m v)
  where
    by : (place : ℕ) → place < suc count → m.target ≡ target + place → (IsCleared count (suc target) m → Contains (cleared_from count (suc target)) m) → Contains (cleared_from (suc count) target) m
    by zero l there deeper =
        let t : m.target ≡ target = omega (arith, there) in
        subst (λ (k : Move). Contains (record { source = sources.Primitive; target = target } ∷ cleared_from count (suc target)) k) (same_move m sources.Primitive target w.reads t) (contains_first _ _)
    by (suc n) l there deeper = contains_later _ m _ (deeper (record { place = n; inside = omega (arith, l); there = omega (arith, there); reads = w.reads }))

-- ---- sources

read_source : (operand base : ℕ) (u : UnitSource) (s : Source) → is_read u ≡ true → s ≡ source_of operand base u → IsSourceOf operand base u s
read_source operand base (popped unit) s e f = f
read_source operand base the_local s e f = f
read_source operand base a_null s e f = f
read_source operand base a_primitive s e f = f
read_source operand base the_made s e f = absurd cc

source_read : (operand base : ℕ) (u : UnitSource) (s : Source) → IsSourceOf operand base u s → s ≡ source_of operand base u
source_read operand base (popped unit) s f = f
source_read operand base the_local s f = f
source_read operand base a_null s f = f
source_read operand base a_primitive s f = f
source_read operand base the_made s f = absurd f

-- ---- moves that change something

move_changes : (s : Source) (target : ℕ) → changes_from s target ≡ true → s ≢ sources.Slot target
move_changes (sources.Slot z) target e f =
    let same : z ≡ target = cc in
    true≢false (sym e ∙ ap not (eq-eqb z target same))
move_changes sources.Null target e f = absurd cc
move_changes sources.Primitive target e f = absurd cc

changes_move : (s : Source) (target : ℕ) → (s ≢ sources.Slot target) → changes_from s target ≡ true
changes_move (sources.Slot z) target other = by (nat_eq z target) refl where
  by : (b : Bool) → nat_eq z target ≡ b → not b ≡ true
  by true f = absurd (other (ap sources.Slot (eqb-true z target f)))
  by false f = refl
changes_move sources.Null target other = refl
changes_move sources.Primitive target other = refl

changing_is : (moves : List Move) (m : Move) → Contains (changing moves) m → Contains moves m × (changes m ≡ true)
changing_is [] m there = absurd (contains_none m there)
changing_is (k ∷ moves) m there = by (changes k) refl there (changing_is moves m)
  where
    first : changes k ≡ true → (k ≡ m) ⊎ Contains (changing moves) m → (Contains (changing moves) m → Contains moves m × (changes m ≡ true)) → Contains (k ∷ moves) m × (changes m ≡ true)
    first f (inl e) deeper = (subst (λ (q : Move). Contains (k ∷ moves) q) e (contains_first k moves), subst (λ (q : Move). changes q ≡ true) e f)
    first f (inr c) deeper = let d = deeper c in (contains_later k m moves d.0, d.1)

    by : (b : Bool) → changes k ≡ b → Contains (cond b (k ∷ changing moves) (changing moves)) m → (Contains (changing moves) m → Contains moves m × (changes m ≡ true)) → Contains (k ∷ moves) m × (changes m ≡ true)
    by true f c deeper = first f (contains_cases k m (changing moves) c) deeper
    by false f c deeper = let d = deeper c in (contains_later k m moves d.0, d.1)

is_changing : (moves : List Move) (m : Move) → Contains moves m → changes m ≡ true → Contains (changing moves) m
is_changing [] m there e = absurd (contains_none m there)
is_changing (k ∷ moves) m there e = by (changes k) refl (contains_cases k m moves there) (λ c. is_changing moves m c e)
  where
    by : (b : Bool) → changes k ≡ b → (k ≡ m) ⊎ Contains moves m → (Contains moves m → Contains (changing moves) m) → Contains (cond b (k ∷ changing moves) (changing moves)) m
    by true f (inl g) deeper = subst (λ (q : Move). Contains (k ∷ changing moves) q) g (contains_first k (changing moves))
    by true f (inr c) deeper = contains_later k m (changing moves) (deeper c)
    by false f (inl g) deeper = absurd (true≢false (sym e ∙ (ap changes (sym g) ∙ f)))
    by false f (inr c) deeper = deeper c

-- ---- the list is all of them

module _ (r : Row) (operand base : ℕ) (reads : makes_nothing r ≡ true) where
  both : (list_all is_read r.stores ≡ true) × (list_all is_read r.pushes ≡ true)
  both = and_parts (list_all is_read r.stores) (list_all is_read r.pushes) reads

  write_is : (m : Move) → Contains (writes_of r operand base) m → IsWrite r operand base m
  write_is m there = by (Contains-append_cases (written_from operand base operand r.stores) (written_from operand base base r.pushes ++ cleared_from (length r.pops - length r.pushes) (base + length r.pushes)) m there)
    where
      rest : Contains (written_from operand base base r.pushes) m ⊎ Contains (cleared_from (length r.pops - length r.pushes) (base + length r.pushes)) m → IsWrite r operand base m
      rest (inl c) = let w = written_is operand base base r.pushes m c in pushed w.place w.unit w.stands w.there (read_source operand base w.unit m.source (passes_at is_read r.pushes w.place w.unit both.1 w.stands) w.reads)
      rest (inr c) =
          let w = cleared_is (length r.pops - length r.pushes) (base + length r.pushes) m c in
          let l = w.inside in
          let t = w.there in
          cleared (length r.pushes + w.place) (omega arith) (omega (arith, l)) (omega (arith, t)) w.reads

      by : Contains (written_from operand base operand r.stores) m ⊎ Contains (written_from operand base base r.pushes ++ cleared_from (length r.pops - length r.pushes) (base + length r.pushes)) m → IsWrite r operand base m
      by (inl c) = let w = written_is operand base operand r.stores m c in stored w.place w.unit w.stands w.there (read_source operand base w.unit m.source (passes_at is_read r.stores w.place w.unit both.0 w.stands) w.reads)
      by (inr c) = rest (Contains-append_cases (written_from operand base base r.pushes) (cleared_from (length r.pops - length r.pushes) (base + length r.pushes)) m c)

  is_write : (m : Move) → IsWrite r operand base m → Contains (writes_of r operand base) m
  is_write m (stored place u stands there is) =
      Contains-append_left (written_from operand base operand r.stores) (written_from operand base base r.pushes ++ cleared_from (length r.pops - length r.pushes) (base + length r.pushes)) m
      (is_written operand base operand r.stores m (record { place = place; unit = u; stands = stands; there = there; reads = source_read operand base u m.source is }))
  is_write m (pushed place u stands there is) =
      Contains-append_right (written_from operand base operand r.stores) (written_from operand base base r.pushes ++ cleared_from (length r.pops - length r.pushes) (base + length r.pushes)) m
      (Contains-append_left (written_from operand base base r.pushes) (cleared_from (length r.pops - length r.pushes) (base + length r.pushes)) m
      (is_written operand base base r.pushes m (record { place = place; unit = u; stands = stands; there = there; reads = source_read operand base u m.source is })))
  is_write m (cleared place past inside there is) =
      Contains-append_right (written_from operand base operand r.stores) (written_from operand base base r.pushes ++ cleared_from (length r.pops - length r.pushes) (base + length r.pushes)) m
      (Contains-append_right (written_from operand base base r.pushes) (cleared_from (length r.pops - length r.pushes) (base + length r.pushes)) m
      (is_cleared (length r.pops - length r.pushes) (base + length r.pushes) m (record { place = place - length r.pushes; inside = omega (arith, past, inside); there = omega (arith, past, there); reads = is })))

  pub are_moves_of : AreMovesOf r operand base (moves_of r operand base)
  are_moves_of = record { each = λ m. (there m, back m) }
    where
      there : (m : Move) → Contains (moves_of r operand base) m → IsWrite r operand base m × (m.source ≢ sources.Slot m.target)
      there m c = let d = changing_is (writes_of r operand base) m c in (write_is m d.0, move_changes m.source m.target d.1)

      back : (m : Move) → IsWrite r operand base m × (m.source ≢ sources.Slot m.target) → Contains (moves_of r operand base) m
      back m w = is_changing (writes_of r operand base) m (is_write m w.0) (changes_move m.source m.target w.1)
