-- Lists of moves: how they grow, and that those of a row are all of its moves.
use Rattle.std.proofs.Common.{◌≡◌, ◌≢◌, ◌⊎◌, inl, inr, ℕ, zero, suc, ◌+◌, ◌-◌, ◌<◌, Bool, true, false, ◌&&◌, cond, List, [], ◌∷◌, ◌++◌, length, map, take, get_or, Some, slice_get, refl, sym, ap, ◌∙◌, subst, arith, append_assoc}
use Rattle.std.specs.List.{Contains, list_all}
use Rattle.std.proofs.lemmas.Bool.{and_parts, false≢true, eq-eqb, eqb-true}
use Rattle.std.proofs.lemmas.List.{take_more, length-take, length-map, append-nil}
use Rattle.std.proofs.lemmas.List.Elements.{Contains-append_left, Contains-append_right, Contains-append_cases}
use Rattle.std.proofs.lemmas.Option.{same_Some, none-some}
use Rattle.list_laws.proofs.Members.{contains_cases, contains_first, contains_later, contains_none}
use Rattle.list_laws.proofs.Tests.{passes_at}
use Rattle.jvm_model.specs.declared.opcode.UnitSource.{UnitSource as CodeUnitSource}
use Rattle.jvm_model.specs.RowViews.{source_view}
use Rattle.jvm_model.specs.Table.{Row, UnitSource, popped, the_local, a_null, a_primitive, the_made}
use Rattle.op_model.specs.declared.op.Move.{Move}
use Rattle.op_model.specs.declared.op.Source.{Source}
use Rattle.op_model.specs.declared.op.Source.TheVariants as sources
use Rattle.lowering_spec.specs.Moves.{IsSourceOf, IsWrite, stored, pushed, cleared, AreMovesOf}
use Rattle.lowering_operations.specs.MoveLists.{source_of, is_self, move_to, moves_from, cleared_from, moves_of}

-- ---- how the lists grow

moves_from-append : (operand base z : ℕ) (xs ys : List UnitSource) → moves_from operand base z (xs ++ ys) ≡ moves_from operand base z xs ++ moves_from operand base (z + length xs) ys
moves_from-append operand base z [] ys = let e : z + 0 ≡ z = omega arith in ap (λ n. moves_from operand base n ys) (sym e)
moves_from-append operand base z (x ∷ xs) ys =
    let same : z + 1 + length xs ≡ z + suc (length xs) = omega arith in
    let first = move_to (source_of operand base x) z in
    ap (λ ms. first ++ ms) (moves_from-append operand base (z + 1) xs ys)
    ∙ sym (append_assoc first (moves_from operand base (z + 1) xs) (moves_from operand base (z + 1 + length xs) ys))
    ∙ ap (λ n. (first ++ moves_from operand base (z + 1) xs) ++ moves_from operand base n ys) same

viewed_more : (units : List CodeUnitSource) (i : ℕ) (d : CodeUnitSource) → i < length units → map source_view (take (i + 1) units) ≡ map source_view (take i units) ++ source_view (get_or units i d) ∷ []
viewed_more units i d lt = ap (map source_view) (take_more units i d lt) ∙ appended (take i units) (get_or units i d)
  where
    appended : (xs : List CodeUnitSource) (x : CodeUnitSource) → map source_view (xs ++ x ∷ []) ≡ map source_view xs ++ source_view x ∷ []
    appended [] x = refl
    appended (y ∷ xs) x = ap (λ ys. source_view y ∷ ys) (appended xs x)

-- one more unit
pub moves_more : (operand base z : ℕ) (units : List CodeUnitSource) (i : ℕ) (d : CodeUnitSource) (n : ℕ) (source : Source) → i < length units → n ≡ z + i → source ≡ source_of operand base (source_view (get_or units i d))
    → moves_from operand base z (map source_view (take (i + 1) units)) ≡ moves_from operand base z (map source_view (take i units)) ++ move_to source n
moves_more operand base z units i d n source lt is source_is =
    let before = map source_view (take i units) in
    let unit = source_view (get_or units i d) in
    let e : z + length before ≡ n = omega (arith, length-map (take i units) source_view, length-take i units) in
    ap (λ xs. moves_from operand base z xs) (viewed_more units i d lt)
    ∙ moves_from-append operand base z before (unit ∷ [])
    ∙ ap (λ n. moves_from operand base z before ++ moves_from operand base n (unit ∷ [])) e
    ∙ ap (λ ms. moves_from operand base z before ++ ms) (append-nil (move_to (source_of operand base unit) n))
    ∙ ap (λ s. moves_from operand base z before ++ move_to s n) (sym source_is)

-- what one step of a loop adds
pub added : {X : Type 0} (first now next all more step : List X) → now ≡ first ++ all → next ≡ now ++ step → more ≡ all ++ step → next ≡ first ++ more
added first now next all more step is_now is_next is_more = is_next ∙ ap (λ xs. xs ++ step) is_now ∙ append_assoc first all step ∙ ap (λ xs. first ++ xs) (sym is_more)

-- one more slot that is cleared
pub cleared_more : (z n : ℕ) → cleared_from (n + 1) z ≡ cleared_from n z ++ record { source = sources.Primitive; target = z + n } ∷ []
cleared_more z zero = let e : z + 0 ≡ z = omega arith in ap (λ y. record { source = sources.Primitive; target = y } ∷ []) (sym e)
cleared_more z (suc n) =
    let e : z + 1 + n ≡ z + suc n = omega arith in
    let first : Move = record { source = sources.Primitive; target = z } in
    let more : suc n + 1 ≡ suc (n + 1) = omega arith in
    ap (λ k. cleared_from k z) more
    ∙ ap (λ ms. first ∷ ms) (cleared_more (z + 1) n)
    ∙ ap (λ y. cleared_from (suc n) z ++ record { source = sources.Primitive; target = y } ∷ []) e

-- ---- what stands in a list

same_move : (m : Move) (s : Source) (t : ℕ) → m.source ≡ s → m.target ≡ t → record { source = s; target = t } ≡ m
same_move m s t e f = sym (subst (λ (z : ℕ). m ≡ record { source = s; target = z }) f (subst (λ (q : Source). m ≡ record { source = q; target = m.target }) e refl))

-- a move that a list of units makes, none to itself
record IsUnit (operand base z : ℕ) (units : List UnitSource) (m : Move) : Type 0 where
  pub place : ℕ
  pub unit : UnitSource
  pub stands : slice_get units place ≡ Some unit
  pub there : m.target ≡ z + place
  pub reads : m.source ≡ source_of operand base unit
  pub other : m.source ≢ sources.Slot m.target

not_self : (s : Source) (z : ℕ) → is_self s z ≡ false → s ≢ sources.Slot z
not_self (sources.Slot y) z e is = absurd (false≢true (sym e ∙ eq-eqb y z (cc is)))
not_self sources.Null z e is = cc
not_self sources.Primitive z e is = cc

is_other : (s : Source) (z : ℕ) → s ≢ sources.Slot z → is_self s z ≡ false
is_other (sources.Slot y) z ne = go (is_self (sources.Slot y) z) refl
  where
    go : (b : Bool) → is_self (sources.Slot y) z ≡ b → b ≡ false
    go true e = absurd (ne (ap sources.Slot (eqb-true y z e)))
    go false e = refl
is_other sources.Null z ne = refl
is_other sources.Primitive z ne = refl

in_move_to : (s : Source) (z : ℕ) (m : Move) → Contains (move_to s z) m → (record { source = s; target = z } ≡ m) × (s ≢ sources.Slot z)
in_move_to s z m held = go (is_self s z) refl
  where
    one : Contains (record { source = s; target = z } ∷ []) m → record { source = s; target = z } ≡ m
    one h = by (contains_cases (record { source = s; target = z }) m [] h)
      where
        by : (record { source = s; target = z } ≡ m) ⊎ Contains [] m → record { source = s; target = z } ≡ m
        by (inl e) = e
        by (inr none) = absurd (contains_none m none)

    go : (b : Bool) → is_self s z ≡ b → (record { source = s; target = z } ≡ m) × (s ≢ sources.Slot z)
    go true e = absurd (contains_none m (subst (λ b. Contains (cond b [] (record { source = s; target = z } ∷ [])) m) e held))
    go false e = (one (subst (λ b. Contains (cond b [] (record { source = s; target = z } ∷ [])) m) e held), not_self s z e)

in_moves : (operand base z : ℕ) (units : List UnitSource) (m : Move) → Contains (moves_from operand base z units) m → IsUnit operand base z units m
in_moves operand base z [] m held = absurd (contains_none m held)
in_moves operand base z (u ∷ units) m held = by (Contains-append_cases (move_to (source_of operand base u) z) (moves_from operand base (z + 1) units) m held) (in_moves operand base (z + 1) units m)
  where
    by : Contains (move_to (source_of operand base u) z) m ⊎ Contains (moves_from operand base (z + 1) units) m
        → (Contains (moves_from operand base (z + 1) units) m → IsUnit operand base (z + 1) units m) → IsUnit operand base z (u ∷ units) m
    by (inl first) deeper =
        let is = in_move_to (source_of operand base u) z m first in
        let target : z ≡ m.target = ap (λ (k : Move). k.target) is.0 in
        let source : source_of operand base u ≡ m.source = ap (λ (k : Move). k.source) is.0 in
        record { place = 0; unit = u; stands = refl; there = omega (arith, target); reads = sym source; other = λ e. is.1 (source ∙ e ∙ ap sources.Slot (sym target)) }
    by (inr rest) deeper =
        let w = deeper rest in
        let t = w.there in
        record { place = suc w.place; unit = w.unit; stands = w.stands; there = omega (arith, t); reads = w.reads; other = w.other }

out_moves : (operand base z : ℕ) (units : List UnitSource) (m : Move) → IsUnit operand base z units m → Contains (moves_from operand base z units) m
out_moves operand base z [] m w = absurd (none-some w.unit w.stands)
out_moves operand base z (u ∷ units) m w = by w.place w.stands w.there (λ v. out_moves operand base (z + 1) units m v)
  where
    by : (place : ℕ) → slice_get (u ∷ units) place ≡ Some w.unit → m.target ≡ z + place → (IsUnit operand base (z + 1) units m → Contains (moves_from operand base (z + 1) units) m)
        → Contains (moves_from operand base z (u ∷ units)) m
    by zero stands there deeper =
        let same : u ≡ w.unit = same_Some u w.unit stands in
        let t : m.target ≡ z = omega (arith, there) in
        let source : m.source ≡ source_of operand base u = w.reads ∙ ap (source_of operand base) (sym same) in
        let made : Move = record { source = source_of operand base u; target = z } in
        let ne : source_of operand base u ≢ sources.Slot z = λ e. w.other (source ∙ e ∙ ap sources.Slot (sym t)) in
        let held : Contains (move_to (source_of operand base u) z) m =
        subst (λ (b : Bool). Contains (cond b [] (made ∷ [])) m) (sym (is_other (source_of operand base u) z ne))
        (subst (λ (k : Move). Contains (made ∷ []) k) (same_move m (source_of operand base u) z source t) (contains_first made [])) in
        Contains-append_left (move_to (source_of operand base u) z) (moves_from operand base (z + 1) units) m held
    by (suc n) stands there deeper =
        Contains-append_right (move_to (source_of operand base u) z) (moves_from operand base (z + 1) units) m
        (deeper (record { place = n; unit = w.unit; stands = stands; there = omega (arith, there); reads = w.reads; other = w.other }))

record IsCleared (count target : ℕ) (m : Move) : Type 0 where
  pub place : ℕ
  pub inside : place < count
  pub there : m.target ≡ target + place
  pub reads : m.source ≡ sources.Primitive

cleared_is : (count target : ℕ) (m : Move) → Contains (cleared_from count target) m → IsCleared count target m
cleared_is zero target m there = absurd (contains_none m there)
cleared_is (suc count) target m there = by (contains_cases (record { source = sources.Primitive; target = target }) m (cleared_from count (target + 1)) there) (cleared_is count (target + 1) m)
  where
    by : (record { source = sources.Primitive; target = target } ≡ m) ⊎ Contains (cleared_from count (target + 1)) m → (Contains (cleared_from count (target + 1)) m → IsCleared count (target + 1) m) → IsCleared (suc count) target m
    by (inl e) deeper =
        let t : target ≡ m.target = ap (λ (k : Move). k.target) e in
        record { place = 0; inside = omega arith; there = omega (arith, t); reads = sym (ap (λ (k : Move). k.source) e) }
    by (inr c) deeper = let w = deeper c in let t = w.there in let l = w.inside in record { place = suc w.place; inside = omega (arith, l); there = omega (arith, t); reads = w.reads }

is_cleared : (count target : ℕ) (m : Move) → IsCleared count target m → Contains (cleared_from count target) m
is_cleared zero target m w = let l = w.inside in absurd (omega (arith, l))
is_cleared (suc count) target m w = by w.place w.inside w.there (λ v. is_cleared count (target + 1) m v)
  where
    by : (place : ℕ) → place < suc count → m.target ≡ target + place → (IsCleared count (target + 1) m → Contains (cleared_from count (target + 1)) m) → Contains (cleared_from (suc count) target) m
    by zero l there deeper =
        let t : m.target ≡ target = omega (arith, there) in
        subst (λ (k : Move). Contains (record { source = sources.Primitive; target = target } ∷ cleared_from count (target + 1)) k) (same_move m sources.Primitive target w.reads t) (contains_first _ _)
    by (suc n) l there deeper = contains_later _ m _ (deeper (record { place = n; inside = omega (arith, l); there = omega (arith, there); reads = w.reads }))

-- ---- sources

abbrev pub is_read : UnitSource → Bool
is_read (popped unit) = true
is_read the_local = true
is_read a_null = true
is_read a_primitive = true
is_read the_made = false

-- nothing that the row writes is what an action makes
abbrev pub makes_nothing : Row → Bool
makes_nothing r = list_all is_read r.stores && list_all is_read r.pushes

read_source : (operand base : ℕ) (u : UnitSource) (s : Source) → is_read u ≡ true → s ≡ source_of operand base u → IsSourceOf operand base u s
read_source operand base (popped unit) s e f = f
read_source operand base the_local s e f = f
read_source operand base a_null s e f = f
read_source operand base a_primitive s e f = f
read_source operand base the_made s e f = absurd cc

source_read : (operand base : ℕ) (u : UnitSource) (s : Source) → IsSourceOf operand base u s → s ≡ source_of operand base u
source_read operand base (popped unit) s f = f
source_read operand base the_local s f = f
source_read operand base a_null s f = f
source_read operand base a_primitive s f = f
source_read operand base the_made s f = absurd f

-- ---- the list is all of them

none_to_itself : (m : Move) → m.source ≡ sources.Primitive → m.source ≢ sources.Slot m.target
none_to_itself m e f = absurd (cc (e, f))

module _ (r : Row) (operand base : ℕ) (reads : makes_nothing r ≡ true) where
  both : (list_all is_read r.stores ≡ true) × (list_all is_read r.pushes ≡ true)
  both = and_parts (list_all is_read r.stores) (list_all is_read r.pushes) reads

  abbrev of_stores : List Move
  of_stores = moves_from operand base operand r.stores

  abbrev of_pushes : List Move
  of_pushes = moves_from operand base base r.pushes

  abbrev of_pops : List Move
  of_pops = cleared_from (length r.pops - length r.pushes) (base + length r.pushes)

  abbrev Wanted : Move → Type 0
  Wanted m = IsWrite r operand base m × (m.source ≢ sources.Slot m.target)

  there : (m : Move) → Contains (moves_of r operand base) m → Wanted m
  there m c = by (Contains-append_cases (of_stores ++ of_pushes) of_pops m c)
    where
      written : Contains of_stores m ⊎ Contains of_pushes m → Wanted m
      written (inl s) =
          let w = in_moves operand base operand r.stores m s in
          (stored w.place w.unit w.stands w.there (read_source operand base w.unit m.source (passes_at is_read r.stores w.place w.unit both.0 w.stands) w.reads), w.other)
      written (inr s) =
          let w = in_moves operand base base r.pushes m s in
          (pushed w.place w.unit w.stands w.there (read_source operand base w.unit m.source (passes_at is_read r.pushes w.place w.unit both.1 w.stands) w.reads), w.other)

      by : Contains (of_stores ++ of_pushes) m ⊎ Contains of_pops m → Wanted m
      by (inl s) = written (Contains-append_cases of_stores of_pushes m s)
      by (inr s) =
          let w = cleared_is (length r.pops - length r.pushes) (base + length r.pushes) m s in
          let l = w.inside in
          let t = w.there in
          (cleared (length r.pushes + w.place) (omega arith) (omega (arith, l)) (omega (arith, t)) w.reads, none_to_itself m w.reads)

  back : (m : Move) → IsWrite r operand base m → m.source ≢ sources.Slot m.target → Contains (moves_of r operand base) m
  back m (stored place u stands at is) other =
      Contains-append_left (of_stores ++ of_pushes) of_pops m (Contains-append_left of_stores of_pushes m
      (out_moves operand base operand r.stores m (record { place = place; unit = u; stands = stands; there = at; reads = source_read operand base u m.source is; other = other })))
  back m (pushed place u stands at is) other =
      Contains-append_left (of_stores ++ of_pushes) of_pops m (Contains-append_right of_stores of_pushes m
      (out_moves operand base base r.pushes m (record { place = place; unit = u; stands = stands; there = at; reads = source_read operand base u m.source is; other = other })))
  back m (cleared place past inside at is) other =
      Contains-append_right (of_stores ++ of_pushes) of_pops m
      (is_cleared (length r.pops - length r.pushes) (base + length r.pushes) m (record { place = place - length r.pushes; inside = omega (arith, past, inside); there = omega (arith, past, at); reads = is }))

  pub are_moves_of : AreMovesOf r operand base (moves_of r operand base)
  are_moves_of = record { each = λ m. (there m, λ w. back m w.0 w.1) }
