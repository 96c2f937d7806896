-- The moves of an instruction that only pops and writes units leave what the instruction leaves.
use Rattle.std.proofs.Common.{◌≡◌, ◌≢◌, inl, inr, ⊎_elim, ℕ, ◌+◌, ◌-◌, ◌<◌, ◌≤◌, true, Some, List, ◌++◌, length, get_or, sym, ap, ◌∙◌, refl, arith, length-append}
use Rattle.std.specs.Prelude.{Contains, slice_get}
use Rattle.std.proofs.lemmas.Bool.{cases_lt, cases_eq}
use Rattle.std.proofs.lemmas.List.{get_or_past, get_or-append-add}
use Rattle.std.proofs.lemmas.Option.{slice_get-get_or}
use Rattle.jvm_model.specs.Table.{Row, UnitSource, popped, the_local, a_null, a_primitive, the_made}
use Rattle.op_model.specs.declared.op.Move.{Move}
use Rattle.op_model.specs.declared.op.Source.{Source}
use Rattle.op_model.specs.declared.op.Source.TheVariants as sources
use Rattle.machine_bytecode.specs.States.{Value, primitive_value, slot_at}
use Rattle.machine_bytecode.specs.Machine.{value_of, effect}
use Rattle.machine_nodes.specs.Slots.{source_value, AreMoved}
use Rattle.lowering_spec.specs.Moves.{IsSourceOf, IsWrite, stored, pushed, cleared, AreMovesOf}
use Rattle.simulation.proofs.Rows.{is_unmade, are_unmade, all_at}
use Rattle.simulation.proofs.Effects.{at_store, at_push, past_pushes, not_stored}

-- ---- where a unit comes from

-- the source of a unit
abbrev source_of : ℕ → ℕ → UnitSource → Source
source_of operand base (popped unit) = sources.Slot (base + unit)
source_of operand base the_local = sources.Slot operand
source_of operand base a_null = sources.Null
source_of operand base a_primitive = sources.Primitive
source_of operand base the_made = sources.Primitive

is_source : (operand base : ℕ) (u : UnitSource) → is_unmade u ≡ true → IsSourceOf operand base u (source_of operand base u)
is_source operand base (popped unit) e = refl
is_source operand base the_local e = refl
is_source operand base a_null e = refl
is_source operand base a_primitive e = refl
is_source operand base the_made e = absurd cc

-- it reads before as the unit is afterwards
source_reads : (operand : ℕ) (made : Value) (kept units : List Value) (u : UnitSource) (s : Source) → IsSourceOf operand (length kept) u s
    → value_of made (slot_at (kept ++ units) operand) units u ≡ source_value s (kept ++ units)
source_reads operand made kept units (popped unit) s is = sym (get_or-append-add kept units unit primitive_value) ∙ ap (λ (x : Source). source_value x (kept ++ units)) (sym is)
source_reads operand made kept units the_local s is = ap (λ (x : Source). source_value x (kept ++ units)) (sym is)
source_reads operand made kept units a_null s is = ap (λ (x : Source). source_value x (kept ++ units)) (sym is)
source_reads operand made kept units a_primitive s is = ap (λ (x : Source). source_value x (kept ++ units)) (sym is)
source_reads operand made kept units the_made s is = absurd is

-- a source is the slot itself, or is not
data Self (source : Source) (z : ℕ) : Type 0 where
  self : source ≡ sources.Slot z → Self source z
  other : source ≢ sources.Slot z → Self source z

self_or_other : (source : Source) (z : ℕ) → Self source z
self_or_other (sources.Slot y) z = ⊎_elim (λ e. self (ap sources.Slot e)) (λ ne. other (λ e. ne (cc e))) (cases_eq y z)
self_or_other sources.Null z = other (λ e. cc)
self_or_other sources.Primitive z = other (λ e. cc)

-- ---- the moves

module _ (r : Row) (operand : ℕ) (made : Value) (kept units : List Value) (moves : List Move) (all_popped : length units ≡ length r.pops) (stores_fit : 0 < length r.stores → operand + length r.stores ≤ length kept)
    (pushes_unmade : are_unmade r.pushes ≡ true) (stores_unmade : are_unmade r.stores ≡ true) (are : AreMovesOf r operand (length kept) moves) where
  before : List Value
  before = kept ++ units

  after : List Value
  after = effect r operand made kept units

  moved_as : (m : Move) → IsWrite r operand (length kept) m → slot_at after m.target ≡ source_value m.source before
  unfolding before after
  moved_as m (stored place u is at of) = ap (slot_at (effect r operand made kept units)) at ∙ at_store r operand made kept units stores_fit place u is ∙ source_reads operand made kept units u m.source of
  moved_as m (pushed place u is at of) = ap (slot_at (effect r operand made kept units)) at ∙ at_push r operand made kept units stores_fit place u is ∙ source_reads operand made kept units u m.source of
  moved_as m (cleared place low high at of) =
      ap (slot_at (effect r operand made kept units)) at ∙ past_pushes r operand made kept units stores_fit (length kept + place) (omega arith) ∙ ap (λ (x : Source). source_value x (kept ++ units)) (sym of)

  -- a slot that is written, and to which nothing is moved, gets its own value
  written_self : (z : ℕ) (s : Source) → IsWrite r operand (length kept) (record { source = s; target = z }) → ((m : Move) → Contains moves m → m.target ≢ z) → slot_at after z ≡ slot_at before z
  unfolding before
  written_self z s is none = by (self_or_other s z)
    where
      by : Self s z → slot_at after z ≡ slot_at before z
      by (self e) = moved_as (record { source = s; target = z }) is ∙ ap (λ (x : Source). source_value x (kept ++ units)) e
      by (other ne) = absurd (none (record { source = s; target = z }) ((are.each (record { source = s; target = z })).1 (is, ne)) refl)

  unit_of : (us : List UnitSource) (from z : ℕ) → from ≤ z → z < from + length us → slice_get us (z - from) ≡ Some (get_or us (z - from) a_primitive)
  unit_of us from z low high = slice_get-get_or us (z - from) a_primitive (omega arith)

  abbrev Apart : ℕ → Type 0
  Apart z = (m : Move) → Contains moves m → m.target ≢ z

  at_stored : (z : ℕ) → operand ≤ z → z < operand + length r.stores → Apart z → slot_at after z ≡ slot_at before z
  at_stored z low high none =
      let u = get_or r.stores (z - operand) a_primitive in
      let is = unit_of r.stores operand z low high in
      let at : z ≡ operand + (z - operand) = omega arith in
      written_self z (source_of operand (length kept) u)
      (stored (z - operand) u is at (is_source operand (length kept) u (all_at is_unmade r.stores (z - operand) u stores_unmade is))) none

  at_pushed : (z : ℕ) → length kept ≤ z → z < length kept + length r.pushes → Apart z → slot_at after z ≡ slot_at before z
  at_pushed z low high none =
      let u = get_or r.pushes (z - length kept) a_primitive in
      let is = unit_of r.pushes (length kept) z low high in
      let at : z ≡ length kept + (z - length kept) = omega arith in
      written_self z (source_of operand (length kept) u)
      (pushed (z - length kept) u is at (is_source operand (length kept) u (all_at is_unmade r.pushes (z - length kept) u pushes_unmade is))) none

  at_cleared : (z : ℕ) → length kept + length r.pushes ≤ z → z < length kept + length r.pops → Apart z → slot_at after z ≡ slot_at before z
  at_cleared z low high none =
      let at : z ≡ length kept + (z - length kept) = omega arith in
      written_self z sources.Primitive (cleared (z - length kept) (omega arith) (omega arith) at refl) none

  untouched : (z : ℕ) → Apart z → slot_at after z ≡ slot_at before z
  unfolding before after
  untouched z none = ⊎_elim
      (λ lt. ⊎_elim
      (λ less. not_stored r operand made kept units stores_fit z lt (inl less))
      (λ le. ⊎_elim (λ inside. at_stored z le inside none) (λ past. not_stored r operand made kept units stores_fit z lt (inr past)) (cases_lt z (operand + length r.stores)))
      (cases_lt z operand))
      (λ le. ⊎_elim
      (λ inside. at_pushed z le inside none)
      (λ past. ⊎_elim
      (λ inside. at_cleared z past inside none)
      (λ beyond. past_pushes r operand made kept units stores_fit z past ∙ sym (get_or_past (kept ++ units) z primitive_value (omega (arith, length-append kept units, all_popped))))
      (cases_lt z (length kept + length r.pops)))
      (cases_lt z (length kept + length r.pushes)))
      (cases_lt z (length kept))

  pub plain_moved : AreMoved moves (kept ++ units) (effect r operand made kept units)
  unfolding before after
  plain_moved = record {
    moved = λ m held. moved_as m ((are.each m).0 held).0;
    kept = λ z none. untouched z none;
  }
