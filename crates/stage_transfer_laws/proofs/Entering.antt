-- Into a method: static fields stay, and the paths of arguments become those of the callee's slots.
use Rattle.std.proofs.Common.{Bool, ◌≡◌, inl, inr, ℕ, zero, suc, ◌+◌, true, false, not, ◌&&◌, List, [], ◌∷◌, ◌++◌, Option, Some, None, refl, sym, ◌∙◌, ap, subst, arith}
use Rattle.std.specs.Prelude.{slice_get}
use Rattle.std.specs.List.{Contains, filter, list_any}
use Rattle.std.specs.Option.{option_to_list}
use Rattle.std.proofs.lemmas.Bool.{and_cases, false≢true, not-false, or_parts}
use Rattle.std.proofs.lemmas.List.Elements.{Contains-append_cases, Contains-append_left, Contains-append_right}
use Rattle.std.proofs.lemmas.Option.{none-some, same_Some}
use Rattle.list_laws.proofs.Members.{contains_first, contains_none, contains_only}
use Rattle.list_laws.proofs.Places.{place_of}
use Rattle.jvm_model.specs.declared.number.FieldNo.{FieldNo}
use Rattle.op_model.specs.declared.op.Call.{Call as NodeCall}
use Rattle.access_paths.specs.declared.root.Root.{Root}
use Rattle.access_paths.specs.declared.root.Root.TheVariants.{Slot, Static, Returned, Thrown}
use Rattle.access_paths.specs.Paths.{Path}
use Rattle.stage_facts.specs.Facts.{Tuple, SiteFact, none_yet, some_yet, of_object}
use Rattle.stage_transfer.specs.Settings.{Setting}
use Rattle.stage_transfer.specs.Calls.{begins_static, by_call, by_trigger, entered, entered_fact, entered_set, Entering, is_passed_on, is_static, passed, passing, passing_from, passing_to}
use Rattle.stage_transfer.specs.Changes.{Copy, copied, has_fields}
use Rattle.stage_transfer.specs.Stages.{finished}
use Rattle.stage_relations.specs.Laws.{IsIdle, IsOne}
use Rattle.stage_relations.specs.Roots.{Entered}
use Rattle.stage_relations.specs.Relations.{HasFields, NoPath, path, Reroots, Source, Target}
use Rattle.stage_transfer_laws.proofs.Changed.{has_some, in_copied, of_copied, root_copy}
use Rattle.stage_transfer_laws.proofs.CutRelations.{reroots_cut}
use Rattle.stage_transfer_laws.proofs.Finished.{finished_cut}
use Rattle.stage_transfer_laws.proofs.Members.{in_filter, is_among, none_passes, of_filter, of_flat_map, of_option}
use Rattle.stage_transfer_laws.proofs.Paths.{in_set, of_set}
use Rattle.stage_transfer_laws.proofs.Results.{is_only}

-- ---- arguments

record IsPassing (unit : ℕ) (arguments : List (Option ℕ)) (k : Copy) : Type 0 where
  place : ℕ
  slot : ℕ
  stands : slice_get arguments place ≡ Some (Some slot)
  is : root_copy (Slot slot) (Slot (unit + place)) ≡ k

passing_first : (unit : ℕ) (a : Option ℕ) (rest : List (Option ℕ)) (k : Copy) → Contains (passing_to unit a) k → IsPassing unit (a ∷ rest) k
passing_first unit None rest k there = absurd (contains_none k there)
passing_first unit (Some z) rest k there =
    let at : unit + 0 ≡ unit = omega arith in
    record {
      place = 0;
      slot = z;
      stands = refl;
      is = ap (λ (i : ℕ). root_copy (Slot z) (Slot i)) at ∙ contains_only (root_copy (Slot z) (Slot unit)) k there;
    }

of_passing : (unit : ℕ) (arguments : List (Option ℕ)) (k : Copy) → Contains (passing_from unit arguments) k → IsPassing unit arguments k
of_passing unit [] k there = absurd (contains_none k there)
of_passing unit (a ∷ rest) k there = elim (Contains-append_cases (passing_to unit a) (passing_from (suc unit) rest) k there) [
  | inl first ↦ passing_first unit a rest k first
  | inr later ↦
      let found = of_passing (suc unit) rest k later in
      let at : unit + suc found.place ≡ suc unit + found.place = omega arith in
      record { place = suc found.place; slot = found.slot; stands = found.stands; is = ap (λ (i : ℕ). root_copy (Slot found.slot) (Slot i)) at ∙ found.is }
]

in_passing : (unit : ℕ) (arguments : List (Option ℕ)) (place z : ℕ) → slice_get arguments place ≡ Some (Some z)
    → Contains (passing_from unit arguments) (root_copy (Slot z) (Slot (unit + place)))
in_passing unit [] place z stands = absurd (none-some (Some z) stands)
in_passing unit (a ∷ rest) zero z stands =
    let at : unit ≡ unit + 0 = omega arith in
    let is : a ≡ Some z = same_Some a (Some z) stands in
    Contains-append_left (passing_to unit a) (passing_from (suc unit) rest) (root_copy (Slot z) (Slot (unit + 0)))
    (subst (λ (b : Option ℕ). Contains (passing_to unit b) (root_copy (Slot z) (Slot (unit + 0)))) (sym is)
    (subst (λ (i : ℕ). Contains (root_copy (Slot z) (Slot unit) ∷ []) (root_copy (Slot z) (Slot i))) at (contains_first (root_copy (Slot z) (Slot unit)) [])))
in_passing unit (a ∷ rest) (suc place) z stands =
    let at : suc unit + place ≡ unit + suc place = omega arith in
    Contains-append_right (passing_to unit a) (passing_from (suc unit) rest) (root_copy (Slot z) (Slot (unit + suc place)))
    (subst (λ (i : ℕ). Contains (passing_from (suc unit) rest) (root_copy (Slot z) (Slot i))) at (in_passing (suc unit) rest place z stands))

entered_by : (by : Entering) (k : Copy) → Contains (passing by) k → Entered by k.from k.to
entered_by (by_call c) k there =
    let found = of_passing 0 c.arguments k there in
    let at : 0 + found.place ≡ found.place = omega arith in
    subst (λ (k : Copy). Entered (by_call c) k.from k.to) found.is
    (subst (λ (i : ℕ). Entered (by_call c) (Slot found.slot) (Slot i)) (sym at) (Entered.argument refl found.stands))
entered_by by_trigger k there = absurd (contains_none k there)

passed_copy : (by : Entering) (c : NodeCall) (unit z : ℕ) → by ≡ by_call c → slice_get c.arguments unit ≡ Some (Some z)
    → Contains (passing by) (root_copy (Slot z) (Slot unit))
passed_copy by c unit z is stands =
    let at : 0 + unit ≡ unit = omega arith in
    subst (λ (b : Entering). Contains (passing b) (root_copy (Slot z) (Slot unit))) (sym is)
    (subst (λ (i : ℕ). Contains (passing_from 0 c.arguments) (root_copy (Slot z) (Slot i))) at (in_passing 0 c.arguments unit z stands))

record IsUnit (by : Entering) (z : ℕ) : Type 0 where
  unit : ℕ
  goes : Entered by (Slot z) (Slot unit)

unit_of : (by : Entering) (z : ℕ) → Contains (passed by) z → IsUnit by z
unit_of (by_call c) z there =
    let found = of_flat_map option_to_list c.arguments z there in
    let at = place_of c.arguments found.0 found.1 in
    record { unit = at.0; goes = Entered.argument refl (at.1 ∙ ap Some (of_option found.0 z found.2)) }
unit_of by_trigger z there = absurd (contains_none z there)

-- ---- sets

static_entered : (by : Entering) (r : Root) → is_static r ≡ true → Entered by r r
static_entered by (Slot z) is = absurd (false≢true is)
static_entered by (Static f) is = Entered.static
static_entered by Returned is = absurd (false≢true is)
static_entered by Thrown is = absurd (false≢true is)

of_entered : (by : Entering) (set : List Path) (y : Path) → Contains (entered_set by set) y → Source (Entered by) set y
of_entered by set y there =
    elim (Contains-append_cases (filter begins_static set) (copied (passing by) set) y (of_set (filter begins_static set ++ copied (passing by) set) y there)) [
      | inl old ↦
          let found = of_filter begins_static set y old in
          record { path = y; listed = found.0; goes = static_entered by y.root found.1; fields = refl }
      | inr new ↦
          let found = of_copied (passing by) set y new in
          let goes = entered_by by found.copy found.made in
          record {
            path = found.path;
            listed = found.listed;
            goes = subst (λ (r : Root). Entered by r y.root) found.from (subst (λ (p : Path). Entered by found.copy.from p.root) found.is goes);
            fields = ap (λ (p : Path). p.fields) (sym found.is);
          }
    ]

static_stays : (by : Entering) (set : List Path) (y : Path) → Contains set y → begins_static y ≡ true → Contains (entered_set by set) y
static_stays by set y there is =
    in_set (filter begins_static set ++ copied (passing by) set) y
    (Contains-append_left (filter begins_static set) (copied (passing by) set) y (in_filter begins_static set y there is))

argument_enters : (by : Entering) (set : List Path) (c : NodeCall) (unit z : ℕ) (x : Path) → by ≡ by_call c → slice_get c.arguments unit ≡ Some (Some z)
    → Contains set x → Slot z ≡ x.root → Contains (entered_set by set) (path (Slot unit) x.fields)
argument_enters by set c unit z x is stands there root =
    in_set (filter begins_static set ++ copied (passing by) set) (path (Slot unit) x.fields)
    (Contains-append_right (filter begins_static set) (copied (passing by) set) (path (Slot unit) x.fields)
    (in_copied (passing by) set (root_copy (Slot z) (Slot unit)) x (passed_copy by c unit z is stands) there root))

root_enters : (by : Entering) (set : List Path) (r q : Root) (fields : List FieldNo) → Entered by r q → Contains set (path r fields)
    → Contains (entered_set by set) (path q fields)
root_enters by set r q fields (Entered.argument {c = c} {unit = unit} {z = z} is stands) there =
    argument_enters by set c unit z (path (Slot z) fields) is stands there refl
root_enters by set r q fields (Entered.static {f = f}) there = static_stays by set (path (Static f) fields) there refl

-- A root that is passed on has one in the callee.
record IsEntered (by : Entering) (r : Root) : Type 0 where
  to : Root
  goes : Entered by r to

passed_on : (by : Entering) (r : Root) → is_passed_on by r ≡ true → IsEntered by r
passed_on by (Slot z) is = let found = unit_of by z (is_among (passed by) z is) in record { to = Slot found.unit; goes = found.goes }
passed_on by (Static f) is = record { to = Static f; goes = Entered.static }
passed_on by Returned is = absurd (false≢true is)
passed_on by Thrown is = absurd (false≢true is)

-- ---- tuples

-- A path of fields goes where its root is not passed on.
abbrev is_cut_off : Entering → Path → Bool
is_cut_off by x = has_fields x.fields && not (is_passed_on by x.root)

path_enters : (by : Entering) (must : List Path) (x : Path) → list_any (λ (x : Path). is_cut_off by x) must ≡ false
    → Contains must x
    → HasFields x.fields → Target (Entered by) x (entered_set by must)
path_enters by must x none there has =
    let stays = none_passes (λ (x : Path). is_cut_off by x) must x none there in
    elim (and_cases (has_fields x.fields) (not (is_passed_on by x.root)) stays) [
      | inl without ↦ absurd (false≢true (sym without ∙ has_some x.fields has))
      | inr on ↦
          let found = passed_on by x.root (not-false (is_passed_on by x.root) on) in
          record { path = path found.to x.fields; listed = root_enters by must x.root found.to x.fields found.goes there; goes = found.goes; fields = refl }
    ]

entered_reroots : (by : Entering) (t : Tuple) → Reroots (Entered by) (Entered by) NoPath t (entered by t)
entered_reroots by t = record {
  unique = λ e. e;
  state = refl;
  must = of_entered by t.must;
  must_not = λ y there. inl (of_entered by t.must_not y there);
  may = λ e. (or_parts t.may (list_any (λ (x : Path). is_cut_off by x) t.must) e).0;
  roots = λ e r q goes there. root_enters by t.must r q [] goes there;
  fields = λ e x there has. path_enters by t.must x
      (or_parts t.may (list_any (λ (x : Path). is_cut_off by x) t.must) e).1 there has;
}

pub enter_is : (w : Setting) (by : Entering) (u : Tuple) → IsOne (Reroots (Entered by) (Entered by) NoPath u) (finished w (entered_fact by (of_object u)))
enter_is w by u =
    is_only w (Reroots (Entered by) (Entered by) NoPath u) (entered by u)
    (reroots_cut (finished_cut w.stage (entered by u)) (entered_reroots by u))

pub enter_idle : (w : Setting) (by : Entering) (f : SiteFact) → IsIdle f → finished w (entered_fact by f) ≡ f
enter_idle w by none_yet idle = refl
enter_idle w by some_yet idle = refl
enter_idle w by (of_object t) idle = absurd idle
