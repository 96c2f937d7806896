-- Back in the frame that waited: what the exit hands on, and what joins it from the frame.
use Rattle.std.proofs.Common.{◌≡◌, ◌⊎◌, inl, inr, ℕ, Bool, true, false, not, ◌&&◌, ◌||◌, List, [], ◌∷◌, ◌++◌, refl, sym, ◌∙◌, ap, subst}
use Rattle.std.specs.List.{AllByRecursion, Contains, filter, list_any}
use Rattle.std.proofs.lemmas.Bool.{and_cases, and_from, and_parts, false≢true, not-false, not-true, not_from_false, or_parts, true≢false}
use Rattle.std.proofs.lemmas.List.Elements.{Contains-append_cases, Contains-append_left, Contains-append_right}
use Rattle.jvm_model.specs.declared.number.FieldNo.{FieldNo}
use Rattle.jvm_model.specs.declared.number.MethodNo.{MethodNo}
use Rattle.op_model.specs.declared.lowered.LoweredMethod.{LoweredMethod}
use Rattle.op_model.specs.declared.node.Node.{Node}
use Rattle.points_to_rules.specs.Facts.{Fact, may_write}
use Rattle.access_paths.specs.declared.root.Root.{Root}
use Rattle.access_paths.specs.declared.root.Root.TheVariants.{Slot, Static, Returned, Thrown}
use Rattle.access_paths.specs.Paths.{Path, bare}
use Rattle.stage_facts.specs.Facts.{Tuple, SiteFact, none_yet, some_yet, of_object}
use Rattle.stage_transfer.specs.Settings.{among, AreAnswersOf, Setting}
use Rattle.stage_transfer.specs.Calls.{by_call, by_trigger, Entering, is_dropped, is_handed_on, is_kept, is_left_out, is_slot, joins, left_by_tuple, left_fact, left_set, passed}
use Rattle.stage_transfer.specs.Stages.{finished}
use Rattle.stage_relations.specs.Laws.{IsIdle, IsOne}
use Rattle.stage_relations.specs.Roots.{HandedOn, IsDropped, StaysIn}
use Rattle.stage_relations.specs.Relations.{IsClear, IsSlotRoot, Joined, Joins, must_not_of, must_of, Source}
use Rattle.stage_transfer_laws.proofs.CutRelations.{joins_cut}
use Rattle.stage_transfer_laws.proofs.Finished.{finished_cut}
use Rattle.stage_transfer_laws.proofs.Members.{in_filter, none_among, none_passes, not_among, of_filter}
use Rattle.stage_transfer_laws.proofs.Paths.{in_set, of_set}
use Rattle.stage_transfer_laws.proofs.Results.{is_only}

-- ---- roots

handed : (by : Entering) (r : Root) → is_handed_on by r ≡ true → HandedOn by r r
handed by (Slot z) is = absurd (false≢true is)
handed by (Static f) is = HandedOn.static
handed (by_call c) Returned is = HandedOn.returned refl
handed by_trigger Returned is = absurd (false≢true is)
handed (by_call c) Thrown is = HandedOn.thrown refl
handed by_trigger Thrown is = absurd (false≢true is)

is_handed : (by : Entering) (r q : Root) → HandedOn by r q → (r ≡ q) × (is_handed_on by r ≡ true)
is_handed by r q HandedOn.static = (refl, refl)
is_handed by r q (HandedOn.returned is) = (refl, ap (λ (b : Entering). is_handed_on b Returned) is)
is_handed by r q (HandedOn.thrown is) = (refl, ap (λ (b : Entering). is_handed_on b Thrown) is)

-- what is not dropped is handed on
not_dropped : (by : Entering) (r : Root) → (IsSlotRoot r → ⊥) → (not (is_handed_on by r) && not (is_slot r)) ≡ false → is_handed_on by r ≡ true
not_dropped by (Slot z) other is = absurd (other tt)
not_dropped by (Static f) other is = refl
not_dropped by Returned other is =
    elim (and_cases (not (is_handed_on by Returned)) true is) [ inl on ↦ not-false (is_handed_on by Returned) on | inr never ↦ absurd (true≢false never) ]
not_dropped by Thrown other is =
    elim (and_cases (not (is_handed_on by Thrown)) true is) [ inl on ↦ not-false (is_handed_on by Thrown) on | inr never ↦ absurd (true≢false never) ]

dropped_is : (by : Entering) (r : Root) → IsDropped by r → (not (is_handed_on by r) && not (is_slot r)) ≡ true
dropped_is by r (IsDropped.returned is) = ap (λ (b : Entering). not (is_handed_on b Returned) && true) is
dropped_is by r (IsDropped.thrown is) = ap (λ (b : Entering). not (is_handed_on b Thrown) && true) is

record IsKeptSlot (by : Entering) (r : Root) : Type 0 where
  slot : ℕ
  root_is : r ≡ Slot slot
  stays : StaysIn by slot

kept_slot : (by : Entering) (r : Root) → is_kept by r ≡ true → IsKeptSlot by r
kept_slot by (Slot z) is = record { slot = z; root_is = refl; stays = not_among (passed by) z (not-true (among (passed by) z) is) }
kept_slot by (Static f) is = absurd (false≢true is)
kept_slot by Returned is = absurd (false≢true is)
kept_slot by Thrown is = absurd (false≢true is)

-- ---- sets

unwritten_fields : (S : Fact → Type 0) (w : Setting) → AreAnswersOf S w.answers → (target : MethodNo) (fields : List FieldNo)
    → list_any (w.answers.may_write_field target) fields ≡ false → AllByRecursion (λ (f : FieldNo). S (may_write target f) → ⊥) fields
unwritten_fields S w answers target [] none = tt
unwritten_fields S w answers target (f ∷ fields) none =
    let parts = or_parts (w.answers.may_write_field target f) (list_any (w.answers.may_write_field target) fields) none in
    (λ written. false≢true (sym parts.0 ∙ (answers.writes target f).1 written), unwritten_fields S w answers target fields parts.1)

of_left : (S : Fact → Type 0) (w : Setting) → AreAnswersOf S w.answers → (by : Entering) (target : MethodNo) (caller exit : List Path) (y : Path)
    → Contains (left_set w by target caller exit) y → Source (HandedOn by) exit y ⊎ Joined S target (StaysIn by) caller y
of_left S w answers by target caller exit y there =
    elim (Contains-append_cases (filter (λ (x : Path). is_handed_on by x.root) exit) (filter (joins w by target) caller) y
    (of_set (filter (λ (x : Path). is_handed_on by x.root) exit ++ filter (joins w by target) caller) y there)) [
      | inl out ↦
          let found = of_filter (λ (x : Path). is_handed_on by x.root) exit y out in
          inl (record { path = y; listed = found.0; goes = handed by y.root found.1; fields = refl })
      | inr stays ↦
          let found = of_filter (joins w by target) caller y stays in
          let parts = and_parts (is_kept by y.root) (not (list_any (w.answers.may_write_field target) y.fields)) found.1 in
          let kept = kept_slot by y.root parts.0 in
          inr (record {
            slot = kept.slot;
            root_is = kept.root_is;
            stays = kept.stays;
            listed = found.0;
            fields = unwritten_fields S w answers target y.fields (not-true (list_any (w.answers.may_write_field target) y.fields) parts.1);
          })
    ]

out_stays : (w : Setting) (by : Entering) (target : MethodNo) (caller exit : List Path) (y : Path) → Contains exit y → is_handed_on by y.root ≡ true
    → Contains (left_set w by target caller exit) y
out_stays w by target caller exit y there is =
    in_set (filter (λ (x : Path). is_handed_on by x.root) exit ++ filter (joins w by target) caller) y
    (Contains-append_left (filter (λ (x : Path). is_handed_on by x.root) exit) (filter (joins w by target) caller) y
    (in_filter (λ (x : Path). is_handed_on by x.root) exit y there is))

slot_joins : (w : Setting) (by : Entering) (target : MethodNo) (caller exit : List Path) (z : ℕ) → StaysIn by z → Contains caller (bare (Slot z))
    → Contains (left_set w by target caller exit) (bare (Slot z))
slot_joins w by target caller exit z stays there =
    in_set (filter (λ (x : Path). is_handed_on by x.root) exit ++ filter (joins w by target) caller) (bare (Slot z))
    (Contains-append_right (filter (λ (x : Path). is_handed_on by x.root) exit) (filter (joins w by target) caller) (bare (Slot z))
    (in_filter (joins w by target) caller (bare (Slot z)) there
    (and_from (not (among (passed by) z)) true (not_from_false (among (passed by) z) (none_among (passed by) z stays)) refl)))

-- ---- tuples

-- What the law asks for.
abbrev Left : (Fact → Type 0) → Entering → MethodNo → SiteFact → Tuple → Tuple → Type 0
Left S by target sent out u = Joins S target (HandedOn by) (StaysIn by) (IsDropped by) sent out u

-- A tuple with these sets, by what its `may` says.
record IsLeft (w : Setting) (by : Entering) (target : MethodNo) (sent : SiteFact) (out u : Tuple) : Type 0 where
  unique : u.unique ≡ out.unique
  state : u.state ≡ out.state
  must : u.must ≡ left_set w by target (must_of sent) out.must
  must_not : u.must_not ≡ left_set w by target (must_not_of sent) out.must_not
  may : u.may ≡ false → out.may ≡ false
  clear : u.may ≡ false → IsClear sent
  handed_on : u.may ≡ false → list_any (is_dropped by) out.must ≡ false

left_joins : (S : Fact → Type 0) (w : Setting) → AreAnswersOf S w.answers → (by : Entering) (target : MethodNo) (sent : SiteFact) (out u : Tuple)
    → IsLeft w by target sent out u
    → Left S by target sent out u
left_joins S w answers by target sent out u is = record {
  unique = λ e. sym is.unique ∙ e;
  state = is.state;
  must = λ y there. of_left S w answers by target (must_of sent) out.must y (subst (λ (ps : List Path). Contains ps y) is.must there);
  must_not = λ y there. of_left S w answers by target (must_not_of sent) out.must_not y (subst (λ (ps : List Path). Contains ps y) is.must_not there);
  may = is.may;
  clear = is.clear;
  roots = λ e r q goes there.
      let on = is_handed by r q goes in
      subst (λ (ps : List Path). Contains ps (bare q)) (sym is.must)
      (subst (λ (p : Root). Contains (left_set w by target (must_of sent) out.must) (bare p)) on.0
      (out_stays w by target (must_of sent) out.must (bare r) there on.1));
  fields = λ e x there has other.
      let on = not_dropped by x.root other (none_passes (is_dropped by) out.must x (is.handed_on e) there) in
      record {
        path = x;
        listed = subst (λ (ps : List Path). Contains ps x) (sym is.must) (out_stays w by target (must_of sent) out.must x there on);
        goes = handed by x.root on;
        fields = refl;
      };
  slots = λ e z stays there.
      subst (λ (ps : List Path). Contains ps (bare (Slot z))) (sym is.must) (slot_joins w by target (must_of sent) out.must z stays there);
  dropped = λ e x there dropped. false≢true (sym (none_passes (is_dropped by) out.must x (is.handed_on e) there) ∙ dropped_is by x.root dropped);
}

left_is : (w : Setting) (l : LoweredMethod) (n : Node) (by : Entering) (target : MethodNo) (sent : SiteFact) (out : Tuple)
    → IsLeft w by target sent out (left_by_tuple w l n by target sent out)
left_is w l n by target (of_object t) out =
    let dropped : Bool = list_any (is_dropped by) out.must in
    let left_out : Bool = list_any (is_left_out w l n by target (left_set w by target t.must out.must)) t.must in
    record {
      unique = refl;
      state = refl;
      must = refl;
      must_not = refl;
      may = λ e. (or_parts out.may (t.may || (dropped || left_out)) e).0;
      clear = λ e. (or_parts t.may (dropped || left_out) (or_parts out.may (t.may || (dropped || left_out)) e).1).0;
      handed_on = λ e. (or_parts dropped left_out (or_parts t.may (dropped || left_out) (or_parts out.may (t.may || (dropped || left_out)) e).1).1).0;
    }
left_is w l n by target idle out = record {
  unique = refl;
  state = refl;
  must = refl;
  must_not = refl;
  may = λ e. (or_parts out.may (list_any (is_dropped by) out.must) e).0;
  clear = λ e. tt;
  handed_on = λ e. (or_parts out.may (list_any (is_dropped by) out.must) e).1;
}

pub leave_is : (S : Fact → Type 0) (w : Setting) → AreAnswersOf S w.answers
    → (l : LoweredMethod) (n : Node) (by : Entering) (target : MethodNo) (sent : SiteFact) (out : Tuple)
    → IsOne (Joins S target (HandedOn by) (StaysIn by) (IsDropped by) sent out) (finished w (left_fact w l n by target sent (of_object out)))
leave_is S w answers l n by target sent out =
    let u = left_by_tuple w l n by target sent out in
    is_only w (Joins S target (HandedOn by) (StaysIn by) (IsDropped by) sent out) u
    (joins_cut (finished_cut w.stage u) (left_joins S w answers by target sent out u (left_is w l n by target sent out)))

pub leave_idle : (w : Setting) (l : LoweredMethod) (n : Node) (by : Entering) (target : MethodNo) (sent f : SiteFact) → IsIdle f
    → finished w (left_fact w l n by target sent f) ≡ f
leave_idle w l n by target sent none_yet idle = refl
leave_idle w l n by target sent some_yet idle = refl
leave_idle w l n by target sent (of_object t) idle = absurd idle
