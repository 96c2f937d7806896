-- The work list of what methods may write.
use Rattle.std.proofs.Common.{◌≡◌, ℕ, ◌+◌, ◌<◌, ◌≤◌, List, length, take, Some, sym, ◌∙◌, ap, subst, inl, inr, arith}
use Rattle.std.specs.List.{slice_get, Contains}
use Rattle.std.specs.declared.alloc.Global.{Global}
use Rattle.std.specs.declared.vec.Vec.{Vec}
use Rattle.std.proofs.lemmas.Bool.{cases_lt}
use Rattle.std.proofs.lemmas.Option.{same_Some, slice_get_within}
use Rattle.jvm_model.specs.declared.number.FieldNo.{FieldNo}
use Rattle.jvm_model.specs.declared.number.MethodNo.{MethodNo}
use Rattle.grouped_lists.specs.Groups.{values_at, IsPut}
use Rattle.grouped_lists.proofs.PutValues.{put_there, put_keeps, put_cases}
use Rattle.least_sets.proofs.Places.{place_of, contains_at}
use Rattle.points_to.proofs.ItemPlaces.{last_or_before, last_there, before_there}
use Rattle.slot_names.specs.Branches.{Extends}
use Rattle.slot_names.proofs.ListPlaces.{stands_below}
use Rattle.call_graph.specs.declared.edges.Edge.{Edge}
use Rattle.ground.specs.declared.lists.FieldWrite.{FieldWrite}
use Rattle.ground.specs.Added.{AreAdded, OfOne}
use Rattle.call_graph.specs.Closing.{AreCallers, AreClosed, IsWriteOfOne, MayWrite, by_itself, by_callee}
use Rattle.ground.proofs.Adding.{added_as}

-- ---- callers

-- those of one edge more
pub one_caller_more : (edges : List Edge) (i : ℕ) (e : Edge) → slice_get edges i ≡ Some e → (old new : List (Vec MethodNo Global)) → IsPut old new e.callee.0 e.caller
    → AreCallers (take i edges) old → AreCallers (take (i + 1) edges) new
one_caller_more edges i e at old new put are = record {
  each = λ callee caller. (
    λ there. elim (put_cases old new e.callee.0 e.caller put callee.0 caller there) [
      | inl before ↦ before_there edges i e at _ ((are.each callee caller).0 before)
      | inr last ↦ subst (λ (x : Edge). Contains (take (i + 1) edges) x) (λ j. record { callee = record { 0 = last.0 j }; caller = last.1 j }) (last_there edges i e at)
    ],
    λ there. elim (last_or_before edges i e at _ there) [
      | inl before ↦ put_keeps old new e.callee.0 e.caller put callee.0 caller ((are.each callee caller).1 before)
      | inr last ↦
          subst (λ (x : Edge). Contains (values_at new x.callee.0) x.caller) last (put_there old new e.callee.0 e.caller put)
    ],
  );
}

-- ---- the work list

-- Each write is one that its method may do, its own are there, and the first of them are those of its callers too.
pub record IsClosing (own : List FieldWrite) (edges : List Edge) (writes : List FieldWrite) (done : ℕ) : Type 0 where
  pub sound : (w : FieldWrite) → Contains writes w → MayWrite own edges w.method w.field
  pub first : (w : FieldWrite) → Contains own w → Contains writes w
  pub closed : (k : ℕ) (w : FieldWrite) → k < done → slice_get writes k ≡ Some w → (caller : MethodNo) → Contains edges (record { callee = w.method; caller = caller })
      → Contains writes (record { method = caller; field = w.field })

pub closing_start : (own : List FieldWrite) (edges : List Edge) → IsClosing own edges own 0
closing_start own edges = record {
  sound = λ w there. by_itself w.method w.field there;
  first = λ w there. there;
  closed = λ k w l at caller edge. absurd (omega arith);
}

module _ (own : List FieldWrite) (edges : List Edge) (callers : List (Vec MethodNo Global)) (are : AreCallers edges callers) (old new : List FieldWrite) (done : ℕ) (w : FieldWrite)
    (before : IsClosing own edges old done) (at : slice_get old done ≡ Some w) (added : AreAdded (IsWriteOfOne (values_at callers w.method.0) w.field) old new) (longer : Extends old new) where
  still_there : (v : FieldWrite) → Contains old v → Contains new v
  still_there v there = (added.each v).1 (inl there)

  sound_more : (v : FieldWrite) → Contains new v → MayWrite own edges v.method v.field
  sound_more v there = elim ((added.each v).0 there) [
    | inl stood ↦ before.sound v stood
    | inr of ↦
        let edge = (are.each w.method v.method).0 of.0 in
        subst (λ (f : FieldNo). MayWrite own edges v.method f) (sym of.1) (by_callee w.method v.method w.field edge (before.sound w (contains_at old done w at)))
  ]

  -- a write before the place stood there
  stood : (k : ℕ) (v : FieldWrite) → k < done → slice_get new k ≡ Some v → slice_get old k ≡ Some v
  stood k v l stands =
      let (u, there) = stands_below old k (let within : done < length old = slice_get_within old done w at in omega arith) in
      there ∙ ap Some (same_Some u v (sym (longer.stays k u there) ∙ stands))

  closed_more : (k : ℕ) (v : FieldWrite) → k < done + 1 → slice_get new k ≡ Some v → (caller : MethodNo) → Contains edges (record { callee = v.method; caller = caller })
      → Contains new (record { method = caller; field = v.field })
  closed_more k v l stands caller edge = elim (cases_lt k done) [
    | inl less ↦ still_there _ (before.closed k v less (stood k v less stands) caller edge)
    | inr not_less ↦
        let here : k ≡ done = omega arith in
        let same : w ≡ v = same_Some w v (sym (longer.stays done w at) ∙ ap (λ (i : ℕ). slice_get new i) (sym here) ∙ stands) in
        let edge_of = subst (λ (m : MethodNo). Contains edges (record { callee = m; caller = caller })) (sym (ap (λ (x : FieldWrite). x.method) same)) edge in
        (added.each _).1 (inr ((are.each w.method caller).1 edge_of, ap (λ (x : FieldWrite). x.field) (sym same)))
  ]

  pub closing_more : IsClosing own edges new (done + 1)
  closing_more = record { sound = sound_more; first = λ v there. still_there v (before.first v there); closed = closed_more }

-- ---- its end

module _ (own : List FieldWrite) (edges : List Edge) (writes : List FieldWrite) (done : ℕ) (are : IsClosing own edges writes done) (all : length writes ≤ done) where
  written : (m : MethodNo) (field : FieldNo) → MayWrite own edges m field → Contains writes (record { method = m; field = field })
  written _ _ (by_itself m field there) = are.first _ there
  written _ _ (by_callee callee caller field edge may) =
      let (k, at) = place_of writes _ (written callee field may) in
      are.closed k (record { method = callee; field = field }) (let within = slice_get_within writes k _ at in omega arith) at caller edge

  pub closing_end : AreClosed own edges writes
  closing_end = record { each = λ m field. (λ there. are.sound (record { method = m; field = field }) there, λ may. written m field may) }

-- ---- what is added for callers

-- The caller writes the field.
abbrev pub IsWriteBy : FieldNo → MethodNo → FieldWrite → Type 0
IsWriteBy field caller w = w ≡ record { method = caller; field = field }

pub callers_added : (callers : List MethodNo) (field : FieldNo) (a b : List FieldWrite) → AreAdded (OfOne (IsWriteBy field) callers) a b → AreAdded (IsWriteOfOne callers field) a b
callers_added callers field a b added =
    added_as (OfOne (IsWriteBy field) callers) (IsWriteOfOne callers field) a b
    (λ w (caller, there, is). (subst (λ (m : MethodNo). Contains callers m) (sym (ap (λ (x : FieldWrite). x.method) is)) there, ap (λ (x : FieldWrite). x.field) is))
    (λ w (there, same). (w.method, there, (λ i. record { method = w.method; field = same i })))
    added
