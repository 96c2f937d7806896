-- The constraints of each place, when the items of a turn are done.
use Rattle.std.proofs.Common.{◌≡◌, ◌⊎◌, ℕ, inl, inr, List, [], refl, sym, subst}
use Rattle.std.specs.List.{Contains}
use Rattle.least_sets.proofs.Places.{nothing_in}
use Rattle.points_to_numbers.specs.declared.item.Item.{Item}
use Rattle.points_to_numbers.specs.declared.item.Item.TheVariants.{Holds, Runs, Calls, Constrains}
use Rattle.points_to_rules.specs.declared.place.PlaceNo.{PlaceNo}
use Rattle.points_to_numbers.specs.declared.keys.ConstraintNo.{ConstraintNo}
use Rattle.grouped_lists.specs.Groups.{values_at, IsPut, IsSame}
use Rattle.grouped_lists.proofs.PutValues.{put_there, put_keeps, put_cases}
use Rattle.points_to.specs.declared.queue.Turn.{Turn}
use Rattle.points_to.specs.declared.queue.Turn.TheVariants.{Sites, One}
use Rattle.points_to.specs.Concluding.{IsIndex}
use Rattle.points_to.specs.Indexed.{ConstraintGroups, IsIndexed}
use Rattle.points_to.specs.Queues.{IsDone, State}
use Rattle.points_to.specs.Turns.{IsInTurn, kind_of}

module _ (old new : ConstraintGroups) (before q : State) (Turn : Item → Type 0) (h : IsIndex (values_at old) before) (still : (i : Item) → IsDone before i → IsDone q i)
    (split : (i : Item) → IsDone q i → IsDone before i ⊎ Turn i) where
  -- no constraint is put
  index_same : IsSame old new → ((place : PlaceNo) (constraint : ConstraintNo) → Turn (Constrains place constraint) → ⊥) → IsIndex (values_at new) q
  index_same same none = record {
    constraints_are = λ place constraint. (
      (λ c. still (Constrains place constraint) ((h.constraints_are place constraint).0 (subst (λ (xs : List ConstraintNo). Contains xs constraint) (same place.0) c))),
      (λ done. elim (split (Constrains place constraint) done) [
        | inl was ↦ subst (λ (xs : List ConstraintNo). Contains xs constraint) (sym (same place.0)) ((h.constraints_are place constraint).1 was)
        | inr turn ↦ absurd (none place constraint turn)
      ]),
    );
  }

  -- one is
  index_put : (p : PlaceNo) (c : ConstraintNo) → IsPut old new p.0 c → IsDone q (Constrains p c) → ((i : Item) → Turn i → i ≡ Constrains p c) → IsIndex (values_at new) q
  index_put p c put now only = record {
    constraints_are = λ place constraint. (
      (λ there. elim (put_cases old new p.0 c put place.0 constraint there) [
        | inl was ↦ still (Constrains place constraint) ((h.constraints_are place constraint).0 was)
        | inr here ↦ subst (IsDone q) (λ i. Constrains (record { 0 = here.0 i }) (here.1 i)) now
      ]),
      (λ done. elim (split (Constrains place constraint) done) [
        | inl was ↦ put_keeps old new p.0 c put place.0 constraint ((h.constraints_are place constraint).1 was)
        | inr turn ↦
            let e = only (Constrains place constraint) turn in
            let places : p ≡ place = cc in
            let constraints : c ≡ constraint = cc in
            subst (λ (k : ConstraintNo). Contains (values_at new place.0) k) constraints
            (subst (λ (k : PlaceNo). Contains (values_at new k.0) c) places (put_there old new p.0 c put))
      ]),
    );
  }

-- nothing is done
pub index_none : (constraints : ℕ → List ConstraintNo) (q : State) → ((place : ℕ) → constraints place ≡ []) → ((i : Item) → IsDone q i → ⊥) → IsIndex constraints q
index_none constraints q none nothing = record {
  constraints_are = λ place constraint. (
    (λ c. absurd (nothing_in constraint (subst (λ (xs : List ConstraintNo). Contains xs constraint) (none place.0) c))),
    (λ done. absurd (nothing (Constrains place constraint) done)),
  );
}

-- a turn is done
pub index_more : (old new : ConstraintGroups) (before q : State) (turn : Turn) → IsIndex (values_at old) before → ((i : Item) → IsDone before i → IsDone q i) → ((i : Item) → IsDone q i → IsDone before i ⊎ IsInTurn turn i)
    → ((i : Item) → IsInTurn turn i → IsDone q i) → IsIndexed old new (kind_of turn) → IsIndex (values_at new) q
index_more old new before q (Sites fresh) h still split now same = index_same old new before q (IsInTurn (Sites fresh)) h still split same (λ place constraint none. none)
index_more old new before q (One (Holds p s)) h still split now same = index_same old new before q (IsInTurn (One (Holds p s))) h still split same (λ place constraint e. cc)
index_more old new before q (One (Runs m)) h still split now same = index_same old new before q (IsInTurn (One (Runs m))) h still split same (λ place constraint e. cc)
index_more old new before q (One (Calls call target)) h still split now same = index_same old new before q (IsInTurn (One (Calls call target))) h still split same (λ place constraint e. cc)
index_more old new before q (One (Constrains p c)) h still split now put = index_put old new before q (IsInTurn (One (Constrains p c))) h still split p c put (now (Constrains p c) refl) (λ i e. e)
