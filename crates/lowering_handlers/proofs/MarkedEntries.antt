-- The entries that are marked, and the first of them that takes a class which is not in the program.
use Rattle.std.proofs.Common.{◌≡◌, ◌⊎◌, inl, inr, ℕ, ◌+◌, ◌<◌, Bool, true, false, List, [], ◌∷◌, ◌++◌, length, take, get_or, set, drop, eqb, Option, Some, None, refl, sym, ap, ◌∙◌, subst, add-one, arith}
use Rattle.std.specs.List.{slice_get, Contains, AllZip}
use Rattle.std.proofs.Math.Nat.{eq-or-lt_of_le}
use Rattle.std.proofs.Math.Seq.{take-suc, take-length}
use Rattle.std.proofs.lemmas.Bool.Decides.{eqb_tells}
use Rattle.std.proofs.lemmas.List.{length-set, take-append-le}
use Rattle.std.proofs.lemmas.List.Elements.{Contains-append_left, Contains-push, Contains-push_cases}
use Rattle.std.proofs.lemmas.Option.{none-some, same_Some, slice_get_within, slice_get-get_or}
use Rattle.program_index.proofs.OrderPlaces.{at_set, past_set}
use Rattle.flow_graph.specs.declared.steps.GraphStep.{GraphStep}
use Rattle.jvm_model.specs.declared.code.Handler.{Handler}
use Rattle.jvm_model.specs.declared.number.ClassNo.{ClassNo}
use Rattle.jvm_model.specs.declared.pool.PoolEntry.{PoolEntry}
use Rattle.jvm_model.specs.LinkedPrograms.{IsProgram}
use Rattle.jvm_model.specs.Programs.{Program}
use Rattle.jvm_model.specs.Subtypes.{class_named}
use Rattle.hierarchy.proofs.ClassPlaces.{class_at}
use Rattle.lowering_spec.specs.LoweredMethods.{IsCatch, all, of_class}
use Rattle.lowering_handlers.specs.declared.catches.Catch.{Catch}
use Rattle.lowering_handlers.specs.declared.catches.Catch.TheVariants.{Each, OfClass, Unknown}
use Rattle.lowering_handlers.specs.Catches.{TakesUnknown, IsCatchOf, IsUnknownEntry}
use Rattle.lowering_handlers.specs.Entries.{IsUsed, MarksEach, AreUsedMarks}
use Rattle.lowering_handlers.proofs.TakenHandlers.{catch_at}

pub front_more : {X : Type 0} (xs : List X) (i : ℕ) (d : X) → i < length xs → take (i + 1) xs ≡ take i xs ++ get_or xs i d ∷ []
front_more xs i d lt = ap (λ (n : ℕ). take n xs) (add-one i) ∙ take-suc xs i d lt

abbrev IsMarked : List Bool → ℕ → Type 0
IsMarked marks place = slice_get marks place ≡ Some true

pub marks_more : (old : List Bool) (places : List ℕ) (marks : List Bool) (k : ℕ) → k < length old → MarksEach old places marks → MarksEach old (places ++ k ∷ []) (set marks k true)
marks_more old places marks k within m = record {
  long = length-set marks k true ∙ m.long;
  each = λ place lt. (λ is. to place lt (cases place) is, λ is. back place lt (cases place) is);
}
  where
    inside : k < length marks
    inside = subst (λ (n : ℕ). k < n) (sym m.long) within

    cases : (place : ℕ) → (place ≡ k) ⊎ (place ≡ k → ⊥)
    cases place = by (eqb_tells place k)
      where
        by : ((eqb place k ≡ true) × (place ≡ k)) ⊎ ((eqb place k ≡ false) × (place ≡ k → ⊥)) → (place ≡ k) ⊎ (place ≡ k → ⊥)
        by (inl h) = inl h.1
        by (inr h) = inr h.1

    to : (place : ℕ) → place < length old → (place ≡ k) ⊎ (place ≡ k → ⊥) → IsMarked (set marks k true) place → IsMarked old place ⊎ Contains (places ++ k ∷ []) place
    to place lt (inl same) is = inr (subst (λ (n : ℕ). Contains (places ++ k ∷ []) n) (sym same) (Contains-push places k))
    to place lt (inr other) is = before ((m.each place lt).0 (sym (past_set marks k place true other) ∙ is))
      where
        before : IsMarked old place ⊎ Contains places place → IsMarked old place ⊎ Contains (places ++ k ∷ []) place
        before (inl h) = inl h
        before (inr there) = inr (Contains-append_left places (k ∷ []) place there)

    back : (place : ℕ) → place < length old → (place ≡ k) ⊎ (place ≡ k → ⊥) → IsMarked old place ⊎ Contains (places ++ k ∷ []) place → IsMarked (set marks k true) place
    back place lt (inl same) h = subst (λ (n : ℕ). IsMarked (set marks k true) n) (sym same) (at_set marks k true inside)
    back place lt (inr other) h = past_set marks k place true other ∙ (m.each place lt).1 (before h)
      where
        later : Contains places place ⊎ (k ≡ place) → IsMarked old place ⊎ Contains places place
        later (inl there) = inr there
        later (inr here) = absurd (other (sym here))

        before : IsMarked old place ⊎ Contains (places ++ k ∷ []) place → IsMarked old place ⊎ Contains places place
        before (inl is) = inl is
        before (inr there) = later (Contains-push_cases places k place there)

-- what is lent of a list, and written, is put in its place
pub written_back : {X : Type 0} (len : ℕ) (new items : List X) → len ≡ length items → length new ≡ length items → take len (new ++ drop (length new) items) ≡ new
written_back len new items full long =
    let same : len ≡ length new = full ∙ sym long in
    take-append-le len new (drop (length new) items) (omega (arith, same)) ∙ ap (λ (n : ℕ). take n new) same ∙ take-length new

-- ---- what the steps cover

used_before : (steps : List GraphStep) (step : GraphStep) (place : ℕ) → IsUsed steps place → IsUsed (steps ++ step ∷ []) place
used_before steps step place u = record { step = u.step; there = Contains-append_left steps (step ∷ []) u.step u.there; covers = u.covers }

used_cases : (steps : List GraphStep) (step : GraphStep) (place : ℕ) → IsUsed (steps ++ step ∷ []) place → IsUsed steps place ⊎ Contains step.handlers place
used_cases steps step place u = by (Contains-push_cases steps step u.step u.there)
  where
    by : Contains steps u.step ⊎ (step ≡ u.step) → IsUsed steps place ⊎ Contains step.handlers place
    by (inl there) = inl (record { step = u.step; there = there; covers = u.covers })
    by (inr same) = inr (subst (λ (s : GraphStep). Contains s.handlers place) (sym same) u.covers)

pub used_more : (count : ℕ) (steps : List GraphStep) (step : GraphStep) (old new : List Bool) → AreUsedMarks count steps old → MarksEach old step.handlers new → AreUsedMarks count (steps ++ step ∷ []) new
used_more count steps step old new far marks = record {
  long = marks.long ∙ far.long;
  each = λ place lt. (λ is. to place lt ((marks.each place (inside place lt)).0 is), λ u. (marks.each place (inside place lt)).1 (back place lt (used_cases steps step place u)));
}
  where
    inside : (place : ℕ) → place < count → place < length old
    inside place lt = subst (λ (n : ℕ). place < n) (sym far.long) lt

    to : (place : ℕ) → place < count → IsMarked old place ⊎ Contains step.handlers place → IsUsed (steps ++ step ∷ []) place
    to place lt (inl is) = used_before steps step place ((far.each place lt).0 is)
    to place lt (inr covers) = record { step = step; there = Contains-push steps step; covers = covers }

    back : (place : ℕ) → place < count → IsUsed steps place ⊎ Contains step.handlers place → IsMarked old place ⊎ Contains step.handlers place
    back place lt (inl u) = inl ((far.each place lt).1 u)
    back place lt (inr covers) = inr covers

-- ---- what they take

-- an entry that takes a class which is not in the program takes nothing else
unknown_alone : (p : Program) → IsProgram p → (pool : List PoolEntry) (h : Handler) (c : Catch) → IsCatchOf p pool h c → TakesUnknown p pool h → c ≡ Unknown
unknown_alone p program pool h Each takes unknown = by None takes refl
  where
    by : (o : Option ClassNo) → IsCatch p pool h.catch_type o → o ≡ None → Each ≡ Unknown
    by o (all zero_is is) none = absurd (unknown.typed zero_is)
    by o (of_class typed name number named number_is is) none = absurd (none-some number (sym none ∙ is))
unknown_alone p program pool h (OfClass n) takes unknown = by (Some n) takes refl
  where
    by : (o : Option ClassNo) → IsCatch p pool h.catch_type o → o ≡ Some n → OfClass n ≡ Unknown
    by o (all zero_is is) some = absurd (unknown.typed zero_is)
    by o (of_class typed name number named number_is is) some =
        let at = class_at p program number.0 number_is.class number_is.stands in
        let same : name ≡ unknown.name = same_Some name unknown.name (sym named ∙ unknown.named) in
        let there : class_named p unknown.name ≡ Some number_is.class = ap (class_named p) (sym same ∙ sym number_is.named ∙ sym at.name) ∙ at.named in
        absurd (none-some number_is.class (sym unknown.absent ∙ there))
unknown_alone p program pool h Unknown takes unknown = refl

module _ (p : Program) (pool : List PoolEntry) (handlers : List Handler) (catches : List Catch) (each : AllZip (IsCatchOf p pool) handlers catches) where
  pub entry_unknown : (place : ℕ) (d : Handler) (e : Catch) → place < length handlers → get_or catches place e ≡ Unknown → IsUnknownEntry p pool handlers place
  entry_unknown place d e lt is = record {
    handler = get_or handlers place d;
    stands = slice_get-get_or handlers place d lt;
    takes = subst (λ (c : Catch). IsCatchOf p pool (get_or handlers place d) c) is (catch_at p pool handlers catches each place d e lt);
  }

  pub unknown_entry : IsProgram p → (place : ℕ) (e : Catch) → IsUnknownEntry p pool handlers place → get_or catches place e ≡ Unknown
  unknown_entry program place e u =
      let lt = slice_get_within handlers place u.handler u.stands in
      let same : get_or handlers place u.handler ≡ u.handler = same_Some _ u.handler (sym (slice_get-get_or handlers place u.handler lt) ∙ u.stands) in
      let takes = subst (λ (h : Handler). IsCatchOf p pool h (get_or catches place e)) same (catch_at p pool handlers catches each place u.handler e lt) in
      unknown_alone p program pool u.handler (get_or catches place e) takes u.takes

-- ---- the places so far

pub none_more : (P : ℕ → Type 0) (n : ℕ) → ((k : ℕ) → k < n → P k → ⊥) → (P n → ⊥) → (k : ℕ) → k < n + 1 → P k → ⊥
none_more P n none not_here k lt is = by (eq-or-lt_of_le (omega (arith, lt)))
  where
    by : (k ≡ n) ⊎ (k < n) → ⊥
    by (inl same) = not_here (subst P same is)
    by (inr less) = none k less is

pub is_marked : (marks : List Bool) (place : ℕ) (d : Bool) → place < length marks → get_or marks place d ≡ true → slice_get marks place ≡ Some true
is_marked marks place d lt is = slice_get-get_or marks place d lt ∙ ap (λ (b : Bool). Some b) is

pub marked_is : (marks : List Bool) (place : ℕ) (d : Bool) → place < length marks → slice_get marks place ≡ Some true → get_or marks place d ≡ true
marked_is marks place d lt is = same_Some _ true (sym (slice_get-get_or marks place d lt) ∙ is)
