-- The first states are covered.
use Rattle.std.proofs.Common.{◌≡◌, ◌⊎◌, inl, inr, ℕ, zero, suc, ◌+◌, Bool, true, false, List, [], ◌∷◌, ◌++◌, length, map, take, option_map, option_to_list, Option, Some, None, Contains, refl, sym, ap, ◌∙◌, subst, arith}
use Rattle.std.specs.Prelude.{slice_get, MatchBool}
use Rattle.std.specs.Str.{bytes_eq}
use Rattle.std.proofs.lemmas.Bool.{false≢true}
use Rattle.std.proofs.lemmas.List.{length-append, length-map}
use Rattle.std.proofs.lemmas.List.Elements.{All-contains}
use Rattle.std.proofs.lemmas.Option.{same_Some, none-some, slice_get-map}
use Rattle.std.proofs.lemmas.Slice.Eq.{bytes_eq-Decides}
use Rattle.list_laws.proofs.Members.{contains_none}
use Rattle.list_laws.proofs.Places.{contains_at, in_longer}
use Rattle.jvm_model.specs.declared.number.FieldNo.{FieldNo}
use Rattle.jvm_model.specs.declared.site.Site.{Site}
use Rattle.jvm_model.specs.Programs.{Program, Field, Method}
use Rattle.jvm_model.specs.Soundness.{plain_descriptor}
use Rattle.least_sets.specs.Rules.{IsClosedSet}
use Rattle.op_model.specs.Supplies.{GivenAs}
use Rattle.machine_bytecode.specs.Objects.{Subject, string_name, constant_classes, IsConstant}
use Rattle.machine_bytecode.specs.Start.{boot_site, boot_object, held_classes, boot_classes, held_place, MayBeArgument, IsArgumentArray, AreArgumentObjects, BeginsAs, no_field, holding, by_default, constant, IsFirst}
use Rattle.machine_bytecode.specs.States.{Value, primitive_value, null_value, reference_to, fields, elements, Object, State, new_array, default_value}
use Rattle.points_to_rules.specs.Facts.{elements_of, Fact, may_hold}
use Rattle.points_to_rules.specs.Rules.{HasArguments, argument_site, Instance, entry_strings}
use Rattle.points_to_rules.specs.Rules as rules
use Rattle.coverage.specs.References.{LeadsTo, IsCovered}
use Rattle.coverage.specs.Sites.{of_start, of_arguments}
use Rattle.coverage.specs.Covering.{MayHold, MayHoldStatic, IsCoveredObject, Covers}
use Rattle.coverage.proofs.Lists.{single, behind, IsBehind, where_joined}
use Rattle.coverage.proofs.Values.{leads_by, covered_as, covered_by}
use Rattle.coverage.proofs.Arrays.{default_covered}
use Rattle.coverage.proofs.Worlds.{new_covered}

-- ---- the objects that fields hold

held_among : (fs : List Field) (number : ℕ) (f : Field) (class : List ℕ) → slice_get fs number ≡ Some f → f.holds ≡ Some class → slice_get (held_classes fs) (length (held_classes (take number fs))) ≡ Some class
held_among [] number f class stands holds = absurd (none-some f stands)
held_among (g ∷ fs) zero f class stands holds =
    let here : g.holds ≡ Some class = ap (λ (h : Field). h.holds) (same_Some g f stands) ∙ holds in
    ap (λ (o : Option (List ℕ)). slice_get (option_to_list o ++ held_classes fs) 0) here
held_among (g ∷ fs) (suc number) f class stands holds =
    let later = held_among fs number f class stands holds in
    let long : length (option_to_list g.holds ++ held_classes (take number fs)) ≡ length (option_to_list g.holds) + length (held_classes (take number fs)) = length-append (option_to_list g.holds) (held_classes (take number fs)) in
    subst (λ (k : ℕ). slice_get (option_to_list g.holds ++ held_classes fs) k ≡ Some class) (sym long)
    (behind (option_to_list g.holds) (held_classes fs) (length (held_classes (take number fs))) class later)

held_at : (p : Program) (number : ℕ) (f : Field) (class : List ℕ) → slice_get p.fields number ≡ Some f → f.holds ≡ Some class → slice_get (boot_classes p) (held_place p number) ≡ Some class
held_at p number f class stands holds =
    let long : length (constant_classes ++ held_classes (take number p.fields)) ≡ length constant_classes + length (held_classes (take number p.fields)) = length-append constant_classes (held_classes (take number p.fields)) in
    subst (λ (k : ℕ). slice_get (boot_classes p) k ≡ Some class) (sym long)
    (behind constant_classes (held_classes p.fields) (length (held_classes (take number p.fields))) class (held_among p.fields number f class stands holds))

module _ (x : Subject) (gives : GivenAs) (S : Fact → Type 0) (closed : IsClosedSet (Instance x.program gives (record { 0 = x.entry })) S) where
  module _ (m : Method) (stands : slice_get x.program.methods x.entry ≡ Some m) (objects : List Object) (arguments : AreArgumentObjects x m objects) where
    abbrev heap : List Object
    heap = map (boot_object x) (boot_classes x.program) ++ objects

    boot_at : (place : ℕ) (class : List ℕ) → slice_get (boot_classes x.program) place ≡ Some class → slice_get heap place ≡ Some (boot_object x class)
    boot_at place class e =
        in_longer (map (boot_object x) (boot_classes x.program)) objects place (boot_object x class)
        (slice_get-map (boot_object x) (boot_classes x.program) place ∙ ap (option_map (boot_object x)) e)

    boot_leads : (place : ℕ) (class : List ℕ) → slice_get (boot_classes x.program) place ≡ Some class → LeadsTo (λ s. s ≡ boot_site class) heap place
    boot_leads place class e = record { object = boot_object x class; held = boot_at place class e; among = refl }

    constant_leads : (class : List ℕ) (v : Value) → IsConstant class v → IsCovered (λ s. s ≡ boot_site class) heap v
    constant_leads class v c =
        covered_as (λ s. s ≡ boot_site class) heap (reference_to c.place) v c.is
        (boot_leads c.place class (in_longer constant_classes (held_classes x.program.fields) c.place class c.stands))

    -- ---- the arguments

    arguments_are : (b : Bool) → bytes_eq m.signature.descriptor plain_descriptor ≡ b → MatchBool b (objects ≡ []) (IsArgumentArray x objects)
    arguments_are b e = subst (λ (c : Bool). MatchBool c (objects ≡ []) (IsArgumentArray x objects)) e arguments

    has_arguments : bytes_eq m.signature.descriptor plain_descriptor ≡ false → HasArguments x.program (record { 0 = x.entry })
    has_arguments e = record { method = m; stands = stands; some = λ is. false≢true (sym e ∙ (bytes_eq-Decides m.signature.descriptor plain_descriptor).1 is) }

    argument_object : (a : IsArgumentArray x objects) → HasArguments x.program (record { 0 = x.entry }) → IsCoveredObject x.program gives S heap (new_array argument_site a.values x.property.initial)
    argument_object a some = record {
      made = of_arguments refl;
      of_class = refl;
      in_fields = λ values field e. absurd (let both : elements a.values ≡ fields values = e in cc);
      in_elements = λ values v e there.
          let same : a.values ≡ values = cc in
          by v (All-contains MayBeArgument a.values v a.each (subst (λ (vs : List Value). Contains vs v) (sym same) there));
    }
      where
        by : (v : Value) → MayBeArgument v → IsCovered (MayHold S (elements_of argument_site)) heap v
        by v (inl none) = covered_as (MayHold S (elements_of argument_site)) heap null_value v none tt
        by v (inr c) =
            covered_by (λ s. s ≡ boot_site string_name) (MayHold S (elements_of argument_site)) heap v
            (λ s e. subst (λ (t : Site). S (may_hold (elements_of argument_site) t)) (sym e) (closed _ _ (entry_strings some) tt)) (constant_leads string_name v c)

    argument_covered : (k : ℕ) (o : Object) → slice_get objects k ≡ Some o → (b : Bool) → bytes_eq m.signature.descriptor plain_descriptor ≡ b → IsCoveredObject x.program gives S heap o
    argument_covered k o held true e =
        let none : objects ≡ [] = arguments_are true e in
        absurd (none-some o (subst (λ (os : List Object). slice_get os k ≡ Some o) none held))
    argument_covered k o held false e =
        let a : IsArgumentArray x objects = arguments_are false e in
        let same = single (new_array argument_site a.values x.property.initial) o k (subst (λ (os : List Object). slice_get os k ≡ Some o) a.is held) in
        subst (λ (q : Object). IsCoveredObject x.program gives S heap q) same (argument_object a (has_arguments e))

    argument_leads : (b : Bool) → bytes_eq m.signature.descriptor plain_descriptor ≡ b → (m.signature.descriptor ≡ plain_descriptor → ⊥) → LeadsTo (λ s. s ≡ argument_site) heap (length (boot_classes x.program))
    argument_leads true e some = absurd (some ((bytes_eq-Decides m.signature.descriptor plain_descriptor).0 e))
    argument_leads false e some =
        let a : IsArgumentArray x objects = arguments_are false e in
        let o = new_array argument_site a.values x.property.initial in
        let first : slice_get objects 0 ≡ Some o = ap (λ (os : List Object). slice_get os 0) a.is in
        let long : length (map (boot_object x) (boot_classes x.program)) ≡ length (boot_classes x.program) = length-map (boot_classes x.program) (boot_object x) in
        let at : length (map (boot_object x) (boot_classes x.program)) + 0 ≡ length (boot_classes x.program) = omega (arith, long) in
        record { object = o; held = subst (λ (k : ℕ). slice_get heap k ≡ Some o) at (behind (map (boot_object x) (boot_classes x.program)) objects 0 o first); among = refl }

    -- ---- the world

    object_covered : (place : ℕ) (o : Object) → (slice_get (map (boot_object x) (boot_classes x.program)) place ≡ Some o) ⊎ IsBehind (map (boot_object x) (boot_classes x.program)) objects place o
        → IsCoveredObject x.program gives S heap o
    object_covered place o (inl held) = by (slice_get (boot_classes x.program) place) refl (sym (slice_get-map (boot_object x) (boot_classes x.program) place) ∙ held)
      where
        by : (c : Option (List ℕ)) → slice_get (boot_classes x.program) place ≡ c → option_map (boot_object x) (slice_get (boot_classes x.program) place) ≡ Some o → IsCoveredObject x.program gives S heap o
        by None e is = absurd (none-some o (sym (ap (option_map (boot_object x)) e) ∙ is))
        by (Some class) e is =
            let same : boot_object x class ≡ o = same_Some (boot_object x class) o (sym (ap (option_map (boot_object x)) e) ∙ is) in
            subst (λ (q : Object). IsCoveredObject x.program gives S heap q) same
            (new_covered x gives S heap (boot_site class) x.property.initial (of_start class (contains_at (boot_classes x.program) place class e) refl))
    object_covered place o (inr late) = argument_covered late.after o late.held (bytes_eq m.signature.descriptor plain_descriptor) refl

    static_covered : (field : FieldNo) (v : Value) → BeginsAs x.program field.0 v → IsCovered (MayHoldStatic x.program S field) heap v
    static_covered field v (no_field none is) = covered_as (MayHoldStatic x.program S field) heap primitive_value v is tt
    static_covered field v (holding f class there holds is) =
        covered_as (MayHoldStatic x.program S field) heap (reference_to (held_place x.program field.0)) v is
        (leads_by (λ s. s ≡ boot_site class) (MayHoldStatic x.program S field) heap (held_place x.program field.0) (λ s e. inr (class, rules.holding f there holds, e))
        (boot_leads (held_place x.program field.0) class (held_at x.program field.0 f class there holds)))
    static_covered field v (by_default f there none is) =
        covered_as (MayHoldStatic x.program S field) heap (default_value f.signature.descriptor) v is (default_covered (MayHoldStatic x.program S field) heap f.signature.descriptor)
    static_covered field v (constant f c there none descriptor named folder is) =
        covered_by (λ s. s ≡ boot_site string_name) (MayHoldStatic x.program S field) heap v (λ s e. inr (string_name, rules.constant f c there none descriptor named folder refl, e)) (constant_leads string_name v is)

  pub first_covered : (s : State) → IsFirst x s → Covers x gives S s
  first_covered s h =
      subst (λ (u : State). Covers x gives S u) (sym h.is) (record {
        world = record {
          objects = λ place o held. object_covered h.entry h.stands h.objects h.arguments place o (where_joined (map (boot_object x) (boot_classes x.program)) h.objects place o held);
          statics = λ field. static_covered h.entry h.stands h.objects h.arguments field (h.statics field.0) (h.begins field.0);
          kept = λ place there. absurd (contains_none place there);
          start = record {
            constants = λ place class there. boot_leads h.entry h.stands h.objects h.arguments place class (in_longer constant_classes (held_classes x.program.fields) place class there);
            arguments = λ entry there some.
                let same : entry ≡ h.entry = same_Some entry h.entry (sym there ∙ h.stands) in
                argument_leads h.entry h.stands h.objects h.arguments (bytes_eq h.entry.signature.descriptor plain_descriptor) refl
                (subst (λ (e : Method). e.signature.descriptor ≡ plain_descriptor → ⊥) same some);
          };
        };
        frames = (record { runs = λ m e. absurd (none-some m.0 e); slots = λ m l n z v here inside named. absurd (none-some m.0 here.in_method) }, refl, tt);
        mode = tt;
      })
