-- New objects: a new object of the site is described by a tuple that is born with it; and where others are made, facts without an object stay.
use Rattle.std.proofs.Common.{◌≡◌, ◌≢◌, ◌⊎◌, inl, inr, ℕ, ◌<◌, ◌≤◌, List, [], ◌∷◌, ◌++◌, length, Option, Some, Contains, Bool, true, false, refl, sym, ◌∙◌, ap, subst, arith}
use Rattle.std.specs.Prelude.{slice_get}
use Rattle.std.proofs.lemmas.Bool.{cases_eq, cases_lt}
use Rattle.std.proofs.lemmas.List.{length_push}
use Rattle.std.proofs.lemmas.Option.{slice_get_within}
use Rattle.list_laws.proofs.Members.{contained_or_not}
use Rattle.list_laws.proofs.Places.{pushed_at, push_cases, stands_below}
use Rattle.jvm_model.specs.declared.site.Site.{Site}
use Rattle.machine_bytecode.specs.Objects.{Subject}
use Rattle.machine_bytecode.specs.States.{Value, primitive_value, reference_to, Object, World, slot_at, with_object, new_object}
use Rattle.machine_nodes.specs.Slots.{AreLeft}
use Rattle.access_paths.specs.declared.root.Root.TheVariants.{Slot, Static, Returned, Thrown}
use Rattle.access_paths.specs.Paths.{bare}
use Rattle.stage_facts.specs.Facts.{Tuple, SiteFact, some_yet, of_object, EndsIn, Describes, HasNone, Says}
use Rattle.stage_facts.specs.Values.{of_slots, field_in, element_in, path_value, Cell, in_root, in_field, in_element, in_kept, cell_value}
use Rattle.stage_relations.specs.Relations.{IsBorn}
use Rattle.stage_relations.specs.Laws.{Meets}
use Rattle.stage_steps.specs.Said.{IsTracked, IsBounded, Results}
use Rattle.stage_steps.proofs.Paths.{default_field, part_push}
use Rattle.stage_steps.proofs.Shapes.{append_cases}
use Rattle.stage_steps.proofs.Sites.{some_or_not}

-- ---- objects of other sites

-- a place where no object stands yet has none of other sites either
pub longer : (s : Site) (o : ℕ) (heap more : List Object) → ((object : Object) → Contains more object → object.site ≢ s) → IsTracked s o (heap ++ more)
    → length heap ≤ o → length (heap ++ more) ≤ o
longer s o heap more others tracked le = by (cases_lt o (length (heap ++ more)))
  where
    by : (o < length (heap ++ more)) ⊎ (length (heap ++ more) ≤ o) → length (heap ++ more) ≤ o
    by (inr far) = far
    by (inl inside) =
        let k = stands_below (heap ++ more) o inside in
        elim (append_cases heap more o k.0 k.1) [
          | inl before ↦ absurd (let near = slice_get_within heap o k.0 before in omega (arith, near, le))
          | inr there ↦ absurd (others k.0 there (tracked k.0 k.1))
        ]

-- ---- an object of the site

module _ (x : Subject) (s : Site) (o : ℕ) (target : Option ℕ) (operands : List ℕ) (first : Bool) (w : World) (old new : List Value)
    (left : AreLeft operands target (reference_to (length w.heap)) old new)
    (bounded : IsBounded w old) (none : first ≡ true → HasNone s w.heap) where
  -- nothing that refers to an object refers to the new one
  nothing : (c : Cell) → o ≡ length w.heap → cell_value w (of_slots old) c ≡ reference_to o → ⊥
  nothing c e is = let inside = bounded.each c o is in omega (arith, inside, e)

  born_describes : (u : Tuple) → o ≡ length w.heap → IsBorn target first x.property.initial u
      → Describes s u o (with_object w (new_object x.program s x.property.initial)) (of_slots new)
  born_describes u o_is born = record {
    object = new_object x.program s x.property.initial;
    stands =
        subst (λ (k : ℕ). slice_get (w.heap ++ new_object x.program s x.property.initial ∷ []) k ≡ Some (new_object x.program s x.property.initial)) (sym o_is)
        (pushed_at w.heap (new_object x.program s x.property.initial));
    of_site = refl;
    in_state = sym born.state;
    only = λ unique. record {
      only = λ place object stands of_site. elim (push_cases w.heap (new_object x.program s x.property.initial) place object stands) [
        | inl before ↦
            absurd ((let empty = none (born.unique unique) in empty.none) (record { place = place; object = object; stands = before; of_site = of_site }))
        | inr late ↦ late.0 ∙ sym o_is
      ];
    };
    must = λ y listed. (let k = born.must y listed in
        ap (path_value (with_object w (new_object x.program s x.property.initial)) (of_slots new)) k.path_is ∙ left.given k.slot k.target_is
        ∙ ap reference_to (sym o_is));
    must_not = λ y listed. absurd (born.must_not y listed);
    cells = λ off c is. cell off c is;
  }
    where
      slot : u.may ≡ false → (z : ℕ) → slot_at new z ≡ reference_to o → (target ≡ Some z) ⊎ (target ≢ Some z) → Contains operands z ⊎ (Contains operands z → ⊥)
          → EndsIn u.must (with_object w (new_object x.program s x.property.initial)) (of_slots new) (in_root (Slot z))
      slot off z is (inl e) any = record { path = bare (Slot z); listed = born.held off z e; ends = refl }
      slot off z is (inr ne) (inl there) = absurd (let bad : primitive_value ≡ reference_to o = sym (left.cleared z there ne) ∙ is in cc bad)
      slot off z is (inr ne) (inr free) = absurd (nothing (in_root (Slot z)) o_is (sym (left.kept z free ne) ∙ is))

      cell : u.may ≡ false → (c : Cell) → cell_value (with_object w (new_object x.program s x.property.initial)) (of_slots new) c ≡ reference_to o
          → EndsIn u.must (with_object w (new_object x.program s x.property.initial)) (of_slots new) c
      cell off (in_root (Slot z)) is = slot off z is (some_or_not target z) (contained_or_not operands z)
      cell off (in_root (Static f)) is = absurd (nothing (in_root (Static f)) o_is is)
      cell off (in_root Returned) is = absurd (cc is)
      cell off (in_root Thrown) is = absurd (cc is)
      cell off (in_field place f) is =
          let none = default_field x.program f in
          absurd (nothing (in_field place f) o_is (sym (part_push (field_in f) w.heap (new_object x.program s x.property.initial) place none) ∙ is))
      cell off (in_element place index) is =
          absurd (nothing (in_element place index) o_is (sym (part_push (element_in index) w.heap (new_object x.program s x.property.initial) place refl) ∙ is))
      cell off (in_kept number) is = absurd (nothing (in_kept number) o_is is)

  -- where an object of the site is made, the place without one gets it, or still has none
  pub made_says : (facts : List SiteFact) → length w.heap ≤ o → Contains facts some_yet → Meets (IsBorn target first x.property.initial) facts
      → Results facts (λ g. Says s g o (with_object w (new_object x.program s x.property.initial)) (of_slots new))
  made_says facts le some meets = by (cases_eq o (length w.heap))
    where
      by : (o ≡ length w.heap) ⊎ (o ≢ length w.heap)
          → Results facts (λ g. Says s g o (with_object w (new_object x.program s x.property.initial)) (of_slots new))
      by (inl e) = record { fact = of_object meets.tuple; listed = meets.listed; says = born_describes meets.tuple e meets.related }
      by (inr ne) = record {
        fact = some_yet;
        listed = some;
        says = (
          at_least,
          record {
            place = length w.heap;
            object = new_object x.program s x.property.initial;
            stands = pushed_at w.heap (new_object x.program s x.property.initial);
            of_site = refl;
          },
        );
      }
        where
          at_least : length (w.heap ++ new_object x.program s x.property.initial ∷ []) ≤ o
          at_least = let long = length_push w.heap (new_object x.program s x.property.initial) in omega (arith, le, ne, long)
