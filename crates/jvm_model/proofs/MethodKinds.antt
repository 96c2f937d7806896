-- The kinds of field descriptors that follow one another, and the values of method descriptors.
use Rattle.std.proofs.Common.{◌≡◌, ℕ, ◌-◌, ◌≤◌, List, [], ◌∷◌, ◌++◌, length, take, drop, refl, ap, sym, ◌∙◌, subst, inl, inr, ◌⊎◌, append_assoc, codes, Option, Some, None, IsSome, Bor}
use Rattle.std.specs.List.{AllByRecursion, AllZip, sum_by}
use Rattle.std.specs.Option.{MatchOption}
use Rattle.std.proofs.lemmas.List.{append-nil, take_rest}
use Rattle.std.proofs.lemmas.List.Concat.{flat_map-append}
use Rattle.std.proofs.lemmas.List.Elements.{All-from_recursion}
use Rattle.std.proofs.lemmas.Slice.Zip.{all_zipped_more}
use Rattle.jvm_model.specs.declared.descriptor.Kind.{Kind}
use Rattle.jvm_model.specs.declared.descriptor.Descriptor.{Descriptor}
use Rattle.jvm_model.specs.declared.descriptor.Descriptor.TheVariants.{Field, Method}
use Rattle.jvm_model.specs.Descriptors.{units_of, IsFieldDescriptor, IsMethodDescriptor}
use Rattle.jvm_model.specs.DescriptorValues.{AreKinds, BeginsWithKinds, IsDescriptorOf, IsKind, IsMethodOf, IsOutcome}
use Rattle.jvm_model.specs.Fronts.{EndsParameters}
use Rattle.jvm_model.proofs.Fields.{not_closing}
use Rattle.jvm_model.proofs.FieldKinds.{field_of_kind, no_field, one_kind}
use Rattle.jvm_model.proofs.Parameters.{ends_of_method, joined, one_outcome, rest_of_parameters, HasRead}

-- Texts of kinds are field descriptors.
fields_of_kinds : (ps : List (List ℕ)) (kinds : List Kind) → AllZip IsKind ps kinds → AllByRecursion IsFieldDescriptor ps
fields_of_kinds [] kinds each = tt
fields_of_kinds (p ∷ ps) [] each = absurd each
fields_of_kinds (p ∷ ps) (k ∷ kinds) each = (field_of_kind p k each.0, fields_of_kinds ps kinds each.1)

one_kinds : (ps : List (List ℕ)) (ks ls : List Kind) → AllZip IsKind ps ks → AllZip IsKind ps ls → ks ≡ ls
one_kinds [] [] [] each_k each_l = refl
one_kinds [] [] (l ∷ ls) each_k each_l = absurd each_l
one_kinds [] (k ∷ ks) ls each_k each_l = absurd each_k
one_kinds (p ∷ ps) [] ls each_k each_l = absurd each_k
one_kinds (p ∷ ps) (k ∷ ks) [] each_k each_l = absurd each_l
one_kinds (p ∷ ps) (k ∷ ks) (l ∷ ls) each_k each_l =
    cc (one_kind p k l each_k.0 each_l.0, one_kinds ps ks ls each_k.1 each_l.1)

void_is_no_kind : (text : List ℕ) (kind : Kind) → text ≡ codes "V" → IsKind text kind → ⊥
void_is_no_kind text kind void is = no_field 86 text [] refl void (field_of_kind text kind is)

one_result : (text : List ℕ) (k l : Option Kind) → IsOutcome text k → IsOutcome text l → k ≡ l
one_result text None None is_k is_l = refl
one_result text None (Some l) is_k is_l = absurd (void_is_no_kind text l is_k is_l)
one_result text (Some k) None is_k is_l = absurd (void_is_no_kind text k is_l is_k)
one_result text (Some k) (Some l) is_k is_l = ap Some (one_kind text k l is_k is_l)

-- One more field descriptor follows.
pub kinds_more : (text rest front after : List ℕ) (kinds : List Kind) (kind : Kind) → BeginsWithKinds text rest kinds → IsKind front kind → rest ≡ front ++ after → BeginsWithKinds text after (kinds ++ kind ∷ [])
kinds_more text rest front after kinds kind begins is e =
    let ps = begins.parameters in
    let last : joined (ps ++ front ∷ []) ≡ joined ps ++ front =
    flat_map-append (λ p. p) ps (front ∷ []) ∙ ap (λ s. joined ps ++ s) (append-nil front) in
    record {
      parameters = ps ++ front ∷ [];
      spelled = begins.spelled ∙ ap (λ s. joined ps ++ s) e ∙ sym (append_assoc (joined ps) front after) ∙ ap (λ s. s ++ after) (sym last);
      each = all_zipped_more IsKind ps kinds front kind begins.each is;
    }

-- The parameters of a method are all field descriptors at the front of the text.
record AreParameters (ps qs : List (List ℕ)) (rest outcome : List ℕ) : Type 0 where
  pub same : qs ≡ ps
  pub behind : rest ≡ 41 ∷ outcome

all_parameters : (ps qs more : List (List ℕ)) (rest outcome : List ℕ) → qs ≡ ps ++ more → AllByRecursion IsFieldDescriptor more → rest ≡ joined more ++ 41 ∷ outcome → ((front after : List ℕ) → IsFieldDescriptor front → rest ≡ front ++ after → ⊥) → AreParameters ps qs rest outcome
all_parameters ps qs [] rest outcome all each e none = record { same = all ∙ append-nil ps; behind = e }
all_parameters ps qs (m ∷ more) rest outcome all each e none =
    absurd (none m (joined more ++ 41 ∷ outcome) each.0 (e ∙ append_assoc m (joined more) (41 ∷ outcome)))

parameters_of : (text rest outcome : List ℕ) (ps : List (List ℕ)) → text ≡ joined ps ++ rest → AllByRecursion IsFieldDescriptor ps → (ends : EndsParameters text outcome) → ((front after : List ℕ) → IsFieldDescriptor front → rest ≡ front ++ after → ⊥) → AreParameters ps ends.parameters rest outcome
parameters_of text rest outcome ps e each ends none =
    let read : HasRead text rest (sum_by units_of ps) = record { parameters = ps; spelled = e; each = each; counted = refl } in
    let more = rest_of_parameters text rest outcome (sum_by units_of ps) read ends in
    all_parameters ps ends.parameters more.more rest outcome more.all more.each more.spelled none

-- A method descriptor, by the kinds at the front of what follows its opening parenthesis, and by its outcome.
pub method_of_kinds : (text tail outcome : List ℕ) (kinds : List Kind) (result_kind : Option Kind) → text ≡ 40 ∷ tail → EndsParameters tail outcome → AreKinds tail kinds → IsOutcome outcome result_kind → IsMethodOf text kinds result_kind
method_of_kinds text tail outcome kinds result_kind e ends are is =
    let ps = are.begins.parameters in
    let all = parameters_of tail are.rest outcome ps are.begins.spelled (fields_of_kinds ps kinds are.begins.each) ends are.ends in
    record {
      parameters = ps;
      outcome = outcome;
      spelled = e ∙ ap (λ s. 40 ∷ s) (are.begins.spelled ∙ ap (λ s. joined ps ++ s) all.behind);
      each = are.begins.each;
      units = subst (λ qs. sum_by units_of qs ≤ 255) all.same ends.units;
      outcome_is = is;
    }

-- What follows the opening parenthesis of a method descriptor.
pub behind_opening : (text : List ℕ) → IsMethodDescriptor text → text ≡ 40 ∷ take (length text - 1) (drop 1 text)
behind_opening text method = method.spelled ∙ ap (λ s. 40 ∷ s) (sym (take_rest text 1 ∙ ap (drop 1) method.spelled))

-- The parameters of a method descriptor end.
pub outcome_some : (text tail : List ℕ) (found : Option (Bor (List ℕ))) → text ≡ 40 ∷ tail → IsMethodDescriptor text → MatchOption found ((outcome : List ℕ) → EndsParameters tail outcome → ⊥) (λ outcome. EndsParameters tail outcome.now) → IsSome found
outcome_some text tail None e method never = absurd (never method.outcome (ends_of_method text tail e method))
outcome_some text tail (Some outcome) e method ends = refl

pub outcome_of_found : (tail : List ℕ) (found : Option (Bor (List ℕ))) (outcome : Bor (List ℕ)) → found ≡ Some outcome → MatchOption found ((o : List ℕ) → EndsParameters tail o → ⊥) (λ o. EndsParameters tail o.now) → EndsParameters tail outcome.now
outcome_of_found tail found outcome e is = subst (λ f. MatchOption f ((o : List ℕ) → EndsParameters tail o → ⊥) (λ o. EndsParameters tail o.now)) e is

-- The outcome that is found is that of the method descriptor.
pub outcome_found : (text tail outcome : List ℕ) → text ≡ 40 ∷ tail → IsMethodDescriptor text → EndsParameters tail outcome → (outcome ≡ codes "V") ⊎ IsFieldDescriptor outcome
outcome_found text tail outcome e method ends =
    subst (λ o. (o ≡ codes "V") ⊎ IsFieldDescriptor o) (one_outcome tail method.outcome outcome (ends_of_method text tail e method) ends) method.outcome_is

outcome_in_grammar : (outcome : List ℕ) (result_kind : Option Kind) → IsOutcome outcome result_kind → (outcome ≡ codes "V") ⊎ IsFieldDescriptor outcome
outcome_in_grammar outcome None is = inl is
outcome_in_grammar outcome (Some kind) is = inr (field_of_kind outcome kind is)

-- A text of a method's kinds is a method descriptor.
pub method_in_grammar : (text : List ℕ) (kinds : List Kind) (result_kind : Option Kind) → IsMethodOf text kinds result_kind → IsMethodDescriptor text
method_in_grammar text kinds result_kind is = record {
  parameters = is.parameters;
  outcome = is.outcome;
  spelled = is.spelled;
  each = All-from_recursion IsFieldDescriptor is.parameters (fields_of_kinds is.parameters kinds is.each);
  units = is.units;
  outcome_is = outcome_in_grammar is.outcome result_kind is.outcome_is;
}

-- Only texts in the grammars spell descriptors.
pub in_grammar : (text : List ℕ) (d : Descriptor) → IsDescriptorOf text d → IsFieldDescriptor text ⊎ IsMethodDescriptor text
in_grammar text (Field kind) is = inl (field_of_kind text kind is)
in_grammar text (Method kinds result_kind) is = inr (method_in_grammar text kinds result_kind is)

-- No text spells a field descriptor and a method descriptor.
not_both : (text : List ℕ) (kind : Kind) (kinds : List Kind) (result_kind : Option Kind) → IsKind text kind → IsMethodOf text kinds result_kind → ⊥
not_both text kind kinds result_kind is method =
    no_field 40 text (joined method.parameters ++ 41 ∷ method.outcome) refl method.spelled (field_of_kind text kind is)

one_method : (text : List ℕ) (ks ls : List Kind) (k l : Option Kind) → IsMethodOf text ks k → IsMethodOf text ls l → (ks ≡ ls) × (k ≡ l)
one_method text ks ls k l is_k is_l =
    let tail = joined is_k.parameters ++ 41 ∷ is_k.outcome in
    let ends : EndsParameters tail is_l.outcome = record {
      parameters = is_l.parameters;
      spelled = ap (drop 1) (sym is_k.spelled ∙ is_l.spelled);
      each = All-from_recursion IsFieldDescriptor is_l.parameters (fields_of_kinds is_l.parameters ls is_l.each);
      units = is_l.units;
    } in
    let all = parameters_of tail (41 ∷ is_k.outcome) is_l.outcome is_k.parameters refl (fields_of_kinds is_k.parameters ks is_k.each) ends
    (λ front after is e. not_closing front after is_k.outcome is (sym e)) in
    let outcome : is_l.outcome ≡ is_k.outcome = sym (ap (drop 1) all.behind) in (
      one_kinds is_k.parameters ks ls is_k.each (subst (λ ps. AllZip IsKind ps ls) all.same is_l.each),
      one_result is_k.outcome k l is_k.outcome_is (subst (λ o. IsOutcome o l) outcome is_l.outcome_is),
    )

-- A text spells at most one descriptor.
pub one_value : (text : List ℕ) (d e : Descriptor) → IsDescriptorOf text d → IsDescriptorOf text e → d ≡ e
one_value text (Field k) (Field l) is_d is_e = ap Field (one_kind text k l is_d is_e)
one_value text (Field k) (Method ls l) is_d is_e = absurd (not_both text k ls l is_d is_e)
one_value text (Method ks k) (Field l) is_d is_e = absurd (not_both text l ks k is_e is_d)
one_value text (Method ks k) (Method ls l) is_d is_e =
    let same = one_method text ks ls k l is_d is_e in cc (same.0, same.1)
