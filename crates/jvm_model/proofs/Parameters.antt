-- The parameters of a method descriptor, one after another.
use Rattle.std.proofs.Common.{◌≡◌, ℕ, ◌+◌, ◌≤◌, ◌<◌, List, [], ◌∷◌, ◌++◌, drop, codes, ◌⊎◌, refl, ap, sym, ◌∙◌, arith, append_assoc, zero-add, ◌≢◌, Option, Some, None, Bor}
use Rattle.std.specs.Option.{MatchOption}
use Rattle.std.specs.List.{AllByRecursion, flat_map, sum_by}
use Rattle.std.proofs.lemmas.List.{append-nil}
use Rattle.std.proofs.lemmas.List.Concat.{flat_map-append}
use Rattle.std.proofs.lemmas.List.Elements.{recursion_from_All, All-from_recursion}
use Rattle.std.proofs.lemmas.List.Sums.{sum_by-append}
use Rattle.jvm_model.specs.Descriptors.{IsFieldDescriptor, IsMethodDescriptor, units_of}
use Rattle.jvm_model.specs.Fronts.{EndsParameters}
use Rattle.jvm_model.proofs.Fields.{append_each, one_field, not_closing}

-- The texts joined.
abbrev pub joined : List (List ℕ) → List ℕ
joined ps = flat_map (λ p. p) ps

-- The parameters at the front of a text that are read, and their units.
pub record HasRead (text rest : List ℕ) (units : ℕ) : Type 0 where
  pub parameters : List (List ℕ)
  pub spelled : text ≡ joined parameters ++ rest
  pub each : AllByRecursion IsFieldDescriptor parameters
  pub counted : units ≡ sum_by units_of parameters

-- The parameters that a text has more than those that are read.
pub record HasMore (ps qs : List (List ℕ)) (rest outcome : List ℕ) : Type 0 where
  pub more : List (List ℕ)
  pub all : qs ≡ ps ++ more
  pub each : AllByRecursion IsFieldDescriptor more
  pub spelled : rest ≡ joined more ++ 41 ∷ outcome

more_of : (ps qs : List (List ℕ)) (rest outcome : List ℕ) → AllByRecursion IsFieldDescriptor ps → AllByRecursion IsFieldDescriptor qs → joined ps ++ rest ≡ joined qs ++ 41 ∷ outcome → HasMore ps qs rest outcome
more_of [] qs rest outcome each_p each_q e = record { more = qs; all = refl; each = each_q; spelled = e }
more_of (p ∷ ps) [] rest outcome each_p each_q e =
    absurd (not_closing p (joined ps ++ rest) outcome each_p.0 (sym (append_assoc p (joined ps) rest) ∙ e))
more_of (p ∷ ps) (q ∷ qs) rest outcome each_p each_q e =
    let same = one_field p q (joined ps ++ rest) (joined qs ++ 41 ∷ outcome) each_p.0 each_q.0
    (sym (append_assoc p (joined ps) rest) ∙ e ∙ append_assoc q (joined qs) (41 ∷ outcome)) in
    let next = more_of ps qs rest outcome each_p.1 each_q.1 same.1 in
    record { more = next.more; all = cc (same.0, next.all); each = next.each; spelled = next.spelled }

-- Where parameters are read, those of the whole text are these and those of the rest.
pub rest_of_parameters : (text rest outcome : List ℕ) (units : ℕ) → (read : HasRead text rest units) → (ends : EndsParameters text outcome) → HasMore read.parameters ends.parameters rest outcome
rest_of_parameters text rest outcome units read ends =
    more_of read.parameters ends.parameters rest outcome read.each (recursion_from_All IsFieldDescriptor ends.parameters ends.each) (sym read.spelled ∙ ends.spelled)

pub read_nothing : (text : List ℕ) → HasRead text text 0
read_nothing text = record { parameters = []; spelled = refl; each = tt; counted = refl }

pub read_more : (text rest front after : List ℕ) (units : ℕ) → HasRead text rest units → IsFieldDescriptor front → rest ≡ front ++ after → HasRead text after (units + units_of front)
read_more text rest front after units read is e =
    let ps = read.parameters in
    let last : joined (ps ++ front ∷ []) ≡ joined ps ++ front =
    flat_map-append (λ p. p) ps (front ∷ []) ∙ ap (λ s. joined ps ++ s) (append-nil front) in
    record {
      parameters = ps ++ front ∷ [];
      spelled = read.spelled ∙ ap (λ s. joined ps ++ s) e ∙ sym (append_assoc (joined ps) front after) ∙ ap (λ s. s ++ after) (sym last);
      each = append_each IsFieldDescriptor ps (front ∷ []) read.each (is, tt);
      counted = ap (λ u. u + units_of front) read.counted ∙ ap (λ u. sum_by units_of ps + u) (sym (zero-add (units_of front))) ∙ sym (sum_by-append units_of ps (front ∷ []));
    }

-- More units are read than a method descriptor may have.
pub over_limit : (text rest outcome : List ℕ) (units : ℕ) → HasRead text rest units → 255 < units → EndsParameters text outcome → ⊥
over_limit text rest outcome units read over ends =
    let more = rest_of_parameters text rest outcome units read ends in
    let all : sum_by units_of ends.parameters ≡ units + sum_by units_of more.more =
    ap (sum_by units_of) more.all ∙ sum_by-append units_of read.parameters more.more ∙ ap (λ u. u + sum_by units_of more.more) (sym read.counted) in
    omega (arith, all, ends.units)

nothing_more : (rest outcome : List ℕ) (more : List (List ℕ)) → AllByRecursion IsFieldDescriptor more → rest ≡ joined more ++ 41 ∷ outcome → ((front after : List ℕ) → IsFieldDescriptor front → rest ≡ front ++ after → ⊥) → (rest ≡ 41 ∷ outcome → ⊥) → ⊥
nothing_more rest outcome [] each e no_field no_end = no_end e
nothing_more rest outcome (q ∷ more) each e no_field no_end =
    no_field q (joined more ++ 41 ∷ outcome) each.0 (e ∙ append_assoc q (joined more) (41 ∷ outcome))

-- Neither a parameter nor the closing parenthesis follows.
pub stops_within : (text rest outcome : List ℕ) (units : ℕ) → HasRead text rest units → ((front after : List ℕ) → IsFieldDescriptor front → rest ≡ front ++ after → ⊥) → (rest ≡ 41 ∷ outcome → ⊥) → EndsParameters text outcome → ⊥
stops_within text rest outcome units read no_field no_end ends =
    let more = rest_of_parameters text rest outcome units read ends in
    nothing_more rest outcome more.more more.each more.spelled no_field no_end

-- The closing parenthesis follows.
pub ends_here : (text rest outcome : List ℕ) (units : ℕ) → HasRead text rest units → units ≤ 255 → rest ≡ 41 ∷ outcome → EndsParameters text outcome
ends_here text rest outcome units read within e = record {
  parameters = read.parameters;
  spelled = read.spelled ∙ ap (λ s. joined read.parameters ++ s) e;
  each = All-from_recursion IsFieldDescriptor read.parameters read.each;
  units = omega (arith, read.counted, within);
}

same_end : (a b : List ℕ) (more : List (List ℕ)) → AllByRecursion IsFieldDescriptor more → 41 ∷ a ≡ joined more ++ 41 ∷ b → a ≡ b
same_end a b [] each e = ap (drop 1) e
same_end a b (q ∷ more) each e =
    absurd (not_closing q (joined more ++ 41 ∷ b) a each.0 (sym (append_assoc q (joined more) (41 ∷ b)) ∙ sym e))

-- What follows the parameters is determined by the text.
pub one_outcome : (text a b : List ℕ) → EndsParameters text a → EndsParameters text b → a ≡ b
one_outcome text a b ends_a ends_b =
    let read : HasRead text (41 ∷ a) (sum_by units_of ends_a.parameters) = record {
      parameters = ends_a.parameters;
      spelled = ends_a.spelled;
      each = recursion_from_All IsFieldDescriptor ends_a.parameters ends_a.each;
      counted = refl;
    } in
    let more = rest_of_parameters text (41 ∷ a) b (sum_by units_of ends_a.parameters) read ends_b in
    same_end a b more.more more.each more.spelled

-- The parameters end or do not, by what was left when the closing parenthesis was stripped.
pub ends_by_strip : (text rest : List ℕ) (units : ℕ) (stripped : Option (Bor (List ℕ))) → HasRead text rest units → units ≤ 255 → ((front after : List ℕ) → IsFieldDescriptor front → rest ≡ front ++ after → ⊥) → MatchOption stripped ((after : List ℕ) → rest ≢ 41 ∷ after) (λ after. rest ≡ 41 ∷ after.now) → MatchOption stripped ((outcome : List ℕ) → EndsParameters text outcome → ⊥) (λ outcome. EndsParameters text outcome.now)
ends_by_strip text rest units None read within no_field by_strip = λ outcome ends. stops_within text rest outcome units read no_field (by_strip outcome) ends
ends_by_strip text rest units (Some outcome) read within no_field by_strip = ends_here text rest outcome.now units read within by_strip

pub method_from : (text tail outcome : List ℕ) → text ≡ 40 ∷ tail → EndsParameters tail outcome → (outcome ≡ codes "V") ⊎ IsFieldDescriptor outcome → IsMethodDescriptor text
method_from text tail outcome e ends is = record {
  parameters = ends.parameters;
  outcome = outcome;
  spelled = e ∙ ap (λ s. 40 ∷ s) ends.spelled;
  each = ends.each;
  units = ends.units;
  outcome_is = is;
}

pub ends_of_method : (text tail : List ℕ) → text ≡ 40 ∷ tail → (method : IsMethodDescriptor text) → EndsParameters tail method.outcome
ends_of_method text tail e method = record {
  parameters = method.parameters;
  spelled = ap (drop 1) (sym e ∙ method.spelled);
  each = method.each;
  units = method.units;
}
