-- What the answers of the tables' functions rest on: an edge more.
use Rattle.std.proofs.Common.{◌≡◌, ◌∙◌, ◌⊎◌, inl, inr, ℕ, ◌+◌, Bool, true, List, [], ◌∷◌, ◌++◌, length, map, sym, ap, subst, arith}
use Rattle.std.specs.List.{Contains}
use Rattle.std.proofs.lemmas.Bool.{true≢false}
use Rattle.std.proofs.lemmas.List.{length-append, map-append}
use Rattle.std.proofs.lemmas.List.Elements.{Contains-push, Contains-push_cases}
use Rattle.chained_lists.specs.Entries.{Entry, entry}
use Rattle.edge_numbers.specs.declared.because.Because.{Because}
use Rattle.edge_numbers.specs.declared.numbered.NumberedEdge.{NumberedEdge}
use Rattle.edge_numbers.specs.Inserted.{IsInserted, is_added, was_held}
use Rattle.tabulation_tables.specs.Lists.{Lists, found_by, numbered}
use Rattle.tabulation_tables.specs.Steps.{Adds, IsPair, NoLead, None1, None2}

-- ---- an edge more

-- whether or not it was there
pub inserted_there : (added : Bool) (old new : List NumberedEdge) (e : NumberedEdge) → IsInserted added old new e → Contains new e
inserted_there added old new e (was_held _ _ _ there same) = subst (λ (es : List NumberedEdge). Contains es e) (sym same) there
inserted_there added old new e (is_added _ _ _ fresh more) = subst (λ (es : List NumberedEdge). Contains es e) (sym more) (Contains-push old e)

-- what is there now was, or is the edge
inserted_cases : (added : Bool) (old new : List NumberedEdge) (e : NumberedEdge) → IsInserted added old new e → (b x : ℕ) → Contains new (numbered b x) → Contains old (numbered b x) ⊎ IsPair e.begin e.end b x
inserted_cases added old new e (was_held _ _ _ there same) b x contained = inl (subst (λ (es : List NumberedEdge). Contains es (numbered b x)) same contained)
inserted_cases added old new e (is_added _ _ _ fresh more) b x contained =
    elim (Contains-push_cases old e (numbered b x) (subst (λ (es : List NumberedEdge). Contains es (numbered b x)) more contained)) [
      | inl was ↦ inl was
      | inr same ↦ inr (ap (λ (a : NumberedEdge). a.begin) (sym same), ap (λ (a : NumberedEdge). a.end) (sym same))
    ]

-- one that was added is behind the others
added_is : (added : Bool) (old new : List NumberedEdge) (e : NumberedEdge) → added ≡ true → IsInserted added old new e → new ≡ old ++ e ∷ []
added_is added old new e is (was_held _ _ _ there same) = absurd (true≢false (sym is))
added_is added old new e is (is_added _ _ _ fresh more) = more

abbrev with_edge : Lists → List NumberedEdge → List Because → List Entry → Lists
with_edge t edges reasons begins =
    record { ends = t.ends; edges = edges; reasons = reasons; begins = begins; leads = t.leads; by = t.by; callers = t.callers; exits = t.exits; visits = t.visits }

-- a list with one more at its end
one_longer : {X : Type 0} (xs ys : List X) (x : X) → ys ≡ xs ++ x ∷ [] → length ys ≡ length xs + 1
one_longer {X} xs ys x is = ap (λ (zs : List X). length zs) is ∙ length-append xs (x ∷ [])

module _ (t : Lists) (added : Bool) (es : List NumberedEdge) (e : NumberedEdge) (rs : List Because) (because : Because) (bs : List Entry) (yes : added ≡ true) (is : IsInserted added t.edges es e)
    (reasoned : rs ≡ t.reasons ++ because ∷ []) (more : bs ≡ t.begins ++ entry e.end e.begin ∷ []) where
  -- the edge, which is found by its end
  pub insertion_adds : Adds (IsPair e.begin e.end) NoLead None2 None2 None1 t (with_edge t es rs bs)
  insertion_adds = record {
    edges = inserted_cases added t.edges es e is;
    found = λ was.
        more ∙ ap (λ (xs : List Entry). xs ++ entry e.end e.begin ∷ []) was ∙ sym (map-append found_by t.edges (e ∷ [])) ∙ sym (ap (λ (xs : List NumberedEdge). map found_by xs) (added_is added t.edges es e yes is));
    reasoned = λ was.
        let longer = one_longer t.reasons rs because reasoned in
        let one = one_longer t.edges es e (added_is added t.edges es e yes is) in
        omega (arith, was, longer, one);
    leads = λ x y there. inl there;
    led = λ same x y exit there. inl (record { place = there.place; at = there.at; by = there.by });
    noted = λ was. was;
    callers = λ b c there. inl there;
    exits = λ b k there. inl there;
    visits = λ x there. inl there;
  }
