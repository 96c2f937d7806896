-- Lists of methods to which some are added: none, one, those of two steps, and those of one class more.
use Rattle.std.proofs.Common.{◌≡◌, ◌↔◌, ◌⊎◌, inl, inr, ℕ, ◌+◌, ◌<◌, List, [], ◌∷◌, ◌++◌, length, take, get_or, sym, subst}
use Rattle.std.specs.List.{Contains}
use Rattle.std.proofs.lemmas.List.{take_more}
use Rattle.std.proofs.lemmas.List.Elements.{Contains-append_left, Contains-push, Contains-push_cases}
use Rattle.jvm_model.specs.declared.number.MethodNo.{MethodNo}
use Rattle.jvm_model.specs.Programs.{Program}
use Rattle.program_model.specs.Numbers.{name_at}
use Rattle.entry_points.specs.Declaring.{AddsMethods, DeclaresCoded, OneDeclares}

-- it holds of none, and none is added
pub none_added : (P : ℕ → Type 0) (xs : List MethodNo) → ((i : ℕ) → P i → ⊥) → AddsMethods P xs xs
none_added P xs none = record { only = λ i there. inl there; kept = λ i there. there; added = λ i is. absurd (none i.0 is) }

-- it holds of one, which is added
pub one_added : (P : ℕ → Type 0) (xs : List MethodNo) (i : MethodNo) → P i.0 → ((j : ℕ) → P j → i.0 ≡ j) → AddsMethods P xs (xs ++ i ∷ [])
one_added P xs i is alone = record {
  only = λ j there. by j (Contains-push_cases xs i j there);
  kept = λ j there. Contains-append_left xs (i ∷ []) j there;
  added = λ j holds. subst (λ (m : MethodNo). Contains (xs ++ i ∷ []) m) (same j (alone j.0 holds)) (Contains-push xs i);
}
  where
    same : (j : MethodNo) → i.0 ≡ j.0 → i ≡ j
    same j numbers = λ k. record { 0 = numbers k }

    by : (j : MethodNo) → Contains xs j ⊎ (i ≡ j) → Contains xs j ⊎ P j.0
    by j (inl there) = inl there
    by j (inr last) = inr (subst (λ (m : MethodNo). P m.0) last is)

-- two steps
pub both_added : (P Q R : ℕ → Type 0) (a b c : List MethodNo) → ((i : ℕ) → (P i ⊎ Q i) ↔ R i) → AddsMethods P a b → AddsMethods Q b c → AddsMethods R a c
both_added P Q R a b c either first second = record {
  only = λ i there. now i (second.only i there);
  kept = λ i there. second.kept i (first.kept i there);
  added = λ i holds. added i ((either i.0).1 holds);
}
  where
    before : (i : MethodNo) → Contains a i ⊎ P i.0 → Contains a i ⊎ R i.0
    before i (inl there) = inl there
    before i (inr p) = inr ((either i.0).0 (inl p))

    now : (i : MethodNo) → Contains b i ⊎ Q i.0 → Contains a i ⊎ R i.0
    now i (inl there) = before i (first.only i there)
    now i (inr q) = inr ((either i.0).0 (inr q))

    added : (i : MethodNo) → P i.0 ⊎ Q i.0 → Contains c i
    added i (inl p) = second.kept i (first.added i p)
    added i (inr q) = second.added i q

-- of one class more
pub of_more : (p : Program) (classes : List ℕ) (k : ℕ) (a b c : List MethodNo) → k < length classes → AddsMethods (OneDeclares p (take k classes)) a b
    → AddsMethods (DeclaresCoded p (name_at p (get_or classes k 0))) b c → AddsMethods (OneDeclares p (take (k + 1) classes)) a c
of_more p classes k a b c within first second =
    subst (λ (ns : List ℕ). AddsMethods (OneDeclares p ns) a c) (sym (take_more classes k 0 within))
    (both_added (OneDeclares p (take k classes)) (DeclaresCoded p (name_at p last)) (OneDeclares p (take k classes ++ last ∷ [])) a b c (λ i. (joined i, parted i)) first second)
  where
    last : ℕ
    last = get_or classes k 0

    joined : (i : ℕ) → OneDeclares p (take k classes) i ⊎ DeclaresCoded p (name_at p last) i → OneDeclares p (take k classes ++ last ∷ []) i
    joined i (inl d) = record { owner = d.owner; among = Contains-append_left (take k classes) (last ∷ []) d.owner d.among; is = d.is }
    joined i (inr d) = record { owner = last; among = Contains-push (take k classes) last; is = d }

    by : (i owner : ℕ) → DeclaresCoded p (name_at p owner) i → Contains (take k classes) owner ⊎ (last ≡ owner)
        → OneDeclares p (take k classes) i ⊎ DeclaresCoded p (name_at p last) i
    by i owner is (inl there) = inl (record { owner = owner; among = there; is = is })
    by i owner is (inr same) = inr (subst (λ (n : ℕ). DeclaresCoded p (name_at p n) i) (sym same) is)

    parted : (i : ℕ) → OneDeclares p (take k classes ++ last ∷ []) i → OneDeclares p (take k classes) i ⊎ DeclaresCoded p (name_at p last) i
    parted i d = by i d.owner d.is (Contains-push_cases (take k classes) last d.owner d.among)
