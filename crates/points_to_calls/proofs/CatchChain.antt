-- Where exceptions go, by the entry of a catch chain.
use Rattle.std.proofs.Common.{◌≡◌, ℕ, ◌+◌, ◌<◌, get_or, drop, List, [], ◌∷◌, Some, length, refl, sym, ap, ◌∙◌, subst, inl, inr, arith}
use Rattle.std.specs.List.{slice_get, AllZip}
use Rattle.std.proofs.lemmas.List.{drop_more}
use Rattle.jvm_model.specs.Programs.{Program}
use Rattle.op_model.specs.declared.node.NodeHandler.{NodeHandler}
use Rattle.machine_nodes.specs.NodeSteps.{Takes}
use Rattle.points_to_rules.specs.Facts.{Holder}
use Rattle.points_to_constraints.specs.CallItems.{LandsIn}
use Rattle.points_to_constraints.specs.Items.{CatchClause as ItemCatchClause, CatchChain as ItemCatchChain}
use Rattle.points_to_numbers.specs.declared.entries.CatchClause.{CatchClause}
use Rattle.points_to_numbers.specs.declared.entries.CatchChain.{CatchChain}
use Rattle.points_to_rules.specs.declared.place.PlaceNo.{PlaceNo}
use Rattle.points_to_numbers.specs.Numbered.{Numbered, IsCatchClauseAt, IsCatchChainAt}
use Rattle.points_to_calls.specs.Parts.{GoesTo, IsCatchChainPlace}

-- ---- where an exception goes

-- without a catch clause it leaves the method
pub goes_out : (p : Program) (class : List ℕ) (entries : List CatchClause) (outside : PlaceNo) → length entries ≡ 0 → GoesTo p class entries outside outside
goes_out p class [] outside none = refl
goes_out p class (a ∷ entries) outside none = absurd (omega (arith, none))

pub goes_by : (p : Program) (n : Numbered) (class : List ℕ) (entries : List CatchClause) (catch_clauses : List ItemCatchClause) (outside to : PlaceNo) (o : Holder) → AllZip (IsCatchClauseAt n) entries catch_clauses
    → slice_get n.holders outside.0 ≡ Some o → GoesTo p class entries outside to → (h : Holder) × (slice_get n.holders to.0 ≡ Some h) × LandsIn p class catch_clauses o h
goes_by p n class [] [] outside to o each held goes = (o, subst (λ (place : PlaceNo). slice_get n.holders place.0 ≡ Some o) (sym goes) held, refl)
goes_by p n class [] (b ∷ catch_clauses) outside to o each held goes = absurd each
goes_by p n class (a ∷ entries) [] outside to o each held goes = absurd each
goes_by p n class (a ∷ entries) (b ∷ catch_clauses) outside to o each held (inl (takes, is)) =
    (b.to, subst (λ (place : PlaceNo). slice_get n.holders place.0 ≡ Some b.to) (sym is) each.0.to, inl (subst (λ (h : NodeHandler). Takes p h class) (sym each.0.handler) takes, refl))
goes_by p n class (a ∷ entries) (b ∷ catch_clauses) outside to o each held (inr (passes, later)) =
    let (h, at, lands) = goes_by p n class entries catch_clauses outside to o each.1 held later in
    (h, at, inr (λ takes. passes (subst (λ (k : NodeHandler). Takes p k class) each.0.handler takes), lands))

pub catch_chain_place : (p : Program) (n : Numbered) (class : List ℕ) (entry : CatchChain) (l : ItemCatchChain) (to : PlaceNo) → IsCatchChainAt n entry l → GoesTo p class entry.catch_clauses entry.outside to
    → IsCatchChainPlace p n class l to
catch_chain_place p n class entry l to is goes =
    let (h, at, lands) = goes_by p n class entry.catch_clauses l.catch_clauses entry.outside to l.outside is.catch_clauses is.outside goes in
    record { to = h; held = at; lands = lands }

-- there is one such holder
pub one_catch_chain : (p : Program) (class : List ℕ) (catch_clauses : List ItemCatchClause) (outside a b : Holder) → LandsIn p class catch_clauses outside a → LandsIn p class catch_clauses outside b → a ≡ b
one_catch_chain p class [] outside a b first second = first ∙ sym second
one_catch_chain p class (catch_clause ∷ catch_clauses) outside a b (inl x) (inl y) = x.1 ∙ sym y.1
one_catch_chain p class (catch_clause ∷ catch_clauses) outside a b (inl x) (inr y) = absurd (y.0 x.0)
one_catch_chain p class (catch_clause ∷ catch_clauses) outside a b (inr x) (inl y) = absurd (x.0 y.0)
one_catch_chain p class (catch_clause ∷ catch_clauses) outside a b (inr x) (inr y) = one_catch_chain p class catch_clauses outside a b x.1 y.1

-- ---- the walk over the catch clauses

-- the next catch clause takes it
pub goes_here : (p : Program) (class : List ℕ) (catch_clauses xs : List CatchClause) (i : ℕ) (d : CatchClause) (outside : PlaceNo) → xs ≡ catch_clauses → i < length catch_clauses → Takes p (get_or xs i d).handler class
    → GoesTo p class (drop i catch_clauses) outside (get_or xs i d).to
goes_here p class catch_clauses xs i d outside same within takes =
    let a = get_or xs i d in
    let next : drop i catch_clauses ≡ a ∷ drop (i + 1) catch_clauses = drop_more catch_clauses i d within ∙ ap (λ (ys : List CatchClause). get_or ys i d ∷ drop (i + 1) catch_clauses) (sym same) in
    subst (λ (ys : List CatchClause). GoesTo p class ys outside a.to) (sym next) (inl (takes, refl))

-- it does not, and a later one may
pub goes_later : (p : Program) (class : List ℕ) (catch_clauses xs : List CatchClause) (i : ℕ) (d : CatchClause) (outside to : PlaceNo) → xs ≡ catch_clauses → i < length catch_clauses
    → (Takes p (get_or xs i d).handler class → ⊥) → GoesTo p class (drop (i + 1) catch_clauses) outside to → GoesTo p class (drop i catch_clauses) outside to
goes_later p class catch_clauses xs i d outside to same within passes later =
    let a = get_or xs i d in
    let next : drop i catch_clauses ≡ a ∷ drop (i + 1) catch_clauses = drop_more catch_clauses i d within ∙ ap (λ (ys : List CatchClause). get_or ys i d ∷ drop (i + 1) catch_clauses) (sym same) in
    subst (λ (ys : List CatchClause). GoesTo p class ys outside to) (sym next) (inr (passes, later))
