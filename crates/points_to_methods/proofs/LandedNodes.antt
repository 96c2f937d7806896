-- Where the exceptions of a node go: a node has one catch chain, which its catch clauses and the place of what the method throws stand for.
use Rattle.std.proofs.Common.{◌≡◌, ◌↔◌, ℕ, List, [], ◌∷◌, ◌++◌, ◌+◌, ◌<◌, take, get_or, length, Some, refl, sym, ◌∙◌, ap, subst}
use Rattle.std.specs.List.{slice_get, Contains, AllZip}
use Rattle.std.proofs.lemmas.List.{take_more}
use Rattle.std.proofs.lemmas.List.Elements.{Contains-get_or}
use Rattle.jvm_model.specs.Programs.{Program}
use Rattle.op_model.specs.declared.lowered.LoweredMethod.{LoweredMethod}
use Rattle.op_model.specs.declared.node.Node.{Node}
use Rattle.op_model.specs.declared.node.NodeHandler.{NodeHandler}
use Rattle.points_to_constraints.specs.Items.{CatchClause as ItemCatchClause, Item, CatchChain as ItemCatchChain, constrained, throw_to}
use Rattle.points_to_rules.specs.WholeMethods.{HasNodeAt, IsWholeMethod}
use Rattle.points_to_constraints.specs.NodeItems.{IsCatchClause, IsCatchChain}
use Rattle.points_to_methods.specs.Known.{IsNamedMethod}
use Rattle.points_to_methods.specs.CatchChains.{StandsForCatchClause}
use Rattle.points_to_methods.specs.Slots.{slot_holder}
use Rattle.points_to_rules.specs.Facts.{Holder, thrown_by}
use Rattle.points_to_rules.specs.Rules.{IsSlot, IsSlotAt}
use Rattle.points_to_numbers.specs.declared.entries.CatchClause.{CatchClause}
use Rattle.points_to_numbers.specs.declared.entries.CatchChain.{CatchChain}
use Rattle.points_to_numbers.specs.Numbered.{Grows, IsCatchClauseAt, IsCatchChainAt, Numbered}
use Rattle.slot_names.specs.Tables.{NameTable}
use Rattle.slot_names.proofs.ListPlaces.{contains_at}
use Rattle.points_to_constraints.proofs.OneSite.{one_catch_chain}
use Rattle.points_to_methods.proofs.NamedSlots.{reached, slot_has, slot_is}

-- ---- catch clauses

-- how far the catch clauses of the handlers have been made
pub record CatchClausesSoFar (l : LoweredMethod) (old new : Numbered) (handlers : List NodeHandler) (catch_clauses : List CatchClause) : Type 0 where
  pub grows : Grows old new
  pub calls : length new.calls ≡ length old.calls
  pub stand : AllZip (StandsForCatchClause l new) handlers catch_clauses

-- tables that have grown
longer_catch_clause : (l : LoweredMethod) (n m : Numbered) → Grows n m → (h : NodeHandler) (entry : CatchClause) → StandsForCatchClause l n h entry → StandsForCatchClause l m h entry
longer_catch_clause l n m grows h entry (a, is_catch_clause, stands) = (a, is_catch_clause, record { handler = stands.handler; to = grows.holders entry.to.0 a.to stands.to })

pub longer_catch_clauses : (l : LoweredMethod) (n m : Numbered) → Grows n m → (hs : List NodeHandler) (catch_clauses : List CatchClause) → AllZip (StandsForCatchClause l n) hs catch_clauses → AllZip (StandsForCatchClause l m) hs catch_clauses
longer_catch_clauses l n m grows [] [] h = tt
longer_catch_clauses l n m grows [] (catch_clause ∷ catch_clauses) h = absurd h
longer_catch_clauses l n m grows (x ∷ hs) [] h = absurd h
longer_catch_clauses l n m grows (x ∷ hs) (catch_clause ∷ catch_clauses) (one, rest) = (longer_catch_clause l n m grows x catch_clause one, longer_catch_clauses l n m grows hs catch_clauses rest)

-- one catch clause more
push_zip : {A B : Type 0} (R : A → B → Type 0) (xs : List A) (ys : List B) (x : A) (y : B) → AllZip R xs ys → R x y → AllZip R (xs ++ x ∷ []) (ys ++ y ∷ [])
push_zip R [] [] x y h r = (r, tt)
push_zip R [] (b ∷ ys) x y h r = absurd h
push_zip R (a ∷ xs) [] x y h r = absurd h
push_zip R (a ∷ xs) (b ∷ ys) x y (one, rest) r = (one, push_zip R xs ys x y rest r)

pub more_catch_clauses : (l : LoweredMethod) (n m : Numbered) (hs : List NodeHandler) (i : ℕ) (d : NodeHandler) (catch_clauses : List CatchClause) (catch_clause : CatchClause) → Grows n m → i < length hs
    → AllZip (StandsForCatchClause l n) (take i hs) catch_clauses → StandsForCatchClause l m (get_or hs i d) catch_clause → AllZip (StandsForCatchClause l m) (take (i + 1) hs) (catch_clauses ++ catch_clause ∷ [])
more_catch_clauses l n m hs i d catch_clauses catch_clause grows within before here =
    subst (λ (some : List NodeHandler). AllZip (StandsForCatchClause l m) some (catch_clauses ++ catch_clause ∷ [])) (sym (take_more hs i d within))
    (push_zip (StandsForCatchClause l m) (take i hs) catch_clauses (get_or hs i d) catch_clause (longer_catch_clauses l n m grows (take i hs) catch_clauses before) here)

-- what the catch clauses stand for
pub record HasCatchClauses (l : LoweredMethod) (tables : Numbered) (handlers : List NodeHandler) (entries : List CatchClause) : Type 0 where
  pub catch_clauses : List ItemCatchClause
  pub are_catch_clauses : AllZip (IsCatchClause l) handlers catch_clauses
  pub stand : AllZip (IsCatchClauseAt tables) entries catch_clauses

pub has_catch_clauses : (l : LoweredMethod) (tables : Numbered) (hs : List NodeHandler) (entries : List CatchClause) → AllZip (StandsForCatchClause l tables) hs entries → HasCatchClauses l tables hs entries
has_catch_clauses l tables [] [] h = record { catch_clauses = []; are_catch_clauses = tt; stand = tt }
has_catch_clauses l tables [] (entry ∷ entries) h = absurd h
has_catch_clauses l tables (x ∷ hs) [] h = absurd h
has_catch_clauses l tables (x ∷ hs) (entry ∷ entries) ((a, is_catch_clause, stands), rest) =
    let more = has_catch_clauses l tables hs entries rest in
    record { catch_clauses = a ∷ more.catch_clauses; are_catch_clauses = (is_catch_clause, more.are_catch_clauses); stand = (stands, more.stand) }

-- the entry of a catch chain, by its catch clauses and the place of what the method throws
pub landed : (l : LoweredMethod) (n : Node) (tables : Numbered) (entry : CatchChain) → AllZip (StandsForCatchClause l tables) n.handlers entry.catch_clauses → slice_get tables.holders entry.outside.0 ≡ Some (thrown_by l.method)
    → (catch_chain : ItemCatchChain) × IsCatchChain l.method l n catch_chain × IsCatchChainAt tables entry catch_chain
landed l n tables entry stand outside =
    let all = has_catch_clauses l tables n.handlers entry.catch_clauses stand in (
      record { catch_clauses = all.catch_clauses; outside = thrown_by l.method },
      record { catch_clauses = all.are_catch_clauses; outside = refl },
      record { catch_clauses = all.stand; outside = outside },
    )

-- the catch clause of a handler whose place is numbered
pub catch_clause_there : (l : LoweredMethod) (tables : Numbered) (handler : NodeHandler) (to : Holder) (entry : CatchClause) → IsSlotAt l handler.target l.slots to → entry.handler ≡ handler
    → slice_get tables.holders entry.to.0 ≡ Some to → StandsForCatchClause l tables handler entry
catch_clause_there l tables handler to entry slot is at =
    (record { handler = handler; to = to }, record { handler_is = refl; slot = slot }, record { handler = sym is; to = at })

-- a node stands where a handler of a node begins
pub handlers_stand : (p : Program) (l : LoweredMethod) → IsWholeMethod p l.method.0 l → (node : ℕ) (n : Node) → slice_get l.nodes node ≡ Some n → (hs : List NodeHandler) → hs ≡ n.handlers → (i : ℕ) (d : NodeHandler) → i < length hs
    → HasNodeAt l (get_or hs i d).target
handlers_stand p l is_method node n at hs list i d within =
    is_method.handlers n (get_or hs i d) (contains_at l.nodes node n at) (subst (λ (all : List NodeHandler). Contains all (get_or hs i d)) list (Contains-get_or hs i d within))

-- ---- what is thrown

module _ (p : Program) (l : LoweredMethod) (names : NameTable) (known : IsNamedMethod p l names) where
  -- what is thrown goes to the one catch chain of the node
  pub thrown_from : (node : ℕ) (n : Node) → slice_get l.nodes node ≡ Some n → (catch_chain : ItemCatchChain) → IsCatchChain l.method l n catch_chain → (z : ℕ) (h : Holder) → h ≡ slot_holder names node z → (x : Item)
      → (x ≡ constrained h (throw_to catch_chain)) ↔ ((other : ItemCatchChain) × (from : Holder) × IsCatchChain l.method l n other × IsSlot l n z from × (x ≡ constrained from (throw_to other)))
  thrown_from node n at catch_chain is_catch_chain z h is x = (
    (λ e. (catch_chain, slot_holder names node z, is_catch_chain, slot_has p l names known node n at z, e ∙ ap (λ (k : Holder). constrained k (throw_to catch_chain)) is)),
    (λ (other, from, is_other, slot, e).
        let same = one_catch_chain l (reached p l names known) l.method n other catch_chain is_other is_catch_chain in
        let here = slot_is p l names known node n at z from slot ∙ sym is in
        cc),
  )
