-- The parts of what the start leads to.
use Rattle.std.proofs.Common.{◌≡◌, ◌↔◌, ◌⊎◌, inl, inr, ℕ, List, [], ◌∷◌, ◌++◌, Option, Some, length, refl, sym, ◌∙◌, ap, subst, arith}
use Rattle.std.specs.List.{slice_get, AllZip, Contains}
use Rattle.std.proofs.lemmas.Option.{same_Some, slice_get_within}
use Rattle.jvm_model.specs.declared.number.MethodNo.{MethodNo}
use Rattle.jvm_model.specs.declared.site.Site.{Site}
use Rattle.jvm_model.specs.Programs.{Program, Method}
use Rattle.program_model.specs.Numbers.{name_at}
use Rattle.machine_nodes.specs.Nodes.{IsCodedInitialiser}
use Rattle.op_model.specs.declared.node.NodeRef.{NodeRef}
use Rattle.op_model.specs.declared.op.CallKind.TheVariants.{Static}
use Rattle.least_sets.proofs.Growing.{back_to}
use Rattle.points_to_rules.specs.Facts.{Holder, kept_objects, may_hold, may_run, may_call}
use Rattle.points_to_rules.specs.Rules.{start_call}
use Rattle.points_to_constraints.specs.Items.{CatchChain, CallSite, Item as RuleItem, known}
use Rattle.points_to_constraints.specs.ItemRules.{StartItem}
use Rattle.points_to_constraints.specs.ItemRules as item_rules
use Rattle.points_to_methods.specs.Initiated.{IsInitiated}
use Rattle.points_to_numbers.specs.declared.item.Item.{Item}
use Rattle.points_to_numbers.specs.declared.item.Item.TheVariants.{Runs, Calls}
use Rattle.points_to_numbers.specs.declared.entries.CatchClause.{CatchClause}
use Rattle.points_to_numbers.specs.declared.keys.CallNo.{CallNo}
use Rattle.points_to_numbers.specs.declared.keys.CatchChainNo.{CatchChainNo}
use Rattle.points_to_rules.specs.declared.place.Place.{Place}
use Rattle.points_to_rules.specs.declared.place.PlaceNo.{PlaceNo}
use Rattle.points_to_numbers.specs.Numbered.{Numbered, Extends, Grows, IsHolderAt, IsCatchClauseAt, IsCatchChainAt, IsUnitAt, IsCallAt}
use Rattle.points_to_numbers.specs.Steps.{Adds, IsHoldingOf}
use Rattle.points_to_numbers.proofs.Adding.{OfOne, adds_both, adds_only, adds_same}
use Rattle.points_to_numbers.proofs.Growing.{grows_same}
use Rattle.points_to.specs.Starting.{ArgumentItem, EntryItem, InitialiserItem, IsStartCall, IsNumberOfStart}

-- ---- the call

pub start_call_stays : (old new : List CallSite) → Extends old new → length new ≡ length old → IsStartCall old → IsStartCall new
start_call_stays old new grown same h = record {
  one = same ∙ h.one;
  at = λ number site e. h.at number site (back_to old new grown number site (omega (arith, slice_get_within new number site e)) e);
}

-- the only call is the new one
pub only_start_call : (calls : List CallSite) (number : ℕ) → length calls ≡ 1 → number ≡ 0 → (c : CallSite) → slice_get calls number ≡ Some c → c.at ≡ start_call → IsStartCall calls
only_start_call calls number one first c stands at = record {
  one = one;
  at = λ k site e.
      let here : k ≡ number = omega (arith, slice_get_within calls k site e) in
      let same : site ≡ c = same_Some site c (sym e ∙ ap (slice_get calls) here ∙ stands) in
      ap (λ (s : CallSite). s.at) same ∙ at;
}

-- its catch chain and its site, with nothing but what must be there
abbrev pub start_catch_chain : CatchChain
start_catch_chain = record { catch_clauses = []; outside = kept_objects }

abbrev pub start_site : MethodNo → CallSite
start_site entry = record { at = start_call; kind = Static; resolved = entry; arguments = []; results = []; catch_chain = start_catch_chain }

none_beside : {X Y : Type 0} (R : X → Y → Type 0) (xs : List X) → xs ≡ [] → AllZip R xs []
none_beside {X} R xs none = subst (λ (ys : List X). AllZip R ys []) (sym none) tt

pub start_catch_chain_at : (n : Numbered) (catch_clauses : List CatchClause) (outside : PlaceNo) → catch_clauses ≡ [] → slice_get n.holders outside.0 ≡ Some kept_objects → IsCatchChainAt n (record { catch_clauses = catch_clauses; outside = outside }) start_catch_chain
start_catch_chain_at n catch_clauses outside none kept = record { catch_clauses = none_beside (IsCatchClauseAt n) catch_clauses none; outside = kept }

pub start_site_at : (n : Numbered) (entry : MethodNo) (arguments : List (Option PlaceNo)) (results : List PlaceNo) (catch_chain : CatchChainNo) → arguments ≡ [] → results ≡ [] → slice_get n.catch_chains catch_chain.0 ≡ Some start_catch_chain
    → IsCallAt n (record { at = start_call; kind = Static; resolved = entry; arguments = arguments; results = results; catch_chain = catch_chain }) (start_site entry)
start_site_at n entry arguments results catch_chain no_argument no_result stands = record {
  at = refl;
  kind = refl;
  resolved = refl;
  arguments = none_beside (IsUnitAt n) arguments no_argument;
  results = none_beside (λ (place : PlaceNo) (h : Holder). slice_get n.holders place.0 ≡ Some h) results no_result;
  catch_chain = stands;
}

-- ---- items

-- a holding of a place that stands for one holder
pub one_holding : (n : Numbered) (place : Place) (h : Holder) (s : Site) → IsHolderAt n place h → ((g : Holder) → IsHolderAt n place g → g ≡ h) → (x : RuleItem)
    → IsHoldingOf n place s x ↔ (x ≡ known (may_hold h s))
one_holding n place h s is only x = (
  (λ (g, at, e). e ∙ ap (λ (k : Holder). known (may_hold k s)) (only g at)),
  (λ e. (h, is, e)),
)

-- the initialisers that were found are those of the entry's class
pub all_initiated : (p : Program) (entry : MethodNo) (m : Method) → slice_get p.methods entry.0 ≡ Some m → (class : ℕ) → m.class ≡ name_at p class → (found : List MethodNo)
    → ((i : MethodNo) → Contains found i ↔ IsCodedInitialiser p (name_at p class) i.0) → (x : RuleItem) → OfOne (λ (i : MethodNo) (y : RuleItem). IsInitiated i y) found x ↔ InitialiserItem p entry x
all_initiated p entry m stands class named found are x = (
  (λ (i, there, init). (m, i, stands, subst (λ (name : List ℕ). IsCodedInitialiser p name i.0) (sym named) ((are i).0 there), init)),
  (λ (own, i, at, coded, init).
      let same : own ≡ m = same_Some own m (sym at ∙ stands) in
      let of = subst (λ (name : List ℕ). IsCodedInitialiser p name i.0) (ap (λ (n : Method). n.class) same ∙ named) coded in
      (i, (are i).1 of, init)),
)

pub entry_added : (n : Numbered) (entry : MethodNo) (number : CallNo) (steps : List Item) → IsNumberOfStart n.calls number.0 → Adds n (EntryItem entry) steps ((steps ++ Runs entry ∷ []) ++ Calls number entry ∷ [])
entry_added n entry number steps h =
    adds_both n n (λ x. x ≡ known (may_run entry)) (λ x. x ≡ known (may_call start_call entry)) steps (steps ++ Runs entry ∷ []) ((steps ++ Runs entry ∷ []) ++ Calls number entry ∷ [])
    (adds_only n (λ x. x ≡ known (may_run entry)) steps (Runs entry) (known (may_run entry)) refl refl (λ y e. e)) (grows_same n)
    (adds_only n (λ x. x ≡ known (may_call start_call entry)) (steps ++ Runs entry ∷ []) (Calls number entry) (known (may_call start_call entry))
    (h.site, h.stands, ap (λ (at : NodeRef). known (may_call at entry)) (sym h.at)) refl (λ y e. e))

-- ---- the whole

start_parts : (p : Program) (entry : MethodNo) (x : RuleItem) → ((EntryItem entry x ⊎ ArgumentItem p entry x) ⊎ InitialiserItem p entry x) ↔ StartItem p entry x
start_parts p entry x = (into, out)
  where
    into : (EntryItem entry x ⊎ ArgumentItem p entry x) ⊎ InitialiserItem p entry x → StartItem p entry x
    into (inl (inl (inl e))) = item_rules.entry_runs e
    into (inl (inl (inr e))) = item_rules.entry_called e
    into (inl (inr (has, inl e))) = item_rules.entry_argument has e
    into (inl (inr (has, inr e))) = item_rules.entry_strings has e
    into (inr (m, i, stands, coded, inl e)) = item_rules.initialiser_runs m i stands coded e
    into (inr (m, i, stands, coded, inr e)) = item_rules.keep_thrown m i stands coded e

    out : StartItem p entry x → (EntryItem entry x ⊎ ArgumentItem p entry x) ⊎ InitialiserItem p entry x
    out (item_rules.entry_runs e) = inl (inl (inl e))
    out (item_rules.entry_called e) = inl (inl (inr e))
    out (item_rules.entry_argument has e) = inl (inr (has, inl e))
    out (item_rules.entry_strings has e) = inl (inr (has, inr e))
    out (item_rules.initialiser_runs m i stands coded e) = inr (m, i, stands, coded, inl e)
    out (item_rules.keep_thrown m i stands coded e) = inr (m, i, stands, coded, inr e)

pub all_added : (p : Program) (entry : MethodNo) (n m o : Numbered) (a b c d : List Item) → Adds n (EntryItem entry) a b → Grows n m → Adds m (ArgumentItem p entry) b c → Grows m o → Adds o (InitialiserItem p entry) c d
    → Adds o (StartItem p entry) a d
all_added p entry n m o a b c d first grows second more third =
    adds_same o (λ x. (EntryItem entry x ⊎ ArgumentItem p entry x) ⊎ InitialiserItem p entry x) (StartItem p entry) a d (start_parts p entry)
    (adds_both m o (λ x. EntryItem entry x ⊎ ArgumentItem p entry x) (InitialiserItem p entry) a c d (adds_both n m (EntryItem entry) (ArgumentItem p entry) a b c first grows second) more third)
