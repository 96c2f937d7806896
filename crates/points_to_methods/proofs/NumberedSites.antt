-- The call of a node as it is numbered: what its entries stand for, and that it is the one call that the node adds.
use Rattle.std.proofs.Common.{◌≡◌, ℕ, ◌+◌, ◌<◌, List, [], length, get_or, Option, Some, None, refl, sym, ◌∙◌, ap, subst, arith}
use Rattle.std.specs.List.{slice_get, Contains, AllZip}
use Rattle.std.proofs.lemmas.Option.{same_Some, slice_get_within}
use Rattle.std.proofs.lemmas.List.Elements.{Contains-get_or}
use Rattle.jvm_model.specs.Programs.{Program}
use Rattle.op_model.specs.declared.lowered.LoweredMethod.{LoweredMethod}
use Rattle.op_model.specs.declared.node.Node.{Node}
use Rattle.op_model.specs.declared.op.Call.{Call as NodeCall}
use Rattle.op_model.specs.declared.op.Op.TheVariants.{Call}
use Rattle.slot_names.proofs.ListPlaces.{contains_at}
use Rattle.points_to_rules.specs.Facts.{Holder}
use Rattle.points_to_rules.specs.Rules.{IsSlot, IsSlotAt}
use Rattle.points_to_constraints.specs.Items.{CallSite as ItemCallSite}
use Rattle.points_to_rules.specs.WholeMethods.{HasNodeAt, IsWholeMethod}
use Rattle.points_to_constraints.specs.NodeItems.{AreResults, IsCallSite, IsUnitHolder}
use Rattle.points_to_numbers.specs.declared.entries.CallSite.{CallSite}
use Rattle.points_to_numbers.specs.declared.keys.CatchChainNo.{CatchChainNo}
use Rattle.points_to_rules.specs.declared.place.PlaceNo.{PlaceNo}
use Rattle.points_to_numbers.specs.Numbered.{Extends, Grows, IsCallAt, IsUnitAt, Numbered}
use Rattle.points_to_numbers.proofs.Growing.{grows_on}
use Rattle.points_to_methods.specs.CatchChains.{StandsForCatchChain}
use Rattle.points_to_methods.specs.CallEntries.{GrowsTo, StandsForUnit, StandsForResult, StandForResults}
use Rattle.points_to_methods.specs.NodeCalls.{AddsCallOf}
use Rattle.points_to_methods.proofs.EntryLists.{grows_to_same, longer_list, stood}

-- ---- units of the arguments

longer_unit_at : (old new : Numbered) → Grows old new → (entry : Option PlaceNo) (h : Option Holder) → IsUnitAt old entry h → IsUnitAt new entry h
longer_unit_at old new grows None None at = tt
longer_unit_at old new grows None (Some h) at = absurd at
longer_unit_at old new grows (Some place) None at = absurd at
longer_unit_at old new grows (Some place) (Some h) at = grows.holders place.0 h at

pub longer_unit : (l : LoweredMethod) (n : Node) (old new : Numbered) → Grows old new → (unit : Option ℕ) (entry : Option PlaceNo) → StandsForUnit l n old unit entry → StandsForUnit l n new unit entry
longer_unit l n old new grows unit entry (h, is_unit, at) = (h, is_unit, longer_unit_at old new grows entry h at)

-- a unit that is a primitive
pub primitive_unit : (l : LoweredMethod) (n : Node) (tables : Numbered) (unit : Option ℕ) → unit ≡ None → GrowsTo (λ numbered. StandsForUnit l n numbered unit None) tables tables
primitive_unit l n tables unit is =
    subst (λ (u : Option ℕ). GrowsTo (λ numbered. StandsForUnit l n numbered u None) tables tables) (sym is)
    (grows_to_same (λ numbered. StandsForUnit l n numbered None None) tables (None, tt, tt))

-- a unit whose slot has a place
pub unit_there : (l : LoweredMethod) (n : Node) (old new : Numbered) (unit : Option ℕ) (z : ℕ) (place : PlaceNo) (h : Holder) → unit ≡ Some z → Grows old new → length new.calls ≡ length old.calls
    → IsSlot l n z h → slice_get new.holders place.0 ≡ Some h → GrowsTo (λ numbered. StandsForUnit l n numbered unit (Some place)) old new
unit_there l n old new unit z place h is grows calls slot at =
    subst (λ (u : Option ℕ). GrowsTo (λ numbered. StandsForUnit l n numbered u (Some place)) old new) (sym is)
    (record { grows = grows; calls = calls; holds = (Some h, slot, at) })

-- ---- results

pub longer_result : (l : LoweredMethod) (z : ℕ) (old new : Numbered) → Grows old new → (offset : ℕ) (place : PlaceNo) → StandsForResult l z old offset place → StandsForResult l z new offset place
longer_result l z old new grows offset place (h, slot, at) = (h, slot, grows.holders place.0 h at)

pub longer_results : (l : LoweredMethod) (n : Node) (old new : Numbered) → Grows old new → (target : Option ℕ) (places : List PlaceNo) → StandForResults l n old target places → StandForResults l n new target places
longer_results l n old new grows None places stand = stand
longer_results l n old new grows (Some z) places stand = longer_list (StandsForResult l z) (longer_result l z) old new grows n.successors places stand

-- no result
pub no_results : (l : LoweredMethod) (n : Node) (tables : Numbered) (target : Option ℕ) (places : List PlaceNo) → target ≡ None → places ≡ [] → GrowsTo (λ numbered. StandForResults l n numbered target places) tables tables
no_results l n tables target places is none =
    subst (λ (t : Option ℕ). GrowsTo (λ numbered. StandForResults l n numbered t places) tables tables) (sym is)
    (grows_to_same (λ numbered. StandForResults l n numbered None places) tables none)

-- a result in a slot
pub results_there : (l : LoweredMethod) (n : Node) (old new : Numbered) (target : Option ℕ) (z : ℕ) (places : List PlaceNo) → target ≡ Some z
    → GrowsTo (λ numbered. AllZip (StandsForResult l z numbered) n.successors places) old new → GrowsTo (λ numbered. StandForResults l n numbered target places) old new
results_there l n old new target z places is all = subst (λ (t : Option ℕ). GrowsTo (λ numbered. StandForResults l n numbered t places) old new) (sym is) all

-- a node stands at each successor of a node
pub successors_stand : (p : Program) (l : LoweredMethod) → IsWholeMethod p l.method.0 l → (node : ℕ) (n : Node) → slice_get l.nodes node ≡ Some n → (offsets : List ℕ) → offsets ≡ n.successors → (i d : ℕ) → i < length offsets
    → HasNodeAt l (get_or offsets i d)
successors_stand p l is_method node n at offsets list i d within =
    is_method.successors n (get_or offsets i d) (contains_at l.nodes node n at) (subst (λ (all : List ℕ). Contains all (get_or offsets i d)) list (Contains-get_or offsets i d within))

-- ---- the call

-- the holders of the results, for which the places stand
are_results : (l : LoweredMethod) (n : Node) (tables : Numbered) (target : Option ℕ) (places : List PlaceNo) → StandForResults l n tables target places
    → (holders : List Holder) × AreResults l n target holders × AllZip (λ (place : PlaceNo) (h : Holder). slice_get tables.holders place.0 ≡ Some h) places holders
are_results l n tables None places none =
    ([], refl, subst (λ (ps : List PlaceNo). AllZip (λ (place : PlaceNo) (h : Holder). slice_get tables.holders place.0 ≡ Some h) ps []) (sym none) tt)
are_results l n tables (Some z) places stand =
    let all = stood (λ (offset : ℕ) (h : Holder). IsSlotAt l offset z h) (λ (place : PlaceNo) (h : Holder). slice_get tables.holders place.0 ≡ Some h) n.successors places stand in
    (all.things, all.belong, all.stand)

-- The entry of a call at an offset.
abbrev pub entry_of : LoweredMethod → NodeCall → (offset : ℕ) → List (Option PlaceNo) → List PlaceNo → CatchChainNo → CallSite
entry_of l c offset arguments results catch_chain =
    record { at = record { method = Some l.method; offset = offset }; kind = c.kind; resolved = c.resolved; arguments = arguments; results = results; catch_chain = catch_chain }

-- The site of the call, for which the entry stands.
pub record Sited (l : LoweredMethod) (n : Node) (c : NodeCall) (tables : Numbered) (entry : CallSite) : Type 0 where
  pub site : ItemCallSite
  pub is_site : IsCallSite l.method l n c site
  pub stands : IsCallAt tables entry site

pub sited : (l : LoweredMethod) (n : Node) (c : NodeCall) (tables : Numbered) (offset : ℕ) (arguments : List (Option PlaceNo)) (results : List PlaceNo) (catch_chain : CatchChainNo) → n.offset ≡ offset
    → AllZip (StandsForUnit l n tables) c.arguments arguments → StandForResults l n tables c.result results → StandsForCatchChain l n tables catch_chain.0 → Sited l n c tables (entry_of l c offset arguments results catch_chain)
sited l n c tables offset arguments results catch_chain is units stand (lands, is_catch_chain, there) =
    let passed = stood (IsUnitHolder l n) (IsUnitAt tables) c.arguments arguments units in
    let (holders, are, stand_for) = are_results l n tables c.result results stand in
    record {
      site = record {
        at = record { method = Some l.method; offset = n.offset };
        kind = c.kind;
        resolved = c.resolved;
        arguments = passed.things;
        results = holders;
        catch_chain = lands;
      };
      is_site = record { at = refl; kind = refl; resolved = refl; arguments = passed.belong; results = are; catch_chain = is_catch_chain };
      stands = record { at = (λ i. record { method = Some l.method; offset = is i }); kind = refl; resolved = refl; arguments = passed.stand; results = stand_for; catch_chain = there };
    }

-- the same where the tables grow from part to part
pub sited_then : (l : LoweredMethod) (n : Node) (c : NodeCall) (units : List (Option ℕ)) (offset : ℕ) (arguments : List (Option PlaceNo)) (results : List PlaceNo) (catch_chain : CatchChainNo) (old mid new last : Numbered)
    → units ≡ c.arguments → n.offset ≡ offset → GrowsTo (λ numbered. AllZip (StandsForUnit l n numbered) units arguments) old mid → GrowsTo (λ numbered. StandForResults l n numbered c.result results) mid new
    → Grows new last → StandsForCatchChain l n last catch_chain.0 → Sited l n c last (entry_of l c offset arguments results catch_chain)
sited_then l n c units offset arguments results catch_chain old mid new last same is first second grows lands =
    let passed = longer_list (StandsForUnit l n) (longer_unit l n) mid last (grows_on mid new last second.grows grows) units arguments first.holds in
    sited l n c last offset arguments results catch_chain is (subst (λ (us : List (Option ℕ)). AllZip (StandsForUnit l n last) us arguments) same passed)
    (longer_results l n new last grows c.result results second.holds) lands

-- ---- the calls that a node adds

-- one call is numbered, the node's, and then no other
pub adds_call : (l : LoweredMethod) (n : Node) (c : NodeCall) → n.op ≡ Call c → (old mid new : List ItemCallSite) (number : ℕ) (site : ItemCallSite) → IsCallSite l.method l n c site
    → number ≡ length old → length mid ≡ length old + 1 → slice_get mid number ≡ Some site → Extends mid new → length new ≡ length mid → AddsCallOf l n old new
adds_call l n c op old mid new number site is_site last longer at stays same = record {
  one = omega arith;
  only = λ k other is_new.
      let within = slice_get_within new k other is_new.stands in
      let here : k ≡ number = omega (arith, within, is_new.fresh) in
      let sites : site ≡ other = same_Some site other (sym (stays number site at) ∙ ap (slice_get new) (sym here) ∙ is_new.stands) in
      record { call = c; is_call = op; is_site = subst (IsCallSite l.method l n c) sites is_site };
}
