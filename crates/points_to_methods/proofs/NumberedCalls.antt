-- Calls that are numbered: what was there, and what is new.
use Rattle.std.proofs.Common.{◌≡◌, ℕ, ◌+◌, ◌<◌, List, length, Some, sym, ◌∙◌, ap, arith, inl, inr, ◌⊎◌}
use Rattle.std.specs.List.{slice_get}
use Rattle.std.proofs.lemmas.Bool.{cases_lt}
use Rattle.std.proofs.lemmas.Option.{slice_get_within}
use Rattle.op_model.specs.declared.lowered.LoweredMethod.{LoweredMethod}
use Rattle.op_model.specs.declared.node.Node.{Node}
use Rattle.op_model.specs.declared.node.NodeRef.{NodeRef}
use Rattle.points_to_constraints.specs.Items.{CallSite}
use Rattle.points_to_constraints.specs.NodeItems.{IsCallOf}
use Rattle.points_to_methods.specs.NewCalls.{AddsCalls, IsNewCall}
use Rattle.points_to_methods.specs.NodeCalls.{AddsCallOf, AddsCallsBelow, IsCallAt, IsCallBelow}
use Rattle.points_to_numbers.specs.Numbered.{Extends}
use Rattle.slot_names.specs.NodePlaces.{AreInOrder}
use Rattle.slot_names.proofs.ListPlaces.{contains_at, stands_below}

-- what stands at a number that was there, stood there
pub stood : (old new : List CallSite) → Extends old new → (number : ℕ) (site : CallSite) → slice_get new number ≡ Some site → number < length old → slice_get old number ≡ Some site
stood old new longer number site at within =
    let (before, there) = stands_below old number within in
    there ∙ sym (longer number before there) ∙ at

-- ---- the calls of one node

-- where no call is numbered, none is new
pub no_call : (l : LoweredMethod) (n : Node) (old new : List CallSite) → length new ≡ length old → AddsCallOf l n old new
no_call l n old new same = record {
  one = omega (arith, same);
  only = λ number site call. let within = slice_get_within new number site call.stands in absurd (omega (arith, within, call.fresh, same));
}

-- none is numbered before
pub call_after : (l : LoweredMethod) (n : Node) (old mid new : List CallSite) → length mid ≡ length old → AddsCallOf l n mid new → AddsCallOf l n old new
call_after l n old mid new same added = record {
  one = omega (arith, same, added.one);
  only = λ number site call. added.only number site (record { stands = call.stands; fresh = omega (arith, same, call.fresh) });
}

-- none is numbered behind
pub call_before : (l : LoweredMethod) (n : Node) (old mid new : List CallSite) → AddsCallOf l n old mid → Extends mid new → length new ≡ length mid → AddsCallOf l n old new
call_before l n old mid new added longer same = record {
  one = omega (arith, same, added.one);
  only = λ number site call.
      let within = slice_get_within new number site call.stands in
      added.only number site (record { stands = stood mid new longer number site call.stands (omega (arith, within, same)); fresh = call.fresh });
}

-- ---- the calls of the first nodes

-- no node yet
pub no_calls : (l : LoweredMethod) (calls : List CallSite) → AddsCallsBelow l 0 calls calls
no_calls l calls = record {
  only = λ number site call. let within = slice_get_within calls number site call.stands in absurd (omega (arith, within, call.fresh));
  apart = λ i j a b first second same. let within = slice_get_within calls i a first.stands in absurd (omega (arith, within, first.fresh));
}

-- a call of an earlier node is at another node
at_another : (l : LoweredMethod) → AreInOrder l → (k : ℕ) (n : Node) → slice_get l.nodes k ≡ Some n → (a b : CallSite) → IsCallBelow l k a → IsCallAt l n b → a.at ≡ b.at → ⊥
at_another l order k n stands a b below here same =
    let less = order.ascend below.place k below.node n below.below below.stands stands in
    let equal : below.node.offset ≡ n.offset = ap (λ (r : NodeRef). r.offset) (sym below.is_call.is_site.at ∙ same ∙ here.is_site.at) in
    omega (arith, less, equal)

-- one node more
pub more_calls : (l : LoweredMethod) → AreInOrder l → (k : ℕ) (n : Node) → slice_get l.nodes k ≡ Some n → (old mid new : List CallSite) → Extends mid new
    → AddsCallsBelow l k old mid → AddsCallOf l n mid new → AddsCallsBelow l (k + 1) old new
more_calls l order k n at old mid new longer first second = record {
  only = λ number site call. elim (told number site call) [
    | inl before ↦ further site (first.only number site before)
    | inr here ↦ record { place = k; below = omega arith; node = n; stands = at; is_call = second.only number site here }
  ];
  apart = λ i j a b one other same. one_number i j a b (told i a one) (told j b other) same;
}
  where
    told : (number : ℕ) (site : CallSite) → IsNewCall old new number site → IsNewCall old mid number site ⊎ IsNewCall mid new number site
    told number site call = elim (cases_lt number (length mid)) [
      | inl before ↦ inl (record { stands = stood mid new longer number site call.stands before; fresh = call.fresh })
      | inr here ↦ inr (record { stands = call.stands; fresh = here })
    ]

    further : (site : CallSite) → IsCallBelow l k site → IsCallBelow l (k + 1) site
    further site call = record { place = call.place; below = omega (arith, call.below); node = call.node; stands = call.stands; is_call = call.is_call }

    one_number : (i j : ℕ) (a b : CallSite) → IsNewCall old mid i a ⊎ IsNewCall mid new i a → IsNewCall old mid j b ⊎ IsNewCall mid new j b → a.at ≡ b.at → i ≡ j
    one_number i j a b (inl one) (inl other) same = first.apart i j a b one other same
    one_number i j a b (inl one) (inr other) same = absurd (at_another l order k n at a b (first.only i a one) (second.only j b other) same)
    one_number i j a b (inr one) (inl other) same = absurd (at_another l order k n at b a (first.only j b other) (second.only i a one) (sym same))
    one_number i j a b (inr one) (inr other) same =
        let left = slice_get_within new i a one.stands in
        let right = slice_get_within new j b other.stands in
        omega (arith, left, right, one.fresh, other.fresh, second.one)

-- all of them: each call stood there, or is that of a node
pub all_calls : (l : LoweredMethod) (limit : ℕ) (old new : List CallSite) → Extends old new → AddsCallsBelow l limit old new → AddsCalls l old new
all_calls l limit old new longer added = record {
  only = λ number site at. elim (cases_lt number (length old)) [
    | inl before ↦ inl (stood old new longer number site at before)
    | inr fresh ↦ inr (called site (added.only number site (record { stands = at; fresh = fresh })))
  ];
  apart = added.apart;
}
  where
    called : (site : CallSite) → IsCallBelow l limit site → IsCallOf l site
    called site call = record {
      node = call.node;
      stands = contains_at l.nodes call.place call.node call.stands;
      call = call.is_call.call;
      is_call = call.is_call.is_call;
      is_site = call.is_call.is_site;
    }
