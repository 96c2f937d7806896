-- What holds of the tables all the time is kept by each step.
use Rattle.std.proofs.Common.{◌≡◌, ◌∙◌, ◌<◌, ℕ, Bool, true, false, List, [], ◌∷◌, ◌++◌, get_or, length, Option, Result, Ok, Err, refl, sym, subst, ap}
use Rattle.std.specs.List.{Contains}
use Rattle.std.specs.Prelude.{OnOk, if◌then◌else◌}
use Rattle.std.proofs.lemmas.Option.{same_Some}
use Rattle.std.proofs.lemmas.List.Elements.{Contains-get_or}
use Rattle.jvm_model.specs.declared.number.MethodNo.{MethodNo}
use Rattle.edge_steps.specs.declared.conclusions.Conclusion.{Conclusion}
use Rattle.edge_steps.specs.declared.conclusions.EnteredWith.{EnteredWith}
use Rattle.edge_steps.specs.Steps.{begun}
use Rattle.ground_views.specs.declared.question.Question.{Question}
use Rattle.machine_bytecode.specs.Objects.{Subject}
use Rattle.stage_transfer.specs.Settings.{Setting}
use Rattle.ground_views.specs.Questions.{GroundInstance, IsAskedOf}
use Rattle.stage_edges.specs.Rules.{Edge}
use Rattle.edge_numbers.specs.declared.because.Because.{Because}
use Rattle.edge_numbers.specs.declared.because.EdgeNo.{EdgeNo}
use Rattle.edge_numbers.specs.declared.numbered.NumberedEdge.{NumberedEdge}
use Rattle.edge_numbers.specs.Premises.{AreReasons, FollowsFrom, others, premises}
use Rattle.edge_numbers.proofs.Reasons.{stand_more, stand_still}
use Rattle.list_laws.proofs.Places.{contains_at}
use Rattle.end_numbers.specs.Ends.{End}
use Rattle.tabulation_tables.specs.Lists.{Calls, Exits, HasEdge, IsBegunBy, IsEdgeAt, IsEdgeBetween, IsLead, IsLeadBetween, IsNumber, IsProcessed, IsShaped, LeadsSoundly, Lists, edge_of_numbers, edge_to, edges_of, numbered, reasons_of}
use Rattle.tabulation_tables.specs.Steps.{Adds, CallsStay, Grows, IsAdded, IsOneLead, IsPair, NoLead, None1, None2, NotesStay}
use Rattle.edge_numbers.specs.Inserted.{IsInserted}
use Rattle.tabulation_tables.proofs.Edges.{edge_is, edge_stands, edges_extend, follows_still, reasons_inserted, reasons_still}
use Rattle.tabulation_tables.proofs.Kept.{kept_processed, kept_shape, kept_sound}
use Rattle.tabulation_tables.proofs.Still.{between_still, followed_still, grows_more, grows_none, lead_between_still, leads_still, met_still, soundly_still}
use Rattle.tabulation.specs.Kept.{Concludes, HasFollowedAll, HasMetAll, IsKept, IsOfMethod, IsReached, IsRight, IsStep, LeadsToConclusion, MayBegin, MayLead, MayTake}
use Rattle.tabulation.specs.declared.work.Premise.{Premise}

-- ---- elements of lists

pub read_there : {X : Type 0} (xs : List X) (k : ℕ) (x : X) → k < length xs → x ≡ get_or xs k x → Contains xs x
read_there {X} xs k x short is = subst (Contains xs) (sym is) (Contains-get_or xs k x short)

-- ---- results

pub on_ok_both : {T E : Type 0} (r : Result T E) (P Q : Type 0) → OnOk r P → OnOk r Q → OnOk r (P × Q)
on_ok_both (Ok x) P Q p q = (p, q)
on_ok_both (Err e) P Q p q = tt

-- ---- one step and another one

pub step_more : (q : Question) (a b c : Lists) → IsStep q a b → IsStep q b c → IsStep q a c
step_more q a b c first second =
    record { kept = second.kept; grows = grows_more a b c first.grows second.grows; processed = λ k is. second.processed k (first.processed k is) }

pub step_none : (q : Question) (t : Lists) → IsKept q t → IsStep q t t
step_none q t kept = record { kept = kept; grows = grows_none t; processed = λ k is. is }

pub stay_more : (a b c : Lists) → CallsStay a b → CallsStay b c → CallsStay a c
stay_more a b c first second = record { callers = second.callers ∙ first.callers; exits = second.exits ∙ first.exits }

pub stay_none : (t : Lists) → CallsStay t t
stay_none t = record { callers = refl; exits = refl }

pub notes_more : (a b c : Lists) → NotesStay a b → NotesStay b c → NotesStay a c
notes_more a b c first second = record { leads = second.leads ∙ first.leads; by = second.by ∙ first.by; calls = stay_more a b c first.calls second.calls }

pub notes_none : (t : Lists) → NotesStay t t
notes_none t = record { leads = refl; by = refl; calls = stay_none t }

-- ---- what may be done still may be

module _ (q : Question) (old new : Lists) (grows : Grows old new) where
  pub may_lead_still : IsShaped old → (x y : ℕ) (exit : Option EdgeNo) → MayLead q old x y exit → MayLead q new x y exit
  may_lead_still shape x y exit may = record {
    between = lead_between_still old new grows x y may.between;
    sound = λ s w asked. soundly_still old new grows (GroundInstance q s w) shape x y exit (may.sound s w asked);
  }

  pub may_begin_still : IsShaped old → (number : ℕ) (b : EnteredWith) → MayBegin q old number b → MayBegin q new number b
  may_begin_still shape number b may =
      record { follows = λ s w asked. follows_still old new grows shape (GroundInstance q s w) (number ∷ []) (begun b) (may.follows s w asked) }

  pub of_method_still : (n : ℕ) (m : Option MethodNo) → IsOfMethod old n m → IsOfMethod new n m
  of_method_still n m is = record { end = is.end; end_at = grows.ends n is.end is.end_at; is = is.is }

  pub concludes_still : IsShaped old → (p : Premise) (c : Conclusion) → Concludes q old p c → Concludes q new p c
  concludes_still shape p c is = record {
    end = is.end;
    end_at = grows.ends p.end is.end is.end_at;
    rest = is.rest;
    stand = stand_still (edges_of old) (edges_of new) (edges_extend old new grows shape) (others p.exit) is.rest is.stand;
    follows = is.follows;
  }

  pub to_conclusion_still : (n : ℕ) (m : Option MethodNo) (c : Conclusion) → LeadsToConclusion old n m c → LeadsToConclusion new n m c
  to_conclusion_still n m c is = record { number = is.number; at = grows.ends is.number _ is.at; leads = leads_still old new grows n is.number is.leads }

  pub met_all_still : (b c k : ℕ) → HasMetAll q old b c k → HasMetAll q new b c k
  met_all_still b c k is = record { met = λ x w asked. met_still old new grows (GroundInstance q x w) b c k (is.met x w asked) }

  pub followed_all_still : (x : ℕ) → HasFollowedAll q old x → HasFollowedAll q new x
  followed_all_still x is = record { followed = λ s w asked. followed_still old new grows (GroundInstance q s w) x (is.followed s w asked) }

  pub reached_still : (k x : ℕ) → IsReached old k x → IsReached new k x
  reached_still k x is = record { begin = is.begin; at = grows.edges k (numbered is.begin x) is.at }

-- an end to which an edge leads
pub reached_number : (t : Lists) → IsShaped t → (k x : ℕ) → IsReached t k x → IsNumber t x
reached_number t shape k x is =
    let between = shape.edges is.begin x (contains_at t.edges k (numbered is.begin x) is.at) in
    record { end = between.end; end_at = between.end_at }

-- ---- what is right stays right

-- Each edge of the tables follows from those that are named, of whatever is asked.
abbrev HaveReasons : Question → Lists → Type 0
HaveReasons q t = (s : Subject) (w : Setting) → IsAskedOf q s w → AreReasons (GroundInstance q s w) (edges_of t) (reasons_of t)

-- No edge is added, and no reason.
pub record AreSameEdges (old new : Lists) : Type 0 where
  pub count : length new.edges ≡ length old.edges
  pub reasons : new.reasons ≡ old.reasons

pub same_edges : (old new : Lists) → new.edges ≡ old.edges → new.reasons ≡ old.reasons → AreSameEdges old new
same_edges old new edges reasons = record { count = ap (λ (es : List NumberedEdge). length es) edges; reasons = reasons }

reasons_as_before : (q : Question) (old new : Lists) → Grows old new → AreSameEdges old new → IsRight q old → HaveReasons q new
reasons_as_before q old new grows same right s w asked = reasons_still old new grows right.shape same.count same.reasons (GroundInstance q s w) ((right.sound s w asked).reasons)

module _ (q : Question) (E : ℕ → ℕ → Type 0) (L : ℕ → ℕ → Option EdgeNo → Type 0) (C Z : ℕ → ℕ → Type 0) (V : ℕ → Type 0) (old new : Lists) (grows : Grows old new)
    (adds : Adds E L C Z V old new) where
  pub right_by : ((b x : ℕ) → E b x → IsEdgeBetween new b x) → HaveReasons q new → ((x y : ℕ) (exit : Option EdgeNo) → L x y exit → MayLead q new x y exit) → ((b c : ℕ) → C b c → IsNumber new c)
      → ((b c k : ℕ) → C b c → Exits new b k → HasMetAll q new b c k) → ((b k : ℕ) → Z b k → IsBegunBy new b k) → ((b c k : ℕ) → Z b k → Calls new b c → HasMetAll q new b c k)
      → ((x : ℕ) → V x → HasFollowedAll q new x) → IsRight q old → IsRight q new
  right_by edge reasons lead number call there exit visit right = record {
    shape = kept_shape E C Z L V old new grows adds edge (λ x y by is. (lead x y by is).between) number there right.shape;
    sound = λ s w asked.
        kept_sound E C Z L V old new grows adds (GroundInstance q s w) right.shape (reasons s w asked) (λ x y by is. (lead x y by is).sound s w asked)
        (λ x is. (visit x is).followed s w asked) (λ b c k is also. (call b c k is also).met s w asked) (λ b c k is also. (exit b c k is also).met s w asked) (right.sound s w asked);
  }

-- ---- only ends are added

module _ (q : Question) (old new : Lists) (grows : Grows old new) (adds : Adds None2 NoLead None2 None2 None1 old new) where
  pub numbered_step : AreSameEdges old new → IsKept q old → IsStep q old new
  numbered_step same kept = record {
    kept = record {
      right =
          right_by q None2 NoLead None2 None2 None1 old new grows adds (λ b x never. absurd never) (reasons_as_before q old new grows same kept.right) (λ x y by never. absurd never)
          (λ b c never. absurd never) (λ b c k never also. absurd never) (λ b k never. absurd never) (λ b c k never also. absurd never) (λ x never. absurd never) kept.right;
      roomy = subst (λ (n : ℕ). n < q.limit) (sym same.count) kept.roomy;
    };
    grows = grows;
    processed = λ k is. kept_processed None2 None2 None2 NoLead None1 old new grows adds old (grows_none old) (λ x y by never b also. absurd never) k is is;
  }

-- ---- an edge is added

added_is : (P : ℕ → ℕ → Type 0) (a c : ℕ) (added : Bool) → P a c → (b x : ℕ) → IsAdded added a c b x → P b x
added_is P a c false p b x never = absurd never
added_is P a c true p b x same = subst (λ (u : ℕ). P u x) (sym same.0) (subst (λ (v : ℕ). P a v) (sym same.1) p)

module _ (q : Question) (old new : Lists) (grows : Grows old new) (b x : ℕ) (added : Bool) (adds : Adds (IsAdded added b x) NoLead None2 None2 None1 old new) where
  pub taken_right : (because : Because) → IsInserted added old.edges new.edges (numbered b x) → new.reasons ≡ (if added then old.reasons ++ because ∷ [] else old.reasons)
      → MayTake q old b x because → IsRight q old → IsRight q new
  taken_right because inserted reasons may right =
      right_by q (IsAdded added b x) NoLead None2 None2 None1 old new grows adds (added_is (IsEdgeBetween new) b x added (between_still old new grows b x may.between))
      (λ s w asked.
      reasons_inserted old new grows right.shape (GroundInstance q s w) added b x because inserted reasons may.between (may.follows s w asked) ((right.sound s w asked).reasons))
      (λ u y by never. absurd never)
      (λ u c never. absurd never) (λ u c k never also. absurd never) (λ u k never. absurd never) (λ u c k never also. absurd never) (λ u never. absurd never) right

  pub taken_processed : (k : ℕ) → IsProcessed old k → IsProcessed new k
  taken_processed k is =
      kept_processed (IsAdded added b x) None2 None2 NoLead None1 old new grows adds old (grows_none old) (λ u y by never v also. absurd never) k is is

-- ---- a lead is noted, once the edges are there

pair_is : (P : ℕ → ℕ → Type 0) (a c : ℕ) → P a c → (b x : ℕ) → IsPair a c b x → P b x
pair_is P a c p b x same = subst (λ (u : ℕ). P u x) (sym same.0) (subst (λ (v : ℕ). P a v) (sym same.1) p)

module _ (q : Question) (first old new : Lists) (x y : ℕ) (exit : Option EdgeNo) (grows : Grows old new) (adds : Adds None2 (IsOneLead x y exit) None2 None2 None1 old new) where
  pub lead_step : IsShaped first → AreSameEdges old new → IsStep q first old → MayLead q first x y exit → ((b : ℕ) → HasEdge first b x → HasEdge new b y) → IsStep q first new
  lead_step shape same step may there = record {
    kept = record {
      right =
          right_by q None2 (IsOneLead x y exit) None2 None2 None1 old new grows adds (λ b u never. absurd never) (reasons_as_before q old new grows same step.kept.right)
          (λ u v by is. lead_is u v by is) (λ b c never. absurd never) (λ b c k never also. absurd never)
          (λ b k never. absurd never) (λ b c k never also. absurd never) (λ u never. absurd never) step.kept.right;
      roomy = subst (λ (n : ℕ). n < q.limit) (sym same.count) step.kept.roomy;
    };
    grows = grows_more first old new step.grows grows;
    processed = λ k is.
        kept_processed None2 None2 None2 (IsOneLead x y exit) None1 old new grows adds first step.grows
        (λ u v by one b also. subst (λ (a : ℕ). HasEdge new b a) (sym one.1) (there b (subst (λ (a : ℕ). HasEdge first b a) one.0 also))) k is (step.processed k is);
  }
    where
      still : MayLead q new x y exit
      still = may_lead_still q first new (grows_more first old new step.grows grows) shape x y exit may

      lead_is : (u v : ℕ) (by : Option EdgeNo) → IsOneLead x y exit u v by → MayLead q new u v by
      lead_is u v by one =
          subst (λ (a : ℕ). MayLead q new a v by) (sym one.0) (subst (λ (a : ℕ). MayLead q new x a by) (sym one.1) (subst (MayLead q new x y) (sym one.2) still))

-- ---- a caller, an exit or a visit is noted

no_lead : (old new : Lists) (x y : ℕ) (exit : Option EdgeNo) → NoLead x y exit → (b : ℕ) → HasEdge old b x → HasEdge new b y
no_lead old new x y exit never b there = absurd never

module _ (q : Question) (old new : Lists) (grows : Grows old new) (same : AreSameEdges old new) (kept : IsKept q old) where
  roomy_still : length new.edges < q.limit
  roomy_still = subst (λ (n : ℕ). n < q.limit) (sym same.count) kept.roomy

  pub call_step : (b c : ℕ) → Adds None2 NoLead (IsPair b c) None2 None1 old new → IsNumber new c → ((k : ℕ) → Exits new b k → HasMetAll q new b c k) → IsStep q old new
  call_step b c adds number met = record {
    kept = record {
      right =
          right_by q None2 NoLead (IsPair b c) None2 None1 old new grows adds (λ a x never. absurd never) (reasons_as_before q old new grows same kept.right) (λ x y by never. absurd never)
          (λ a d one. subst (IsNumber new) (sym one.1) number)
          (λ a d k one also. pair_is (λ u v. HasMetAll q new u v k) b c (met k (subst (λ (u : ℕ). Exits new u k) one.0 also)) a d one)
          (λ a k never. absurd never) (λ a d k never also. absurd never) (λ x never. absurd never) kept.right;
      roomy = roomy_still;
    };
    grows = grows;
    processed = λ k is. kept_processed None2 (IsPair b c) None2 NoLead None1 old new grows adds old (grows_none old) (no_lead old new) k is is;
  }

  pub exit_step : (b z : ℕ) → Adds None2 NoLead None2 (IsPair b z) None1 old new → IsBegunBy new b z → ((c : ℕ) → Calls new b c → HasMetAll q new b c z) → IsStep q old new
  exit_step b z adds there met = record {
    kept = record {
      right =
          right_by q None2 NoLead None2 (IsPair b z) None1 old new grows adds (λ a x never. absurd never) (reasons_as_before q old new grows same kept.right) (λ x y by never. absurd never)
          (λ a c never. absurd never)
          (λ a c u never also. absurd never) (pair_is (IsBegunBy new) b z there)
          (λ a c u one also. pair_is (λ v w. HasMetAll q new v c w) b z (met c (subst (λ (v : ℕ). Calls new v c) one.0 also)) a u one) (λ x never. absurd never) kept.right;
      roomy = roomy_still;
    };
    grows = grows;
    processed = λ k is. kept_processed None2 None2 (IsPair b z) NoLead None1 old new grows adds old (grows_none old) (no_lead old new) k is is;
  }

  pub visit_step : (x : ℕ) → Adds None2 NoLead None2 None2 (λ (u : ℕ). u ≡ x) old new → HasFollowedAll q new x → IsStep q old new
  visit_step x adds followed = record {
    kept = record {
      right =
          right_by q None2 NoLead None2 None2 (λ (u : ℕ). u ≡ x) old new grows adds (λ a y never. absurd never) (reasons_as_before q old new grows same kept.right) (λ u y by never. absurd never)
          (λ a c never. absurd never)
          (λ a c k never also. absurd never) (λ a k never. absurd never) (λ a c k never also. absurd never) (λ u one. subst (HasFollowedAll q new) (sym one) followed) kept.right;
      roomy = roomy_still;
    };
    grows = grows;
    processed = λ k is. kept_processed None2 None2 None2 NoLead (λ (u : ℕ). u ≡ x) old new grows adds old (grows_none old) (no_lead old new) k is is;
  }

-- ---- what an edge and a lead allow

pub lead_may : (q : Question) (t : Lists) (x y : ℕ) (exit : Option EdgeNo) → IsRight q t → IsLead t x y exit → MayLead q t x y exit
lead_may q t x y exit right there =
    record { between = right.shape.leads x y (contains_at t.leads there.place _ there.at); sound = λ s w asked. (right.sound s w asked).leads x y exit there }

pub take_by_lead : (q : Question) (t : Lists) (k b x y : ℕ) (exit : Option EdgeNo) (because : Because) → premises because ≡ k ∷ others exit → IsRight q t → IsEdgeAt t k b x → MayLead q t x y exit
    → MayTake q t b y because
take_by_lead q t k b x y exit because names right at may = record {
  between = record {
    begin = edge.begin;
    end = between.to;
    begin_at = edge.begin_at;
    end_at = between.to_at;
    first = edge.first;
    same = edge.same ∙ ap (λ (e : End). e.method) (same_Some edge.end between.from (sym edge.end_at ∙ between.from_at)) ∙ between.same;
  };
  follows = λ s w asked. by (GroundInstance q s w) (may.sound s w asked);
}
  where
    edge : IsEdgeBetween t b x
    edge = right.shape.edges b x (contains_at t.edges k (numbered b x) at)

    between : IsLeadBetween t x y
    between = may.between

    by : (I : List Edge → Edge → Type 0) → LeadsSoundly I t x y exit → FollowsFrom I (edges_of t) (premises because) (edge_of_numbers t (numbered b y))
    by I lead =
        subst (FollowsFrom I (edges_of t) (premises because)) (sym (edge_is t b y edge.begin lead.to edge.begin_at lead.to_at))
        (subst (λ (places : List ℕ). FollowsFrom I (edges_of t) places (edge_to lead.to edge.begin.fact)) (sym names) (record {
          premises = edge_to lead.from edge.begin.fact ∷ lead.rest;
          instance = lead.follows edge.begin.fact;
          stand = stand_more (edges_of t) k (edge_to lead.from edge.begin.fact) (edge_stands t k b x at edge.begin lead.from edge.begin_at lead.from_at) (others exit) lead.rest lead.stand;
        }))
