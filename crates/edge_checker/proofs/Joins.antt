-- What is asked of a listed edge, from its parts.
use Rattle.std.proofs.Common.{◌≡◌, ◌⊎◌, inl, inr, ℕ, max, Bool, true, false, cond, List, [], ◌∷◌, ◌≤◌, Option, None, Some, refl, sym, ap, ◌∙◌, subst, arith}
use Rattle.std.specs.Bool.{MatchBool}
use Rattle.std.specs.List.{AllByRecursion, Contains}
use Rattle.list_laws.proofs.Places.{contains_at, place_of}
use Rattle.jvm_model.specs.declared.number.MethodNo.{MethodNo}
use Rattle.op_model.specs.declared.node.Spot.{Spot}
use Rattle.machine_bytecode.specs.Objects.{Subject}
use Rattle.ground.specs.Findings.{gives_listed}
use Rattle.stage_facts.specs.Facts.{SiteFact}
use Rattle.stage_facts.specs.Plain.{fact_of}
use Rattle.stage_transfer.specs.Settings.{Setting}
use Rattle.stage_transfer.specs.Stages.{transfer_of}
use Rattle.stage_edges.specs.Rules.{Edge, before, edge}
use Rattle.edge_steps.specs.declared.conclusions.Conclusion.{Conclusion}
use Rattle.edge_steps.specs.declared.conclusions.EnteredWith.{EnteredWith}
use Rattle.edge_steps.specs.Steps.{AreFollowing, IsOneOf, begins, begun, goes, within}
use Rattle.ground_views.specs.declared.question.Question.{Question}
use Rattle.ground_views.specs.declared.viewed_node.ViewedNode.{ViewedNode}
use Rattle.ground_views.specs.Questions.{GroundInstance, IsAskedOf}
use Rattle.ground_views.specs.Views.{FollowAt}
use Rattle.edge_checker.specs.declared.numbered_edge.NumberedEdge.{NumberedEdge}
use Rattle.edge_checker.specs.declared.rejected.EdgeCondition.{EdgeCondition}
use Rattle.edge_checker.specs.declared.rejected.EdgeCondition.TheVariants.{Flow, Enter, Leave}
use Rattle.edge_checker.specs.declared.rejected.Rejected.{Rejected}
use Rattle.edge_checker.specs.Conditions.{HasEdge, condition_of, edge_in, edges_of, last_line, number_of}
use Rattle.edge_checker.specs.Spans.{IsExitOf, IsExitSpan}
use Rattle.edge_checker.specs.Failures.{IsLeastFor, IsLeastOf, IsLesserOf}
use Rattle.edge_checker.specs.Parts.{AreBegun, AreExitsMet, AreLeft, AreListed, ExitFails, ExitsFail, FailsAs, FailsAt, IsExitMet, IsExitMissing, IsNotBegun, IsOneMissing, IsSeenAt, LeavingFails, MeetsAt}
use Rattle.edge_checker.proofs.ByCondition.{Kind, kind}
use Rattle.edge_checker.proofs.Leasts.{AllOf, SomeOf, joined, least_same}
use Rattle.edge_checker.proofs.Uniform.{entry_listed, entry_of, flow_listed, flow_of}

max_zero : (n : ℕ) → max n 0 ≡ n
max_zero n = omega arith

max_one : (m n : ℕ) → max m (max n 0) ≡ max m n
max_one m n = omega arith

has_is : (listed : List NumberedEdge) (e f : Edge) → e ≡ f → HasEdge listed f → HasEdge listed e
has_is listed e f is h = subst (HasEdge listed) (sym is) h

-- a test, and its failure
pub test_least : (Met Missing : Type 0) (b : Bool) (condition : EdgeCondition) (line : ℕ) (o : Option Rejected) → o ≡ cond b None (Some (record { condition = condition; line = line }))
    → MatchBool b Met Missing → (Met → Missing → ⊥) → IsLeastOf Met (FailsAs Missing (number_of condition) line) o
test_least Met Missing true condition line o is h never =
    subst (IsLeastOf Met (FailsAs Missing (number_of condition) line)) (sym is) (record { met = h; none = λ k l f. never h f.missing })
test_least Met Missing false condition line o is h never =
    subst (IsLeastOf Met (FailsAs Missing (number_of condition) line)) (sym is) (record {
      fails = record { missing = h; condition_is = refl; line_is = refl };
      first = λ k l f. let at = f.line_is in inr (sym f.condition_is, omega (arith, at));
    })

-- what follows from an edge to the node that is looked at
module _ (q : Question) (x : Subject) (w : Setting) (asked : IsAskedOf q x w) (k : ViewedNode) (p : Edge) (seen : IsSeenAt q k p) (rest : List Edge)
    (conclusions : List Conclusion) (entered : List EnteredWith) (follow : FollowAt q k p.fact rest conclusions entered) where
  follow_at : (m : Option MethodNo) (s : Spot) → m ≡ k.method → s ≡ before k.node.now
      → AreFollowing x (gives_listed q.ground.now.methods) (Contains q.ground.now.facts) (transfer_of w) m (λ (e : SiteFact). edge m e s p.fact ∷ rest) conclusions entered
  follow_at m s method spot =
      subst (λ (z : Option MethodNo × Spot). AreFollowing x (gives_listed q.ground.now.methods) (Contains q.ground.now.facts) (transfer_of w) z.0
      (λ (e : SiteFact). edge z.0 e z.1 p.fact ∷ rest) conclusions entered) {x = (k.method, before k.node.now)} {y = (m, s)} (λ i. (sym method i, sym spot i))
      (follow.each x w asked)

  pub follow_here : AreFollowing x (gives_listed q.ground.now.methods) (Contains q.ground.now.facts) (transfer_of w) p.method
      (λ (e : SiteFact). edge p.method e p.spot p.fact ∷ rest) conclusions entered
  follow_here = follow_at p.method p.spot seen.method seen.spot

-- ---- an edge and one to an exit

module _ (q : Question) (listed : List NumberedEdge) (a r : NumberedEdge) (k : ViewedNode) (seen : IsSeenAt q k (edge_in a)) (m : MethodNo) (method : r.edge.method ≡ Some m)
    (conclusions : List Conclusion)
    (follow : FollowAt q k (fact_of a.edge.fact) (edge (Some m) (fact_of r.edge.entry) r.edge.spot (fact_of r.edge.fact) ∷ []) conclusions []) where
  beside_is : edge (Some m) (fact_of r.edge.entry) r.edge.spot (fact_of r.edge.fact) ≡ edge_in r
  beside_is = ap (λ (o : Option MethodNo). edge o (fact_of r.edge.entry) r.edge.spot (fact_of r.edge.fact)) (sym method)

  follow_both : (x : Subject) (w : Setting) → IsAskedOf q x w
      → AreFollowing x (gives_listed q.ground.now.methods) (Contains q.ground.now.facts) (transfer_of w) a.edge.method
      (λ (e : SiteFact). edge a.edge.method e a.edge.spot (fact_of a.edge.fact) ∷ edge_in r ∷ []) conclusions []
  follow_both x w asked =
      subst (λ (s : Edge). AreFollowing x (gives_listed q.ground.now.methods) (Contains q.ground.now.facts) (transfer_of w) a.edge.method
      (λ (e : SiteFact). edge a.edge.method e a.edge.spot (fact_of a.edge.fact) ∷ s ∷ []) conclusions []) beside_is
      (follow_here q x w asked k (edge_in a) seen (edge (Some m) (fact_of r.edge.entry) r.edge.spot (fact_of r.edge.fact) ∷ []) conclusions [] follow)

  module _ (x : Subject) (w : Setting) (asked : IsAskedOf q x w) where
    exit_met : AreListed listed a conclusions → IsExitMet q listed a r x w
    exit_met h = record { each = λ e i. by e ((follow_both x w asked).all (fact_of a.edge.entry) e i) }
      where
        by : (e : Edge) → IsOneOf a.edge.method (fact_of a.edge.entry) conclusions [] e → HasEdge listed e
        by e (goes c there) = h.each c there
        by e (begins b there) = absurd (let short = there.1 in omega (arith, short))

    exit_missing : IsOneMissing listed a conclusions → IsExitMissing q listed a r x w
    exit_missing h = record {
      e = within a.edge.method (fact_of a.edge.entry) h.c;
      follows = (follow_both x w asked).within_follow h.c (fact_of a.edge.entry) h.among;
      missing = h.missing;
    }

    exit_match : (b : Bool) → MatchBool b (AreListed listed a conclusions) (IsOneMissing listed a conclusions) → MatchBool b (IsExitMet q listed a r x w) (IsExitMissing q listed a r x w)
    exit_match true h = exit_met h
    exit_match false h = exit_missing h

  pub exit_least : (b : Bool) (o : Option Rejected) → MatchBool b (AreListed listed a conclusions) (IsOneMissing listed a conclusions)
      → o ≡ cond b None (Some (record { condition = Leave; line = max a.line r.line })) → IsLeastFor q (IsExitMet q listed a r) (ExitFails q listed a r) o
  exit_least b o h is = record {
    each = λ x w asked.
        test_least (IsExitMet q listed a r x w) (IsExitMissing q listed a r x w) b Leave (max a.line r.line) o is (exit_match x w asked b h)
        (λ met missing. missing.missing (met.each missing.e missing.follows));
  }

-- the exits of a method that is entered stand in a span
pub exits_whole : (q : Question) (listed : List NumberedEdge) (a : NumberedEdge) (b : EnteredWith) (from to i : ℕ) (o : Option Rejected)
    → IsExitSpan listed b.method (fact_of b.fact) from to → to ≤ i → i ≤ to
    → IsLeastFor q (λ (x : Subject) (w : Setting). AllOf (λ (r : NumberedEdge). IsExitMet q listed a r x w) listed from i)
    (λ (x : Subject) (w : Setting). SomeOf (λ (r : NumberedEdge). ExitFails q listed a r x w) listed from i) o
    → IsLeastFor q (AreExitsMet q listed a b) (ExitsFail q listed a b) o
exits_whole q listed a b from to i o span past end h = record {
  each = λ x w asked.
      least_same (AllOf (λ (r : NumberedEdge). IsExitMet q listed a r x w) listed from i) (AreExitsMet q listed a b x w)
      (SomeOf (λ (r : NumberedEdge). ExitFails q listed a r x w) listed from i) (ExitsFail q listed a b x w) o
      (λ all. record {
        each = λ r stands is.
            let at = place_of listed r stands in
            let place = span.all at.0 r at.1 is in
            let high = place.1 in
            all.each at.0 place.0 (omega (arith, high, past)) r at.1;
      })
      (λ k l f.
      let high = f.high in
      record {
        r = f.fails.0;
        stands = contains_at listed f.n f.fails.0 f.fails.1;
        is = span.those f.n f.fails.0 f.low (omega (arith, high, end)) f.fails.1;
        fails = f.fails.2;
      })
      (λ k l f.
      let at = place_of listed f.r f.stands in
      let place = span.all at.0 f.r at.1 f.is in
      let high = place.1 in
      record { n = at.0; low = place.0; high = omega (arith, high, past); fails = (f.r, at.1, f.fails) })
      (h.each x w asked);
}

-- ---- an edge

module _ (q : Question) (listed : List NumberedEdge) (a : NumberedEdge) (k : ViewedNode) (seen : IsSeenAt q k (edge_in a)) (conclusions : List Conclusion)
    (entered : List EnteredWith) (follow : FollowAt q k (fact_of a.edge.fact) [] conclusions entered) where
  module _ (x : Subject) (w : Setting) (asked : IsAskedOf q x w) where
    abbrev Rules : List Edge → Edge → Type 0
    Rules = GroundInstance q x w

    abbrev first : Edge
    first = edge_in a

    abbrev Own : Edge → Type 0
    Own e = (c : Conclusion) × Contains conclusions c × (e ≡ within a.edge.method (fact_of a.edge.entry) c)

    abbrev Begins : Edge → Type 0
    Begins e = (b : EnteredWith) × Contains entered b × (e ≡ begun b)

    abbrev Left : NumberedEdge → Type 0
    Left r = (b : EnteredWith) × Contains entered b × IsExitOf (edge_in r) b.method (fact_of b.fact)

    here : AreFollowing x (gives_listed q.ground.now.methods) (Contains q.ground.now.facts) (transfer_of w) a.edge.method
        (λ (e : SiteFact). edge a.edge.method e a.edge.spot (fact_of a.edge.fact) ∷ []) conclusions entered
    here = follow_here q x w asked k (edge_in a) seen [] conclusions entered follow

    -- what an instance with the edge first is
    pub data IsBy (rest : List NumberedEdge) (e : Edge) (condition : ℕ) : Type 0 where
      flows : rest ≡ [] → condition ≡ 5 → Own e → IsBy rest e condition
      enters : rest ≡ [] → condition ≡ 6 → Begins e → IsBy rest e condition
      leaves : (r : NumberedEdge) → rest ≡ r ∷ [] → condition ≡ 7 → Left r → IsBy rest e condition

    is_by : (rest : List NumberedEdge) (e : Edge) (i : Rules (edges_of (a ∷ rest)) e) → IsBy rest e (condition_of i)
    is_by [] e i = by (kind x (gives_listed q.ground.now.methods) (Contains q.ground.now.facts) (transfer_of w) (first ∷ []) e i)
      where
        by : Kind x (gives_listed q.ground.now.methods) (Contains q.ground.now.facts) (transfer_of w) (first ∷ []) e (condition_of i) → IsBy [] e (condition_of i)
        by (inl flow) =
            flows refl flow.0 (flow_listed x (gives_listed q.ground.now.methods) (Contains q.ground.now.facts) (transfer_of w) a.edge.method a.edge.spot (fact_of a.edge.fact) conclusions
            entered here (fact_of a.edge.entry) e flow.1)
        by (inr entry) =
            let found = entry_listed x (gives_listed q.ground.now.methods) (Contains q.ground.now.facts) (transfer_of w) a.edge.method a.edge.spot (fact_of a.edge.fact) conclusions
            entered here entry.1.target entry.1.fact entry.1.alike in
            enters refl entry.0 (found.0, found.1, entry.1.is ∙ found.2)
    is_by (r ∷ []) e i =
        let leaving = kind x (gives_listed q.ground.now.methods) (Contains q.ground.now.facts) (transfer_of w) (first ∷ edge_in r ∷ []) e i in
        let found = entry_listed x (gives_listed q.ground.now.methods) (Contains q.ground.now.facts) (transfer_of w) a.edge.method a.edge.spot (fact_of a.edge.fact) conclusions
        entered here leaving.1.target (fact_of r.edge.entry) leaving.1.entry in
        leaves r refl leaving.0 (
          found.0,
          found.1,
          record {
            method = leaving.1.method ∙ ap (λ (p : Edge). p.method) found.2;
            entry = ap (λ (p : Edge). p.entry) found.2;
            exit = leaving.1.exit;
          },
        )
    is_by (r ∷ s ∷ rest) e i =
        absurd (kind x (gives_listed q.ground.now.methods) (Contains q.ground.now.facts) (transfer_of w) (first ∷ edge_in r ∷ edge_in s ∷ edges_of rest) e i)

    abbrev Met : Type 0
    Met = (AreListed listed a conclusions × AreBegun listed entered) × AreLeft q listed a entered x w

    abbrev SomePart : ℕ → ℕ → Type 0
    SomePart n l = (FailsAs (IsOneMissing listed a conclusions) 5 a.line n l ⊎ FailsAs (IsNotBegun listed entered) 6 a.line n l) ⊎ LeavingFails q listed a entered x w n l

    only_held : (rest : List NumberedEdge) (r : NumberedEdge) → rest ≡ r ∷ [] → AllByRecursion (Contains listed) rest → Contains listed r
    only_held rest r is hold = (subst (λ (rs : List NumberedEdge). AllByRecursion (Contains listed) rs) is hold).0

    meets : Met → MeetsAt q listed a x w
    meets met = record { each = λ rest e i hold. by rest e i hold (is_by rest e i) }
      where
        by : (rest : List NumberedEdge) (e : Edge) (i : Rules (edges_of (a ∷ rest)) e) → AllByRecursion (Contains listed) rest → IsBy rest e (condition_of i) → HasEdge listed e
        by rest e i hold (flows none five own) = has_is listed e (within a.edge.method (fact_of a.edge.entry) own.0) own.2 (met.0.0.each own.0 own.1)
        by rest e i hold (enters none six own) = has_is listed e (begun own.0) own.2 (met.0.1.each own.0 own.1)
        by rest e i hold (leaves r only seven left) =
            ((met.1.each left.0 left.1).each r (only_held rest r only hold) left.2).each e
            (subst (λ (rs : List NumberedEdge). Rules (edges_of (a ∷ rs)) e) only i)

    fails_at : (n l : ℕ) → SomePart n l → FailsAt q listed a x w n l
    fails_at n l (inl (inl f)) =
        let c = f.missing.c in
        let own = flow_of x (gives_listed q.ground.now.methods) (Contains q.ground.now.facts) (transfer_of w) a.edge.method a.edge.spot (fact_of a.edge.fact) conclusions entered here c
        (fact_of a.edge.entry) f.missing.among in
        record {
          rest = [];
          e = within a.edge.method (fact_of a.edge.entry) c;
          follows = own.instance;
          hold = tt;
          missing = f.missing.missing;
          condition_is = f.condition_is ∙ sym own.is;
          line_is = f.line_is ∙ sym (max_zero a.line);
        }
    fails_at n l (inl (inr f)) =
        let b = f.missing.b in
        let own = entry_of x (gives_listed q.ground.now.methods) (Contains q.ground.now.facts) (transfer_of w) a.edge.method a.edge.spot (fact_of a.edge.fact) conclusions entered here b
        (fact_of a.edge.entry) f.missing.among in
        record {
          rest = [];
          e = begun b;
          follows = own.instance;
          hold = tt;
          missing = f.missing.missing;
          condition_is = f.condition_is ∙ sym own.is;
          line_is = f.line_is ∙ sym (max_zero a.line);
        }
    fails_at n l (inr f) =
        let g = f.fails.fails in
        let r = f.fails.r in
        let leaving = kind x (gives_listed q.ground.now.methods) (Contains q.ground.now.facts) (transfer_of w) (first ∷ edge_in r ∷ []) g.missing.e g.missing.follows in
        record {
          rest = r ∷ [];
          e = g.missing.e;
          follows = g.missing.follows;
          hold = (f.fails.stands, tt);
          missing = g.missing.missing;
          condition_is = g.condition_is ∙ sym leaving.0;
          line_is = g.line_is ∙ sym (max_one a.line r.line);
        }

    fails_by : (rest : List NumberedEdge) (e : Edge) (i : Rules (edges_of (a ∷ rest)) e) (n l : ℕ) → AllByRecursion (Contains listed) rest → (HasEdge listed e → ⊥)
        → n ≡ condition_of i → l ≡ last_line (a ∷ rest) → IsBy rest e (condition_of i) → SomePart n l
    fails_by rest e i n l hold missing condition line (flows none five own) = inl (inl (record {
      missing = record { c = own.0; among = own.1; missing = λ has. missing (has_is listed e (within a.edge.method (fact_of a.edge.entry) own.0) own.2 has) };
      condition_is = condition ∙ five;
      line_is = line ∙ ap (λ (rs : List NumberedEdge). last_line (a ∷ rs)) none ∙ max_zero a.line;
    }))
    fails_by rest e i n l hold missing condition line (enters none six own) = inl (inr (record {
      missing = record { b = own.0; among = own.1; missing = λ has. missing (has_is listed e (begun own.0) own.2 has) };
      condition_is = condition ∙ six;
      line_is = line ∙ ap (λ (rs : List NumberedEdge). last_line (a ∷ rs)) none ∙ max_zero a.line;
    }))
    fails_by rest e i n l hold missing condition line (leaves r only seven left) = inr (record {
      b = left.0;
      among = left.1;
      fails = record {
        r = r;
        stands = only_held rest r only hold;
        is = left.2;
        fails = record {
          missing = record { e = e; follows = subst (λ (rs : List NumberedEdge). Rules (edges_of (a ∷ rs)) e) only i; missing = missing };
          condition_is = condition ∙ seven;
          line_is = line ∙ ap (λ (rs : List NumberedEdge). last_line (a ∷ rs)) only ∙ max_one a.line r.line;
        };
      };
    })

  begun_never : AreBegun listed entered → IsNotBegun listed entered → ⊥
  begun_never met missing = missing.missing (met.each missing.b missing.among)

  listed_never : AreListed listed a conclusions → IsOneMissing listed a conclusions → ⊥
  listed_never met missing = missing.missing (met.each missing.c missing.among)

  pub node_least : (b d : Bool) (flow enter leave early all : Option Rejected) → MatchBool b (AreListed listed a conclusions) (IsOneMissing listed a conclusions)
      → MatchBool d (AreBegun listed entered) (IsNotBegun listed entered) → flow ≡ cond b None (Some (record { condition = Flow; line = a.line }))
      → enter ≡ cond d None (Some (record { condition = Enter; line = a.line })) → IsLeastFor q (AreLeft q listed a entered) (LeavingFails q listed a entered) leave
      → IsLesserOf flow enter early → IsLesserOf early leave all → IsLeastFor q (MeetsAt q listed a) (FailsAt q listed a) all
  node_least b d flow enter leave early all h g flow_is enter_is left lesser least = record {
    each = λ x w asked.
        least_same (Met x w asked) (MeetsAt q listed a x w) (SomePart x w asked) (FailsAt q listed a x w) all (meets x w asked) (fails_at x w asked)
        (λ n l f. fails_by x w asked f.rest f.e f.follows n l f.hold f.missing f.condition_is f.line_is (is_by x w asked f.rest f.e f.follows))
        (joined (AreListed listed a conclusions × AreBegun listed entered) (AreLeft q listed a entered x w)
        (λ (n l : ℕ). FailsAs (IsOneMissing listed a conclusions) 5 a.line n l ⊎ FailsAs (IsNotBegun listed entered) 6 a.line n l) (LeavingFails q listed a entered x w) early leave all least
        (joined (AreListed listed a conclusions) (AreBegun listed entered) (FailsAs (IsOneMissing listed a conclusions) 5 a.line) (FailsAs (IsNotBegun listed entered) 6 a.line) flow enter early
        lesser (test_least (AreListed listed a conclusions) (IsOneMissing listed a conclusions) b Flow a.line flow flow_is h listed_never)
        (test_least (AreBegun listed entered) (IsNotBegun listed entered) d Enter a.line enter enter_is g begun_never)) (left.each x w asked));
  }
