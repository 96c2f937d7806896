-- Where a frame stands: at a node of its method, or at one of the start of the program.
use Rattle.std.proofs.Common.{◌≡◌, ◌⊎◌, inl, inr, ℕ, List, [], ◌∷◌, Option, Some, None, Ok, nat_eq, Contains, sym, ap, ◌∙◌, subst}
use Rattle.std.proofs.lemmas.Bool.{eqb-true}
use Rattle.std.proofs.lemmas.Option.{same_Some, none-some}
use Rattle.list_laws.proofs.Members.{contains_cases, contains_none}
use Rattle.list_laws.proofs.Tests.{IsFound, found}
use Rattle.jvm_model.specs.declared.number.MethodNo.{MethodNo}
use Rattle.op_model.specs.declared.lowered.LoweredMethod.{LoweredMethod}
use Rattle.op_model.specs.declared.node.Node.{Node}
use Rattle.op_model.specs.Supplies.{Given, GivenAs, IsMapOf}
use Rattle.machine_bytecode.specs.Objects.{Subject}
use Rattle.machine_bytecode.specs.States.{Frame}
use Rattle.machine_nodes.specs.Nodes.{IsStartCall, IsStartReturn, AreStartNodes, HasNodes, of_start, of_method, StandsAt}
use Rattle.points_to_rules.specs.Rules.{node_of}
use Rattle.coverage.specs.Covering.{StandsIn, node_at}

-- a node of the start
abbrev pub IsStartNode : Subject → Node → Type 0
IsStartNode x n = IsStartCall x n ⊎ IsStartReturn n

pub data Place (x : Subject) (gives : GivenAs) (f : Frame) (locals : ℕ) (n : Node) : Type 0 where
  in_method : (m : MethodNo) (l : LoweredMethod) → StandsIn gives f m l n → locals ≡ l.slots → Place x gives f locals n
  at_start : f.method ≡ None → n.offset ≡ f.offset → IsStartNode x n → Place x gives f locals n

start_node : (x : Subject) (nodes : List Node) (n : Node) → AreStartNodes x nodes → Contains nodes n → IsStartNode x n
start_node x nodes n are there = by (contains_cases are.call n (are.return ∷ []) (subst (λ (ns : List Node). Contains ns n) are.is there))
  where
    by : (are.call ≡ n) ⊎ Contains (are.return ∷ []) n → IsStartNode x n
    by (inl e) = inl (subst (λ (k : Node). IsStartCall x k) e are.is_call)
    by (inr later) =
        elim (contains_cases are.return n [] later) [
          | inl e ↦ inr (subst (λ (k : Node). IsStartReturn k) e are.is_return)
          | inr none ↦ absurd (contains_none n none)
        ]

-- the node of a frame, by its reference
pub node_is : (gives : GivenAs) (f : Frame) (m : MethodNo) (l : LoweredMethod) (n : Node) → StandsIn gives f m l n → node_at f ≡ node_of m n
node_is gives f m l n here =
    let method : (node_at f).method ≡ Some m = ap (λ (o : Option ℕ). elim o [ None ↦ None | Some number ↦ Some (record { 0 = number }) ]) here.in_method in
    ap (λ (o : Option MethodNo). record { method = o; offset = f.offset }) method ∙ ap (λ (k : ℕ). record { method = Some m; offset = k }) (sym here.at)

module _ (x : Subject) (given : Given) (gives : GivenAs) (map : IsMapOf given gives) where
  found_in : (f : Frame) (now : StandsAt x given f) → IsFound (λ (n : Node). nat_eq n.offset f.offset) now.nodes now.node
  found_in f now = found (λ (n : Node). nat_eq n.offset f.offset) now.nodes now.node now.is

  pub place_of : (f : Frame) (now : StandsAt x given f) → Place x gives f now.locals now.node
  place_of f now = by now.of_method
    where
      at : now.node.offset ≡ f.offset
      at = eqb-true now.node.offset f.offset (found_in f now).taken

      by : HasNodes x given f now.locals now.nodes → Place x gives f now.locals now.node
      by (of_start no_method are count) = at_start no_method at (start_node x now.nodes now.node are (found_in f now).there)
      by (of_method number l is is_given nodes count) =
          in_method (record { 0 = number }) l
          (record {
            in_method = is;
            node = record { given = (map.entries number (Ok l)).0 is_given; stands = subst (λ (ns : List Node). Contains ns now.node) nodes (found_in f now).there };
            at = at;
          })
          count

  same_given : (a b : ℕ) (l k : LoweredMethod) → a ≡ b → given a ≡ Some (Ok l) → given b ≡ Some (Ok k) → l ≡ k
  same_given a b l k e first second = let both : given a ≡ given b = ap given e in cc

  -- the frame's node, in the method that is named
  pub stands_in : (f : Frame) (now : StandsAt x given f) (m : MethodNo) (l : LoweredMethod) → f.method ≡ Some m.0 → gives m.0 (Ok l) → StandsIn gives f m l now.node
  stands_in f now m l is is_given = record {
    in_method = is;
    node = record { given = is_given; stands = subst (λ (ns : List Node). Contains ns now.node) (nodes now.of_method) (found_in f now).there };
    at = eqb-true now.node.offset f.offset (found_in f now).taken;
  }
    where
      nodes : HasNodes x given f now.locals now.nodes → now.nodes ≡ l.nodes
      nodes (of_start no_method are e) = absurd (none-some m.0 (sym no_method ∙ is))
      nodes (of_method other k in_other is_other e count) =
          let same : other ≡ m.0 = same_Some other m.0 (sym in_other ∙ is) in
          e ∙ ap (λ (j : LoweredMethod). j.nodes) (same_given other m.0 k l same is_other ((map.entries m.0 (Ok l)).1 is_given))
