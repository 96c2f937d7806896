-- Where objects go that are thrown at a node.
use Rattle.std.proofs.Common.{◌≡◌, ◌↔◌, ℕ, List, Option, Some, None, refl, sym, ap, subst}
use Rattle.std.specs.List.{Contains}
use Rattle.handler_search.proofs.FirstTaking.{one_taking, taking_one}
use Rattle.jvm_model.specs.Programs.{Program}
use Rattle.op_model.specs.declared.node.Node.{Node}
use Rattle.op_model.specs.declared.node.NodeHandler.{NodeHandler}
use Rattle.op_model.specs.declared.node.Spot.{Spot}
use Rattle.op_model.specs.declared.node.Spot.TheVariants as spots
use Rattle.machine_bytecode.specs.Objects.{Subject}
use Rattle.machine_nodes.specs.NodeSteps.{IsFirstTaking, Takes}
use Rattle.stage_edges.specs.Rules.{GoesTo}
use Rattle.node_ways.specs.Parts.{AreLandingsIn, LandsAt}
use Rattle.node_ways.specs.Ways.{AreLandings, Lands}

-- ---- one way

module _ (p : Program) (n : Node) (class : List ℕ) where
  at_first : (h : NodeHandler) → IsFirstTaking p class n.handlers h → (handler : Option ℕ) → LandsAt p n class handler → handler ≡ Some h.target
  at_first h first handler (LandsAt.caught g taking) = ap (λ (k : NodeHandler). Some k.target) (one_taking p class n.handlers g h taking first)
  at_first h first handler (LandsAt.uncaught none) = let (there, takes) = taking_one p class n.handlers h first in absurd (none h there takes)

  pub lands_caught : (h : NodeHandler) → IsFirstTaking p class n.handlers h → (handler : Option ℕ) → LandsAt p n class handler ↔ (handler ≡ Some h.target)
  lands_caught h first handler = (λ lands. at_first h first handler lands, λ same. subst (λ (o : Option ℕ). LandsAt p n class o) (sym same) (LandsAt.caught h first))

  out : ((h : NodeHandler) → Contains n.handlers h → Takes p h class → ⊥) → (handler : Option ℕ) → LandsAt p n class handler → handler ≡ None
  out none handler (LandsAt.caught g taking) = let (there, takes) = taking_one p class n.handlers g taking in absurd (none g there takes)
  out none handler (LandsAt.uncaught other) = refl

  pub lands_nowhere : ((h : NodeHandler) → Contains n.handlers h → Takes p h class → ⊥) → (handler : Option ℕ) → LandsAt p n class handler ↔ (handler ≡ None)
  lands_nowhere none handler = (λ lands. out none handler lands, λ same. subst (λ (o : Option ℕ). LandsAt p n class o) (sym same) (LandsAt.uncaught none))

-- ---- as the edges have it

module _ (x : Subject) (n : Node) where
  goes : (class : List ℕ) (handler : Option ℕ) → LandsAt x.program n class handler → (spot : Spot) × GoesTo x n class handler spot
  goes class handler (LandsAt.caught h first) = (spots.Node h.target, GoesTo.caught h first)
  goes class handler (LandsAt.uncaught none) = (spots.Thrown, GoesTo.uncaught none)

  lands : (class : List ℕ) (handler : Option ℕ) (spot : Spot) → GoesTo x n class handler spot → LandsAt x.program n class handler
  lands class handler spot (GoesTo.caught h first) = LandsAt.caught h first
  lands class handler spot (GoesTo.uncaught none) = LandsAt.uncaught none

  pub of_subject : (IsThrown : List ℕ → Type 0) (landings : List (Option ℕ)) → AreLandingsIn x.program n IsThrown landings → AreLandings x n IsThrown landings
  of_subject IsThrown landings are = record {
    each = λ handler. (
      λ there. let (class, thrown, lands) = (are.each handler).0 there in let (spot, goes) = goes class handler lands in record { class = class; thrown = thrown; spot = spot; goes = goes },
      λ (one : Lands x n IsThrown handler). (are.each handler).1 (one.class, one.thrown, lands one.class handler one.spot one.goes),
    );
  }

pub of_program : (x : Subject) (p : Program) → x.program ≡ p → (n : Node) (IsThrown : List ℕ → Type 0) (landings : List (Option ℕ)) → AreLandingsIn p n IsThrown landings
    → AreLandings x n IsThrown landings
of_program x p same n IsThrown landings are = of_subject x n IsThrown landings (subst (λ (q : Program). AreLandingsIn q n IsThrown landings) (sym same) are)
