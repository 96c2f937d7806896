-- `==` on edges tells each two apart.
use Rattle.std.proofs.Common.{Bool, eqb}
use Rattle.std.proofs.lemmas.Bool.{and_parts}
use Rattle.std.proofs.lemmas.Map.Views.{exact_unsigned_eq}
use Rattle.call_graph.specs.declared.edges.Edge.{Edge}
use Rattle.call_graph.specs.contracts.edges.EdgePartialEq.TheImpl as edge_block
use Rattle.call_graph.specs.contracts.edges.EdgeEq.TheImpl.Laws as edge_laws
use Rattle.ground.proofs.KeySets.{Tells}

abbrev pub same_edges : Edge → Edge → Bool
same_edges = (edge_block.ghosts).eq

pub tells_edges : Tells same_edges
tells_edges = record {
  itself = (edge_laws.laws-law).refl;
  exact = λ a b h.
      let parts = and_parts (eqb a.callee.0 b.callee.0) (eqb a.caller.0 b.caller.0) h in
      let callees = exact_unsigned_eq a.callee.0 b.callee.0 parts.0 in
      let callers = exact_unsigned_eq a.caller.0 b.caller.0 parts.1 in
      (λ i. record { callee = record { 0 = callees i }; caller = record { 0 = callers i } });
}
