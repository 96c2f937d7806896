-- What holds of all entries still holds where what is added is right.
use Rattle.std.proofs.Common.{◌≡◌, ◌∙◌, ◌⊎◌, inl, inr, ℕ, List, Option, Some, ap, sym}
use Rattle.std.proofs.lemmas.Option.{same_Some}
use Rattle.list_laws.proofs.Places.{contains_at}
use Rattle.edge_numbers.specs.declared.because.EdgeNo.{EdgeNo}
use Rattle.edge_numbers.specs.Premises.{AreReasons}
use Rattle.stage_edges.specs.Rules.{Edge}
use Rattle.tabulation_tables.specs.Lists.{Calls, Exits, HasEdge, IsBegunBy, IsEdgeBetween, IsFollowed, IsLead, IsLeadBetween, IsMet, IsNumber, IsProcessed, IsShaped, IsSound, IsVisited, Leads, LeadsSoundly, Lists, edges_of, reasons_of}
use Rattle.tabulation_tables.specs.Steps.{Adds, Grows}
use Rattle.tabulation_tables.proofs.Still.{begun_by_still, between_still, edge_still, exits_still, followed_still, lead_between_still, met_still, number_still, soundly_still}

module _ (E C Z : ℕ → ℕ → Type 0) (L : ℕ → ℕ → Option EdgeNo → Type 0) (V : ℕ → Type 0) (old new : Lists) (grows : Grows old new) (adds : Adds E L C Z V old new) where
  pub kept_shape : ((b x : ℕ) → E b x → IsEdgeBetween new b x) → ((x y : ℕ) (exit : Option EdgeNo) → L x y exit → IsLeadBetween new x y) → ((b c : ℕ) → C b c → IsNumber new c)
      → ((b k : ℕ) → Z b k → IsBegunBy new b k) → IsShaped old → IsShaped new
  kept_shape edge lead call exit is = record {
    edges = λ b x there. edges b x (adds.edges b x there);
    found = adds.found is.found;
    reasoned = adds.reasoned is.reasoned;
    leads = λ x y there. leads x y (adds.leads x y there);
    noted = adds.noted is.noted;
    callers = λ b c there. callers b c (adds.callers b c there);
    exits = λ b k there. exits b k (adds.exits b k there);
  }
    where
      edges : (b x : ℕ) → HasEdge old b x ⊎ E b x → IsEdgeBetween new b x
      edges b x (inl was) = between_still old new grows b x (is.edges b x was)
      edges b x (inr fresh) = edge b x fresh

      leads : (x y : ℕ) → Leads old x y ⊎ ((by : Option EdgeNo) × L x y by) → IsLeadBetween new x y
      leads x y (inl was) = lead_between_still old new grows x y (is.leads x y was)
      leads x y (inr fresh) = lead x y fresh.0 fresh.1

      callers : (b c : ℕ) → Calls old b c ⊎ C b c → IsNumber new c
      callers b c (inl was) = number_still old new grows c (is.callers b c was)
      callers b c (inr fresh) = call b c fresh

      exits : (b k : ℕ) → Exits old b k ⊎ Z b k → IsBegunBy new b k
      exits b k (inl was) = begun_by_still old new grows b k (is.exits b k was)
      exits b k (inr fresh) = exit b k fresh

  pub kept_sound : (I : List Edge → Edge → Type 0) → IsShaped old → AreReasons I (edges_of new) (reasons_of new) → ((x y : ℕ) (exit : Option EdgeNo) → L x y exit → LeadsSoundly I new x y exit)
      → ((x : ℕ) → V x → IsFollowed I new x) → ((b c k : ℕ) → C b c → Exits new b k → IsMet I new b c k) → ((b c k : ℕ) → Z b k → Calls new b c → IsMet I new b c k) → IsSound I old → IsSound I new
  kept_sound I shape reasons lead visit call exit is = record {
    reasons = reasons;
    leads = λ x y by there. leads x y by (adds.led shape.noted x y by there);
    followed = λ x there. followed x (adds.visits x there);
    met = λ b c k there also. met b c k there also (adds.callers b c there) (adds.exits b k also);
  }
    where
      leads : (x y : ℕ) (by : Option EdgeNo) → IsLead old x y by ⊎ L x y by → LeadsSoundly I new x y by
      leads x y by (inl was) = soundly_still old new grows I shape x y by (is.leads x y by was)
      leads x y by (inr fresh) = lead x y by fresh

      followed : (x : ℕ) → IsVisited old x ⊎ V x → IsFollowed I new x
      followed x (inl was) = followed_still old new grows I x (is.followed x was)
      followed x (inr fresh) = visit x fresh

      met : (b c k : ℕ) → Calls new b c → Exits new b k → Calls old b c ⊎ C b c → Exits old b k ⊎ Z b k → IsMet I new b c k
      met b c k there also (inl was) (inl before) = met_still old new grows I b c k (is.met b c k was before)
      met b c k there also (inl was) (inr fresh) = exit b c k fresh there
      met b c k there also (inr fresh) before = call b c k fresh also

  -- the edges of which all was done stand in earlier tables
  pub kept_processed : (first : Lists) → Grows first old → ((x y : ℕ) (exit : Option EdgeNo) → L x y exit → (b : ℕ) → HasEdge first b x → HasEdge new b y) → (k : ℕ) → IsProcessed first k → IsProcessed old k
      → IsProcessed new k
  kept_processed first longer lead k was is = record {
    edge = is.edge;
    at = grows.edges k is.edge is.at;
    end = is.end;
    end_at = grows.ends is.edge.end is.end is.end_at;
    visited = λ offset spot. grows.visits is.edge.end (is.visited offset spot);
    left = λ exit. exits_still old new grows is.edge.begin k (is.left exit);
    led = λ y there. led y (adds.leads is.edge.end y there);
  }
    where
      same : was.edge ≡ is.edge
      same = same_Some was.edge is.edge (sym (longer.edges k was.edge was.at) ∙ is.at)

      earlier : HasEdge first is.edge.begin is.edge.end
      earlier = contains_at first.edges k is.edge (was.at ∙ ap Some same)

      led : (y : ℕ) → Leads old is.edge.end y ⊎ ((by : Option EdgeNo) × L is.edge.end y by) → HasEdge new is.edge.begin y
      led y (inl before) = edge_still old new grows is.edge.begin y (is.led y before)
      led y (inr fresh) = lead is.edge.end y fresh.0 fresh.1 is.edge.begin earlier
