-- What an entry claims is true of longer tables too.
use Rattle.std.proofs.Common.{◌⊎◌, inl, inr, ℕ, List, Option}
use Rattle.stage_facts.specs.Facts.{SiteFact}
use Rattle.stage_edges.specs.Rules.{Edge}
use Rattle.edge_numbers.specs.declared.because.EdgeNo.{EdgeNo}
use Rattle.edge_numbers.specs.Premises.{others}
use Rattle.edge_numbers.proofs.Reasons.{stand_still}
use Rattle.tabulation_tables.specs.Lists.{Calls, Exits, HasEdge, IsBegun, IsBegunBy, IsEdgeBetween, IsFollowed, IsLeadBetween, IsLedTo, IsMet, IsNumber, IsShaped, Leads, LeadsSoundly, Lists, edges_of, numbered}
use Rattle.tabulation_tables.specs.Steps.{Grows}
use Rattle.list_laws.proofs.Places.{contains_at, place_of}
use Rattle.chained_lists.proofs.Walks.{contained_still, front_more, front_none}
use Rattle.tabulation_tables.proofs.Edges.{edges_extend}

-- growth in two steps, and none
pub grows_more : (a b c : Lists) → Grows a b → Grows b c → Grows a c
grows_more a b c first second = record {
  ends = λ n e at. second.ends n e (first.ends n e at);
  edges = λ k e at. second.edges k e (first.edges k e at);
  begins = front_more a.begins b.begins c.begins first.begins second.begins;
  leads = front_more a.leads b.leads c.leads first.leads second.leads;
  by = λ j exit at. second.by j exit (first.by j exit at);
  callers = front_more a.callers b.callers c.callers first.callers second.callers;
  exits = front_more a.exits b.exits c.exits first.exits second.exits;
  visits = λ x is. second.visits x (first.visits x is);
}

pub grows_none : (t : Lists) → Grows t t
grows_none t = record {
  ends = λ n e at. at;
  edges = λ k e at. at;
  begins = front_none t.begins;
  leads = front_none t.leads;
  by = λ j exit at. at;
  callers = front_none t.callers;
  exits = front_none t.exits;
  visits = λ x is. is;
}

module _ (old new : Lists) (grows : Grows old new) where
  pub edge_still : (b x : ℕ) → HasEdge old b x → HasEdge new b x
  edge_still b x there =
      let place = place_of old.edges (numbered b x) there in
      contains_at new.edges place.0 (numbered b x) (grows.edges place.0 (numbered b x) place.1)

  pub leads_still : (x y : ℕ) → Leads old x y → Leads new x y
  leads_still x y there = contained_still old.leads new.leads grows.leads x y there

  pub calls_still : (b c : ℕ) → Calls old b c → Calls new b c
  calls_still b c there = contained_still old.callers new.callers grows.callers b c there

  pub exits_still : (b k : ℕ) → Exits old b k → Exits new b k
  exits_still b k there = contained_still old.exits new.exits grows.exits b k there

  pub begun_by_still : (b k : ℕ) → IsBegunBy old b k → IsBegunBy new b k
  begun_by_still b k is = record { end = is.end; at = grows.edges k (numbered b is.end) is.at }

  pub number_still : (n : ℕ) → IsNumber old n → IsNumber new n
  number_still n is = record { end = is.end; end_at = grows.ends n is.end is.end_at }

  pub between_still : (b x : ℕ) → IsEdgeBetween old b x → IsEdgeBetween new b x
  between_still b x is = record {
    begin = is.begin;
    end = is.end;
    begin_at = grows.ends b is.begin is.begin_at;
    end_at = grows.ends x is.end is.end_at;
    first = is.first;
    same = is.same;
  }

  pub lead_between_still : (x y : ℕ) → IsLeadBetween old x y → IsLeadBetween new x y
  lead_between_still x y is =
      record { from = is.from; to = is.to; from_at = grows.ends x is.from is.from_at; to_at = grows.ends y is.to is.to_at; same = is.same }

  pub led_still : (x : ℕ) (entry : SiteFact) (to : Edge) → IsLedTo old x entry to → IsLedTo new x entry to
  led_still x entry to is = record {
    number = is.number;
    end = is.end;
    end_at = grows.ends is.number is.end is.end_at;
    leads = leads_still x is.number is.leads;
    is = is.is;
  }

  pub begun_still : (x : ℕ) (to : Edge) → IsBegun old x to → IsBegun new x to
  begun_still x to is = record {
    number = is.number;
    begin = is.begin;
    begin_at = grows.ends is.number is.begin is.begin_at;
    called = calls_still is.number x is.called;
    there = edge_still is.number is.number is.there;
    is = is.is;
  }

  module _ (I : List Edge → Edge → Type 0) where
    pub soundly_still : IsShaped old → (x y : ℕ) (exit : Option EdgeNo) → LeadsSoundly I old x y exit → LeadsSoundly I new x y exit
    soundly_still shape x y exit is = record {
      from = is.from;
      to = is.to;
      from_at = grows.ends x is.from is.from_at;
      to_at = grows.ends y is.to is.to_at;
      rest = is.rest;
      stand = stand_still (edges_of old) (edges_of new) (edges_extend old new grows shape) (others exit) is.rest is.stand;
      follows = is.follows;
    }

    pub followed_still : (x : ℕ) → IsFollowed I old x → IsFollowed I new x
    followed_still x is = record { end = is.end; end_at = grows.ends x is.end is.end_at; all = λ entry to i. by entry to (is.all entry to i) }
      where
        by : (entry : SiteFact) (to : Edge) → IsLedTo old x entry to ⊎ IsBegun old x to → IsLedTo new x entry to ⊎ IsBegun new x to
        by entry to (inl led) = inl (led_still x entry to led)
        by entry to (inr begun) = inr (begun_still x to begun)

    pub met_still : (b c k : ℕ) → IsMet I old b c k → IsMet I new b c k
    met_still b c k is = record {
      last = is.last;
      begin = is.begin;
      caller = is.caller;
      exit = is.exit;
      edge_at = grows.edges k (numbered b is.last) is.edge_at;
      begin_at = grows.ends b is.begin is.begin_at;
      caller_at = grows.ends c is.caller is.caller_at;
      exit_at = grows.ends is.last is.exit is.exit_at;
      all = λ entry to i. led_still c entry to (is.all entry to i);
    }
