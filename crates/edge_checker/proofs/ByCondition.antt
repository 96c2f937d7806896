-- What an instance is made of, by its condition. A rule of one premise holds alike for each fact with which the method is entered, within the method and out
-- of it.
use Rattle.std.proofs.Common.{◌≡◌, ◌⊎◌, inl, inr, ℕ, List, [], ◌∷◌, Some, refl}
use Rattle.jvm_model.specs.declared.number.MethodNo.{MethodNo}
use Rattle.op_model.specs.declared.node.Spot.TheVariants as spots
use Rattle.op_model.specs.Supplies.{GivenAs}
use Rattle.machine_bytecode.specs.Objects.{Subject}
use Rattle.points_to_rules.specs.Facts.{Fact}
use Rattle.stage_facts.specs.Facts.{SiteFact, none_yet, some_yet, of_object}
use Rattle.stage_transfer.specs.Calls.{by_call, by_trigger}
use Rattle.stage_transfer.specs.Stages.{Transfer}
use Rattle.stage_edges.specs.Rules.{Edge, Instance, IsExit, edge, start, goes_on, returns, raises, answers, described_raises, enters, triggered, call_returns, resumes, unwinds}
use Rattle.edge_checker.specs.Conditions.{condition_of, start_edge}

-- an edge of the same method to the same spot, entered with another fact
abbrev pub entered_with : SiteFact → Edge → Edge
entered_with e p = edge p.method e p.spot p.fact

-- a method begins with the fact
abbrev pub begins_with : MethodNo → SiteFact → Edge
begins_with target g = edge (Some target) g (spots.Node 0) g

module _ (x : Subject) (gives : GivenAs) (S : Fact → Type 0) (t : Transfer) where
  abbrev Rules : List Edge → Edge → Type 0
  Rules = Instance x gives S t

  -- An instance of a rule of the condition.
  pub record IsOf (condition : ℕ) (premises : List Edge) (to : Edge) : Type 0 where
    pub instance : Rules premises to
    pub is : condition_of instance ≡ condition

  -- Within the method: whatever fact it is entered with, this edge follows from that one.
  pub record IsFlow (p to : Edge) : Type 0 where
    pub method : to.method ≡ p.method
    pub entry : to.entry ≡ p.entry
    pub alike : (e : SiteFact) → IsOf 5 (entered_with e p ∷ []) (entered_with e to)

  -- Into a method: whatever fact the calling one is entered with, it begins.
  pub record IsEntry (p to : Edge) : Type 0 where
    pub target : MethodNo
    pub fact : SiteFact
    pub is : to ≡ begins_with target fact
    pub alike : (e : SiteFact) → IsOf 6 (entered_with e p ∷ []) (begins_with target fact)

  -- Out of a method: the second edge is to an exit of one that begins from the first.
  pub record IsLeaving (p q : Edge) : Type 0 where
    pub target : MethodNo
    pub method : q.method ≡ Some target
    pub exit : IsExit q.spot
    pub entry : (e : SiteFact) → IsOf 6 (entered_with e p ∷ []) (begins_with target q.entry)

  -- What premises, a conclusion and a condition are of an instance.
  abbrev pub Kind : List Edge → Edge → ℕ → Type 0
  Kind [] to k = (k ≡ 4) × (to ≡ start_edge)
  Kind (p ∷ []) to k = ((k ≡ 5) × IsFlow p to) ⊎ ((k ≡ 6) × IsEntry p to)
  Kind (p ∷ q ∷ []) to k = (k ≡ 7) × IsLeaving p q
  Kind (p ∷ q ∷ r ∷ rs) to k = ⊥

  pub kind : (premises : List Edge) (to : Edge) (i : Rules premises to) → Kind premises to (condition_of i)
  kind premises to start = (refl, refl)
  kind premises to (goes_on m l n e f g offset node no_call there gives_g) =
      inl (refl, record { method = refl; entry = refl; alike = λ d. record { instance = goes_on m l n d f g offset node no_call there gives_g; is = refl } })
  kind premises to (returns m l n e f g value node is gives_g) =
      inl (refl, record { method = refl; entry = refl; alike = λ d. record { instance = returns m l n d f g value node is gives_g; is = refl } })
  kind premises to (raises m l n e f g class handler spot node throws goes gives_g) =
      inl (refl, record { method = refl; entry = refl; alike = λ d. record { instance = raises m l n d f g class handler spot node throws goes gives_g; is = refl } })
  kind premises to (answers m l n e f sent g c target stub parameters result offset node is goes described listed there sends gives_g) =
      inl (
        refl,
        record {
          method = refl;
          entry = refl;
          alike = λ d. record { instance = answers m l n d f sent g c target stub parameters result offset node is goes described listed there sends gives_g; is = refl };
        },
      )
  kind premises to (described_raises m l n e f sent g c target stub parameters class handler spot node is goes described throws lands sends gives_g) =
      inl (
        refl,
        record {
          method = refl;
          entry = refl;
          alike = λ d. record {
            instance = described_raises m l n d f sent g c target stub parameters class handler spot node is goes described throws lands sends gives_g;
            is = refl;
          };
        },
      )
  kind premises to (enters m l n e f sent target by node sends) =
      inr (
        refl,
        record {
          target = target;
          fact = t.enter by sent;
          is = refl;
          alike = λ d. record { instance = enters m l n d f sent target by node sends; is = refl };
        },
      )
  kind premises to (call_returns m l n e f sent out g target c offset node sends there gives_g) = (
    refl,
    record {
      target = target;
      method = refl;
      exit = tt;
      entry = λ d. record { instance = enters m l n d f sent target (by_call c) node sends; is = refl };
    },
  )
  kind premises to (resumes m l n e f out target exit node starts is) = (
    refl,
    record {
      target = target;
      method = refl;
      exit = is;
      entry = λ d. record { instance = enters m l n d f f target by_trigger node (triggered starts); is = refl };
    },
  )
  kind premises to (unwinds m l n e f sent out g target by class handler spot node sends throws lands gives_g) = (
    refl,
    record {
      target = target;
      method = refl;
      exit = tt;
      entry = λ d. record { instance = enters m l n d f sent target by node sends; is = refl };
    },
  )

-- ---- another fact

abbrev pub other_fact : SiteFact → SiteFact
other_fact none_yet = some_yet
other_fact some_yet = none_yet
other_fact (of_object t) = none_yet

pub other_differs : (f : SiteFact) → other_fact f ≡ f → ⊥
other_differs none_yet is = cc
other_differs some_yet is = cc
other_differs (of_object t) is = cc
