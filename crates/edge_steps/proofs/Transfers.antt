-- Transfers at two nodes that do the same, and where what is thrown goes.
use Rattle.std.proofs.Common.{◌≡◌, ℕ, List, Option, refl, sym, ap, ◌∙◌, subst}
use Rattle.std.specs.List.{Contains}
use Rattle.op_model.specs.declared.node.Node.{Node}
use Rattle.op_model.specs.declared.node.Spot.{Spot}
use Rattle.jvm_model.specs.declared.number.MethodNo.{MethodNo}
use Rattle.machine_bytecode.specs.Objects.{Subject}
use Rattle.stage_facts.specs.Facts.{SiteFact, none_yet, some_yet, of_object}
use Rattle.stage_transfer.specs.Calls.{Entering, entered_fact}
use Rattle.stage_transfer.specs.Settings.{Setting}
use Rattle.stage_transfer.specs.Stages.{finished, limited, normal, transfer_of}
use Rattle.stage_views.specs.declared.setting.StageSetting.{StageSetting}
use Rattle.stage_views.specs.Views.{IsSettingBy}
use Rattle.stage_edges.specs.Rules.{GoesTo, caught, uncaught}
use Rattle.node_ways.specs.declared.ways.GivenResult.{GivenResult}
use Rattle.node_ways.specs.declared.ways.GivenResult.TheVariants.{Argument, New, Other}
use Rattle.node_ways.specs.Ways.{AreLandings, Lands, result_of}
use Rattle.edge_steps.specs.Parts.{landing}

pub into : {A : Type 0} (xs ys : List A) (x : A) → xs ≡ ys → Contains xs x → Contains ys x
into {A} xs ys x same there = subst (λ (zs : List A). Contains zs x) same there

-- ---- what is entered depends on the stage alone

finished_same : (w v : Setting) → w.stage ≡ v.stage → (g : SiteFact) → finished w g ≡ finished v g
finished_same w v same none_yet = refl
finished_same w v same some_yet = refl
finished_same w v same (of_object t) = ap (λ (stage : ℕ). of_object (limited (normal stage t))) same

pub enters_same : (s : StageSetting) (w v : Setting) → IsSettingBy s w → IsSettingBy s v → (by : Entering) (f : SiteFact)
    → (transfer_of w).enter by f ≡ (transfer_of v).enter by f
enters_same s w v first second by f = finished_same w v (first.stage ∙ sym second.stage) (entered_fact by f)

-- ---- landings

landing_of : (x : Subject) (n : Node) (class : List ℕ) (handler : Option ℕ) (spot : Spot) → GoesTo x n class handler spot → spot ≡ landing handler
landing_of x n class handler spot (caught h first) = refl
landing_of x n class handler spot (uncaught none) = refl

-- an object of a class goes to the spot of the handler
pub record LandsAt (x : Subject) (n : Node) (IsThrown : List ℕ → Type 0) (handler : Option ℕ) : Type 0 where
  pub class : List ℕ
  pub thrown : IsThrown class
  pub goes : GoesTo x n class handler (landing handler)

module _ (x : Subject) (n : Node) (IsThrown : List ℕ → Type 0) (landings : List (Option ℕ)) (are : AreLandings x n IsThrown landings) where
  pub lands_at : (handler : Option ℕ) → Contains landings handler → LandsAt x n IsThrown handler
  lands_at handler there =
      let lands : Lands x n IsThrown handler = (are.each handler).0 there in
      record {
        class = lands.class;
        thrown = lands.thrown;
        goes = subst (λ (spot : Spot). GoesTo x n lands.class handler spot) (landing_of x n lands.class handler lands.spot lands.goes) lands.goes;
      }

  pub is_landing : (class : List ℕ) (handler : Option ℕ) (spot : Spot) → IsThrown class → GoesTo x n class handler spot
      → Contains landings handler × (spot ≡ landing handler)
  is_landing class handler spot thrown goes =
      ((are.each handler).1 (record { class = class; thrown = thrown; spot = spot; goes = goes }), landing_of x n class handler spot goes)

-- ---- results of described methods

pub results_same : (m : Option MethodNo) (n o : Node) → n.offset ≡ o.offset → (r : GivenResult) → result_of m o r ≡ result_of m n r
results_same m n o same (Argument z) = refl
results_same m n o same (New class) = ap (λ (offset : ℕ). result_of m (record o { offset = offset }) (New class)) (sym same)
results_same m n o same Other = refl
