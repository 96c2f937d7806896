-- How the solver ends: with the limit, with a refusal, or with the least sets.
use Rattle.std.proofs.Common.{ℕ, List, Option, Some, None, Result, Ok, Err, refl, sym, subst, inl, inr}
use Rattle.std.specs.List.{Contains}
use Rattle.std.specs.Result.{IfErr, IfOk, OnOk, result_and}
use Rattle.failure.specs.declared.Failure.{Failure}
use Rattle.failure.specs.declared.Failure.TheVariants.{Cause, OutOfMemory}
use Rattle.jvm_model.specs.declared.number.MethodNo.{MethodNo}
use Rattle.jvm_model.specs.declared.reason.Refusal.{Refusal}
use Rattle.jvm_model.specs.Programs.{Program}
use Rattle.op_model.specs.Supplies.{GivenAs}
use Rattle.points_to_constraints.specs.Items.{facts_of}
use Rattle.points_to_numbers.specs.declared.item.Item.{Item}
use Rattle.points_to_numbers.specs.Numbered.{Numbered}
use Rattle.points_to.specs.declared.refusals.RefusedCall.{RefusedCall}
use Rattle.points_to.specs.declared.refusals.RefusedMethod.{RefusedMethod}
use Rattle.points_to_rules.specs.declared.running_method.RunningMethod.{RunningMethod}
use Rattle.points_to.specs.declared.solution.Solution.{Solution}
use Rattle.points_to.specs.Queues.{items_of}
use Rattle.points_to_rules.specs.declared.solve_fault.SolveFault.{SolveFault}
use Rattle.points_to_rules.specs.declared.solve_fault.SolveFault.TheVariants.{PairLimit, Refused, TooMany}
use Rattle.points_to.specs.Closing.{KnownIn, IsClosed}
use Rattle.points_to.specs.Refusing.{IsNamed, IsRefusing}
use Rattle.points_to_rules.specs.Solutions.{IsSupplyOf, IsSolveEnd, EndsRefused}
use Rattle.points_to.specs.Solutions.{IsSolved}
use Rattle.points_to.specs.Taking.{IsOutOfRoom}
use Rattle.points_to.proofs.GivenMethods.{GivesOne}
use Rattle.points_to.proofs.NamedRefusals.{least_below, named_none, named_some}
use Rattle.points_to.proofs.PairedFacts.{fact_there, known_there}
use Rattle.points_to.proofs.RunningMethods.{running_same}

-- memory or numbers that ran out are no refusal
pub no_room_refusing : (p : Program) (call : Option RefusedCall) (method : Option RefusedMethod) (failure : Failure SolveFault) → IsOutOfRoom failure → IsRefusing p call method failure
no_room_refusing p call method failure (inl e) = subst (λ (f : Failure SolveFault). IsRefusing p call method f) (sym e) tt
no_room_refusing p call method failure (inr e) = subst (λ (f : Failure SolveFault). IsRefusing p call method f) (sym e) tt

-- what is so of a value that is answered where something else went well
pub if_ok_and : {T U E : Type 0} (r : Result T E) (x : U) (P : Type 0) (Q : U → Type 0) → OnOk r P → (P → Q x) → IfOk (result_and r (Ok x)) Q
if_ok_and (Ok t) x P Q h f = f h
if_ok_and (Err e) x P Q h f = tt

-- and of the failure where it did not
pub if_err_and : {T U E : Type 0} (r : Result T E) (x : U) (P Q : E → Type 0) → ((e : E) → P e → Q e) → IfErr r P → IfErr (result_and r (Ok x)) Q
if_err_and (Ok t) x P Q f h = tt
if_err_and (Err e) x P Q f h = f e h

module _ (p : Program) (gives : GivenAs) (supply : IsSupplyOf p gives) (one : GivesOne gives) (entry : MethodNo) (limit : ℕ) where
  pub refused_end : (n : Numbered) (items : List Item) (call : Option RefusedCall) (method : Option RefusedMethod) (listed : List RunningMethod)
      → IsClosed p gives entry limit n items call method listed → (r : Refusal) → IsNamed p call method (Some r)
      → EndsRefused p gives entry limit r
  refused_end n items call method listed closed r named = record {
    facts = facts_of closed.xs;
    least = least_below p gives supply one entry limit n items call method listed closed;
    first = named_some p gives supply one entry limit n items call method listed closed r named;
  }

  pub refusing_end : (n : Numbered) (items : List Item) (call : Option RefusedCall) (method : Option RefusedMethod) (listed : List RunningMethod)
      → IsClosed p gives entry limit n items call method listed → (failure : Failure SolveFault) → IsRefusing p call method failure
      → IsSolveEnd p gives entry limit failure
  refusing_end n items call method listed closed (Cause (PairLimit k)) none = absurd none
  refusing_end n items call method listed closed (Cause (Refused r)) named = refused_end n items call method listed closed r named
  refusing_end n items call method listed closed (Cause TooMany) room = tt
  refusing_end n items call method listed closed OutOfMemory memory = tt

  pub solved : (s : Solution) (call : Option RefusedCall) (method : Option RefusedMethod) → IsClosed p gives entry limit s.tables (items_of s.items) call method s.methods.items → IsNamed p call method None
      → IsSolved p gives entry limit s
  solved s call method closed named = record {
    facts = facts_of closed.xs;
    of = (closed.xs, closed.stand, refl);
    solution = record {
      least = least_below p gives supply one entry limit s.tables (items_of s.items) call method s.methods.items closed;
      unrefused = named_none p gives supply one entry limit s.tables (items_of s.items) call method s.methods.items closed named;
    };
    running = running_same gives (KnownIn closed.xs) (Contains (facts_of closed.xs)) s.methods.items (λ fact. (fact_there closed.xs fact, known_there closed.xs fact)) closed.running;
  }
