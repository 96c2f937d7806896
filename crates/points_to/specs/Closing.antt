-- This crate's own proofs alone rest on this module.
-- What the loop of the solver gives: the least items, with the first refusals among them, and the methods that may run; or the limit.
use Rattle.std.specs.Prelude.{◌≡◌, ℕ, ◌<◌, List, Option, Some, Err, Contains}
use Rattle.std.specs.List.{AllZip}
use Rattle.failure.specs.declared.Failure.{Failure}
use Rattle.failure.specs.declared.Failure.TheVariants.{Cause, OutOfMemory}
use Rattle.jvm_model.specs.declared.number.MethodNo.{MethodNo}
use Rattle.jvm_model.specs.declared.site.Site.{Site}
use Rattle.jvm_model.specs.Programs.{Program}
use Rattle.op_model.specs.Supplies.{GivenAs}
use Rattle.least_sets.specs.Parts.{HasAtLeast}
use Rattle.least_sets.specs.Rules.{IsLeast, IsWithoutDoubles}
use Rattle.points_to_rules.specs.Facts.{Holder, Fact, may_hold, may_run}
use Rattle.points_to_rules.specs.Refusals.{LacksTarget}
use Rattle.points_to_rules.specs.Rules.{Instance}
use Rattle.points_to_constraints.specs.ItemRules.{ItemInstance}
use Rattle.points_to_constraints.specs.Items.{CallSite, dispatch, Item as RuleItem, known, constrained, facts_of}
use Rattle.points_to_numbers.specs.declared.item.Item.{Item}
use Rattle.points_to_numbers.specs.Numbered.{Numbered}
use Rattle.points_to_numbers.specs.Steps.{IsItemAt}
use Rattle.points_to.specs.declared.refusals.RefusedCall.{RefusedCall}
use Rattle.points_to.specs.declared.refusals.RefusedMethod.{RefusedMethod}
use Rattle.points_to_rules.specs.declared.running_method.RunningMethod.{RunningMethod}
use Rattle.points_to_rules.specs.declared.solve_fault.SolveFault.{SolveFault}
use Rattle.points_to_rules.specs.declared.solve_fault.SolveFault.TheVariants.{PairLimit, Refused, TooMany}
use Rattle.points_to.specs.Firsts.{IsFirstCall, IsFirstMethod}
use Rattle.points_to.specs.Passing.{AreThose}
use Rattle.points_to.specs.Queues.{pairs_among}
use Rattle.points_to_rules.specs.Solutions.{AreRunning, pair_of}

-- ---- refusals in a set of items

-- A call that selects its target by the objects of a holder lacks one for an object that the holder has.
pub record IsLackIn (p : Program) (T : RuleItem → Type 0) (c : RefusedCall) : Type 0 where
  pub from : Holder
  pub call : CallSite
  pub s : Site
  pub constrains : T (constrained from (dispatch call))
  pub holds : T (known (may_hold from s))
  pub at : call.at ≡ record { method = Some c.method; offset = c.offset }
  pub lacks : LacksTarget p call.kind call.resolved s c.reason

-- A method that may run is refused.
pub record IsRefusedAmong (gives : GivenAs) (T : RuleItem → Type 0) (r : RefusedMethod) : Type 0 where
  pub runs : T (known (may_run r.method))
  pub refused : gives r.method.0 (Err r.refusal)

-- It is the first of the calls, or of the methods, that have the property, if there are any.
pub record HasFirstCall (R : RefusedCall → Type 0) (first : Option RefusedCall) : Type 0 where
  pub noted : List RefusedCall
  pub those : AreThose R noted
  pub is_first : IsFirstCall noted first

pub record HasFirstMethod (R : RefusedMethod → Type 0) (first : Option RefusedMethod) : Type 0 where
  pub noted : List RefusedMethod
  pub those : AreThose R noted
  pub is_first : IsFirstMethod noted first

-- ---- the ends of the loop

-- The facts among items.
abbrev pub KnownIn : List RuleItem → Fact → Type 0
KnownIn xs fact = Contains xs (known fact)

-- The items stand for the least ones, and have fewer pairs than the limit; these are the first refusals among them, and the methods that may run.
pub record IsClosed (p : Program) (gives : GivenAs) (entry : MethodNo) (limit : ℕ) (n : Numbered) (items : List Item) (call : Option RefusedCall) (method : Option RefusedMethod)
    (listed : List RunningMethod) : Type 0 where
  pub xs : List RuleItem
  pub stand : AllZip (IsItemAt n) items xs
  pub least : IsLeast (ItemInstance p gives entry) xs
  pub apart : IsWithoutDoubles (facts_of xs)
  pub room : pairs_among items < limit
  pub calls : HasFirstCall (IsLackIn p (Contains xs)) call
  pub methods : HasFirstMethod (IsRefusedAmong gives (Contains xs)) method
  pub running : AreRunning gives (KnownIn xs) listed

-- The limit is reached by pairs that are derivable, or memory or numbers ran out.
abbrev pub IsClosingEnd : Program → GivenAs → MethodNo → (limit : ℕ) → Failure SolveFault → Type 0
IsClosingEnd p gives entry limit (Cause (PairLimit n)) = (n ≡ limit) × HasAtLeast (Instance p gives entry) pair_of limit
IsClosingEnd p gives entry limit (Cause (Refused r)) = ⊥
IsClosingEnd p gives entry limit (Cause TooMany) = Unit {0}
IsClosingEnd p gives entry limit OutOfMemory = Unit {0}
