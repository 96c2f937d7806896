-- The entries of a table of handlers that cover an offset, and what they take.
use Rattle.std.proofs.Common.{◌≡◌, ℕ, zero, suc, ◌+◌, ◌<◌, Bool, true, false, if◌then◌else◌, List, [], ◌∷◌, length, get_or, Option, refl, sym, subst, ◌⊎◌, inl, inr, arith}
use Rattle.std.specs.List.{AllZip, Contains}
use Rattle.std.proofs.lemmas.Option.{slice_get-get_or}
use Rattle.std.proofs.lemmas.Slice.Zip.{AllZip-long}
use Rattle.jvm_model.specs.declared.code.Handler.{Handler}
use Rattle.jvm_model.specs.declared.number.ClassNo.{ClassNo}
use Rattle.jvm_model.specs.declared.pool.PoolEntry.{PoolEntry}
use Rattle.jvm_model.specs.Programs.{Program}
use Rattle.flow_graph.specs.Flows.{covers, covering, covering_from}
use Rattle.program_laws.proofs.Orders.{none_there, where_there}
use Rattle.lowering_spec.specs.LoweredMethods.{IsCatch, IsHandlerAt}
use Rattle.lowering_handlers.specs.declared.catches.Catch.{Catch}
use Rattle.lowering_handlers.specs.declared.catches.Catch.TheVariants.{Each, OfClass, Unknown}
use Rattle.lowering_handlers.specs.Catches.{IsCatchOf, IsUnknownEntry, class_taken}

-- ---- two lists side by side

pub zip_at : {A B : Type 0} (R : A → B → Type 0) (xs : List A) (ys : List B) (k : ℕ) (d : A) (e : B) → AllZip R xs ys → k < length xs → R (get_or xs k d) (get_or ys k e)
zip_at R [] ys k d e all lt = absurd (omega (arith, lt))
zip_at R (x ∷ xs) [] k d e all lt = absurd all
zip_at R (x ∷ xs) (y ∷ ys) zero d e all lt = all.0
zip_at R (x ∷ xs) (y ∷ ys) (suc k) d e all lt = zip_at R xs ys k d e all.1 (omega (arith, lt))

-- ---- the places of entries

covering_within : (from offset : ℕ) (handlers : List Handler) (place : ℕ) → Contains (covering_from from offset handlers) place → place < from + length handlers
covering_within from offset [] place there = absurd (none_there place there)
covering_within from offset (h ∷ handlers) place there = by (covering_within (from + 1) offset handlers place) (covers offset h) there
  where
    more : List ℕ
    more = covering_from (from + 1) offset handlers

    later : (Contains more place → place < from + 1 + length handlers) → Contains more place → place < from + length (h ∷ handlers)
    later within there = let lt = within there in omega (arith, lt)

    here : (Contains more place → place < from + 1 + length handlers) → (from ≡ place) ⊎ Contains more place → place < from + length (h ∷ handlers)
    here within (inl same) = omega (arith, same)
    here within (inr there) = later within there

    by : (Contains more place → place < from + 1 + length handlers) → (b : Bool) → Contains (if b then from ∷ more else more) place → place < from + length (h ∷ handlers)
    by within true there = here within (where_there from place more there)
    by within false there = later within there

-- an entry that covers an offset is one of the table
pub covering_below : (handlers : List Handler) (offset place : ℕ) → Contains (covering handlers offset) place → place < length handlers
covering_below handlers offset place there = let within = covering_within 0 offset handlers place there in omega (arith, within)

-- ---- what an entry takes

module _ (p : Program) (pool : List PoolEntry) (handlers : List Handler) (catches : List Catch) (each : AllZip (IsCatchOf p pool) handlers catches) where
  pub as_long : length catches ≡ length handlers
  as_long = AllZip-long (IsCatchOf p pool) handlers catches each

  pub catch_at : (place : ℕ) (d : Handler) (e : Catch) → place < length handlers → IsCatchOf p pool (get_or handlers place d) (get_or catches place e)
  catch_at place d e lt = zip_at (IsCatchOf p pool) handlers catches place d e each lt

  pub handler_at : (place : ℕ) (d : Handler) (e : Catch) (taken : Option ClassNo) → taken ≡ class_taken (get_or catches place e) → place < length handlers
      → (IsUnknownEntry p pool handlers place → ⊥) → IsHandlerAt p pool handlers place (record { target = (get_or handlers place d).target; catch = taken })
  handler_at place d e taken is lt known = record {
    handler = get_or handlers place d;
    stands = slice_get-get_or handlers place d lt;
    target = refl;
    catch = subst (λ (o : Option ClassNo). IsCatch p pool (get_or handlers place d).catch_type o) (sym is) (by (get_or catches place e) (catch_at place d e lt));
  }
    where
      by : (c : Catch) → IsCatchOf p pool (get_or handlers place d) c → IsCatch p pool (get_or handlers place d).catch_type (class_taken c)
      by Each takes = takes
      by (OfClass number) takes = takes
      by Unknown takes = absurd (known (record { handler = get_or handlers place d; stands = slice_get-get_or handlers place d lt; takes = takes }))
