-- The normal form of a stage and the limit on paths keep what the laws ask for: a path is left out only where other cells are possible, or where it
-- is known not to refer to the object.
use Rattle.std.proofs.Common.{◌≡◌, ℕ, nat_eq, nat_lt, Bool, true, false, cond, [], length, refl, sym}
use Rattle.std.specs.List.{Contains}
use Rattle.std.proofs.lemmas.Bool.{false≢true, ltb-false, or_parts}
use Rattle.list_laws.proofs.Members.{contains_none}
use Rattle.access_paths.specs.Paths.{Path, most_paths}
use Rattle.stage_facts.specs.Facts.{Tuple}
use Rattle.stage_transfer.specs.Stages.{limited, normal}
use Rattle.stage_transfer_laws.proofs.Members.{in_take, of_take}

-- Some paths are left out: must paths only where other cells are possible.
pub record IsCut (u v : Tuple) : Type 0 where
  pub unique : v.unique ≡ u.unique
  pub state : v.state ≡ u.state
  pub must : (y : Path) → Contains v.must y → Contains u.must y
  pub must_not : (y : Path) → Contains v.must_not y → Contains u.must_not y
  pub may : v.may ≡ false → u.may ≡ false
  pub all : v.may ≡ false → (y : Path) → Contains u.must y → Contains v.must y

limited_cut : (t : Tuple) → IsCut t (limited t)
limited_cut t = record {
  unique = refl;
  state = refl;
  must = of_take most_paths t.must;
  must_not = of_take most_paths t.must_not;
  may = λ e. (or_parts t.may (nat_lt most_paths (length t.must)) e).0;
  all = λ e y there. in_take most_paths t.must y (ltb-false most_paths (length t.must) (or_parts t.may (nat_lt most_paths (length t.must)) e).1) there;
}

pub finished_cut : (stage : ℕ) (t : Tuple) → IsCut t (limited (normal stage t))
finished_cut stage t = by (nat_eq stage 2) (nat_eq stage 3)
  where
    by : (a b : Bool) → IsCut t (limited (cond a (record { unique = t.unique; state = t.state; must = []; may = true; must_not = [] })
        (cond b (record { unique = t.unique; state = t.state; must = t.must; may = t.may; must_not = [] }) t)))
    by true b = record {
      unique = refl;
      state = refl;
      must = λ y there. absurd (contains_none y there);
      must_not = λ y there. absurd (contains_none y there);
      may = λ e. absurd (false≢true (sym e));
      all = λ e. absurd (false≢true (sym e));
    }
    by false true = record {
      unique = refl;
      state = refl;
      must = of_take most_paths t.must;
      must_not = λ y there. absurd (contains_none y there);
      may = (limited_cut t).may;
      all = (limited_cut t).all;
    }
    by false false = limited_cut t
