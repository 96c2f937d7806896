-- Lists of entries that are made one by one while tables grow: what an entry stands for, it goes on standing for.
use Rattle.std.proofs.Common.{ℕ, ◌+◌, ◌<◌, ◌≤◌, List, [], ◌∷◌, ◌++◌, take, get_or, length, refl, sym, subst, ◌∙◌}
use Rattle.std.specs.List.{AllZip}
use Rattle.std.proofs.lemmas.List.{take_more, take_all}
use Rattle.std.proofs.lemmas.Slice.Zip.{all_zipped_more}
use Rattle.points_to_numbers.specs.Numbered.{Grows, Numbered}
use Rattle.points_to_numbers.proofs.Growing.{grows_same, grows_on}
use Rattle.points_to_methods.specs.CallEntries.{GrowsTo}

-- what holds of the tables as they are
pub grows_to_same : (P : Numbered → Type 0) (tables : Numbered) → P tables → GrowsTo P tables tables
grows_to_same P tables holds = record { grows = grows_same tables; calls = refl; holds = holds }

-- after they have grown before
pub grows_to_on : (P Q : Numbered → Type 0) (old mid new : Numbered) → GrowsTo P old mid → GrowsTo Q mid new → GrowsTo Q old new
grows_to_on P Q old mid new first second = record {
  grows = grows_on old mid new first.grows second.grows;
  calls = second.calls ∙ first.calls;
  holds = second.holds;
}

-- another property that follows
pub grows_to_as : (P Q : Numbered → Type 0) (old new : Numbered) → (P new → Q new) → GrowsTo P old new → GrowsTo Q old new
grows_to_as P Q old new give first = record { grows = first.grows; calls = first.calls; holds = give first.holds }

-- ---- lists of entries, of which each stands for something

module _ {X Y : Type 0} (R : Numbered → X → Y → Type 0) (longer : (old new : Numbered) → Grows old new → (x : X) (y : Y) → R old x y → R new x y) where
  pub longer_list : (old new : Numbered) → Grows old new → (xs : List X) (ys : List Y) → AllZip (R old) xs ys → AllZip (R new) xs ys
  longer_list old new grows [] [] all = tt
  longer_list old new grows [] (y ∷ ys) all = absurd all
  longer_list old new grows (x ∷ xs) [] all = absurd all
  longer_list old new grows (x ∷ xs) (y ∷ ys) all = (longer old new grows x y all.0, longer_list old new grows xs ys all.1)

  -- one entry more
  pub entry_more : (old mid new : Numbered) (xs : List X) (i : ℕ) (d : X) (ys : List Y) (y : Y) → i < length xs
      → GrowsTo (λ tables. AllZip (R tables) (take i xs) ys) old mid → GrowsTo (λ tables. R tables (get_or xs i d) y) mid new
      → GrowsTo (λ tables. AllZip (R tables) (take (i + 1) xs) (ys ++ y ∷ [])) old new
  entry_more old mid new xs i d ys y within first second = record {
    grows = grows_on old mid new first.grows second.grows;
    calls = second.calls ∙ first.calls;
    holds = subst (λ (some : List X). AllZip (R new) some (ys ++ y ∷ [])) (sym (take_more xs i d within))
        (all_zipped_more (R new) (take i xs) ys (get_or xs i d) y (longer_list mid new second.grows (take i xs) ys first.holds) second.holds);
  }

  -- all of them
  pub entries_all : (old new : Numbered) (xs : List X) (i : ℕ) (ys : List Y) → length xs ≤ i
      → GrowsTo (λ tables. AllZip (R tables) (take i xs) ys) old new → GrowsTo (λ tables. AllZip (R tables) xs ys) old new
  entries_all old new xs i ys past all = grows_to_as (λ tables. AllZip (R tables) (take i xs) ys) (λ tables. AllZip (R tables) xs ys) old new
      (λ h. subst (λ (some : List X). AllZip (R new) some ys) (take_all i xs past) h) all

-- ---- what they stand for

-- The things of the items, for which the entries stand.
pub record Stood {X Y H : Type 0} (R : X → H → Type 0) (S : Y → H → Type 0) (xs : List X) (ys : List Y) : Type 0 where
  pub things : List H
  pub belong : AllZip R xs things
  pub stand : AllZip S ys things

pub stood : {X Y H : Type 0} (R : X → H → Type 0) (S : Y → H → Type 0) (xs : List X) (ys : List Y) → AllZip (λ (x : X) (y : Y). (h : H) × R x h × S y h) xs ys → Stood R S xs ys
stood R S [] [] all = record { things = []; belong = tt; stand = tt }
stood R S [] (y ∷ ys) all = absurd all
stood R S (x ∷ xs) [] all = absurd all
stood R S (x ∷ xs) (y ∷ ys) ((h, belongs, stands), all) =
    let more = stood R S xs ys all in
    record { things = h ∷ more.things; belong = (belongs, more.belong); stand = (stands, more.stand) }
