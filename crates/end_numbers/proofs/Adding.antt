-- A key is added, once its fact has a row.
use Rattle.std.proofs.Common.{◌≡◌, ℕ, List, [], ◌∷◌, ◌++◌, Some, refl, sym, ◌∙◌, ap, subst, inl, inr}
use Rattle.std.specs.List.{Contains, slice_get}
use Rattle.std.specs.Prelude.{Result, Ok, Err, OnErr}
use Rattle.std.proofs.lemmas.Option.{none-some}
use Rattle.list_laws.proofs.Places.{at_map, contains_at, map_at, place_of, push_cases}
use Rattle.fact_pool.specs.Rows.{AreDistinct, IsInterned, PoolRows, is_added as row_is_added, was_held as row_was_held}
use Rattle.stage_facts.specs.Facts.{SiteFact}
use Rattle.fact_rows.specs.FactRows.{IsFactRow}
use Rattle.fact_rows.specs.PathRows.{KeepsRows}
use Rattle.end_numbers.specs.declared.key.EndKey.{EndKey}
use Rattle.end_numbers.specs.Ends.{end, End, is_added, IsNumbered, was_held}
use Rattle.end_numbers.specs.KeyRows.{key_words, keys_from}
use Rattle.end_numbers.specs.Keys.{AreEndRows, ends_from, HasFact, key_end}
use Rattle.end_numbers.proofs.KeyRows.{key_of_words, keys_pushed, no_rows, row_there, rows_pushed}
use Rattle.end_numbers.proofs.OneEnd.{end_is, ends_stay, facts_stay, one_key}

-- The end got the number.
pub record GotNumber (held : List End) (facts rows : List (List ℕ)) (e : End) (number : ℕ) : Type 0 where
  pub sound : AreEndRows facts rows
  pub stands : slice_get (ends_from facts (keys_from rows)) number ≡ Some e
  pub numbered : IsNumbered held (ends_from facts (keys_from rows)) e

ends_pushed : (facts : List (List ℕ)) (keys : List EndKey) (key : EndKey) → ends_from facts (keys ++ key ∷ []) ≡ ends_from facts keys ++ key_end facts key ∷ []
unfolding ends_from
ends_pushed facts [] key = refl
ends_pushed facts (k ∷ keys) key = ap (λ (es : List End). key_end facts k ∷ es) (ends_pushed facts keys key)

ends_at : (facts : List (List ℕ)) (keys : List EndKey) (number : ℕ) (key : EndKey) → slice_get keys number ≡ Some key
    → slice_get (ends_from facts keys) number ≡ Some (key_end facts key)
unfolding ends_from
ends_at facts keys number key at = at_map (key_end facts) keys number key at

key_of_end : (facts : List (List ℕ)) (keys : List EndKey) (number : ℕ) (e : End) → slice_get (ends_from facts keys) number ≡ Some e
    → (key : EndKey) × (slice_get keys number ≡ Some key) × (key_end facts key ≡ e)
unfolding ends_from
key_of_end facts keys number e at = map_at (key_end facts) keys number e at

module _ (old new rows : List (List ℕ)) (sound : AreEndRows old rows) (distinct : AreDistinct new) (kept : KeepsRows old new)
    (key : EndKey) (e : End) (has : HasFact new key.fact) (is : key_end new key ≡ e) (number : ℕ) where
  abbrev before : List EndKey
  before = keys_from rows

  same : ends_from new before ≡ ends_from old before
  same = ends_stay old new before kept sound.have

  -- the key is there
  held : slice_get rows number ≡ Some (key_words key) → GotNumber (ends_from old before) new rows e number
  held at =
      let stands : slice_get (ends_from new before) number ≡ Some e = ends_at new before number key (key_of_words rows number key at) ∙ ap Some is in
      let stood : slice_get (ends_from old before) number ≡ Some e = ap (λ (es : List End). slice_get es number) (sym same) ∙ stands in
      record {
        sound = record { keys = sound.keys; have = facts_stay old new before kept sound.have };
        stands = stands;
        numbered = was_held (contains_at (ends_from old before) number e stood) same;
      }

  -- an end whose key is new is new
  absent : (Contains rows (key_words key) → ⊥) → Contains (ends_from old before) e → ⊥
  absent fresh there =
      let (place, at) = place_of (ends_from old before) e there in
      let (k, k_at, k_is) = key_of_end new before place e (ap (λ (es : List End). slice_get es place) same ∙ at) in
      let one : k ≡ key = one_key new distinct k key (facts_stay old new before kept sound.have place k k_at) has (k_is ∙ sym is) in
      fresh (row_there rows sound.keys key place (k_at ∙ ap (λ (x : EndKey). Some x) one))

  -- the key is new
  added : (Contains rows (key_words key) → ⊥) → slice_get (rows ++ key_words key ∷ []) number ≡ Some (key_words key)
      → GotNumber (ends_from old before) new (rows ++ key_words key ∷ []) e number
  added fresh at =
      let have = facts_stay old new before kept sound.have in
      let longer : keys_from (rows ++ key_words key ∷ []) ≡ before ++ key ∷ [] = keys_pushed rows key in
      let pushed : ends_from new before ++ key_end new key ∷ [] ≡ ends_from old before ++ e ∷ [] = λ i. same i ++ is i ∷ [] in
      record {
        sound = record {
          keys = rows_pushed rows key sound.keys;
          have = λ place k there. elim (push_cases before key place k (ap (λ (ks : List EndKey). slice_get ks place) (sym longer) ∙ there)) [
            | inl stood ↦ have place k stood
            | inr last ↦ subst (λ (l : EndKey). HasFact new l.fact) (sym last.1) has
          ];
        };
        stands = ends_at new (keys_from (rows ++ key_words key ∷ [])) number key (key_of_words (rows ++ key_words key ∷ []) number key at) ∙ ap Some is;
        numbered = is_added (absent fresh) (ap (ends_from new) longer ∙ ends_pushed new before key ∙ pushed);
      }

-- the end of a key that was made a row, where the fact has a row among those that there are now
pub got_number : (old new : List (List ℕ)) (before after : PoolRows) (ends : List End) (key : EndKey) (e : End) (fact : SiteFact) (number : ℕ)
    → ends_from old (keys_from before.rows) ≡ ends → AreEndRows old before.rows → AreDistinct new → KeepsRows old new → IsFactRow new key.fact fact
    → end key.method key.spot fact ≡ e → IsInterned before after (key_words key) → slice_get after.rows number ≡ Some (key_words key)
    → GotNumber ends new after.rows e number
got_number old new before after ends key e fact number view sound distinct kept is key_is interned at =
    subst (λ (es : List End). GotNumber es new after.rows e number) view (by interned)
  where
    is_end : key_end new key ≡ e
    is_end = end_is new key fact is ∙ key_is

    by : IsInterned before after (key_words key) → GotNumber (ends_from old (keys_from before.rows)) new after.rows e number
    by (row_was_held there stays) =
        let rows : after.rows ≡ before.rows = ap (λ (p : PoolRows). p.rows) stays in
        subst (λ (rs : List (List ℕ)). GotNumber (ends_from old (keys_from before.rows)) new rs e number) (sym rows)
        (held old new before.rows sound distinct kept key e (fact, is) is_end number (ap (λ (rs : List (List ℕ)). slice_get rs number) (sym rows) ∙ at))
    by (row_is_added fresh more) =
        subst (λ (rs : List (List ℕ)). GotNumber (ends_from old (keys_from before.rows)) new rs e number) (sym more)
        (added old new before.rows sound distinct kept key e (fact, is) is_end number fresh (ap (λ (rs : List (List ℕ)). slice_get rs number) (sym more) ∙ at))

-- ---- no key is added

-- the same keys are sound where rows of facts were added alone, and the ends are those that there were
pub rows_stay : (old new : List (List ℕ)) (before after : PoolRows) → AreEndRows old before.rows → KeepsRows old new → after ≡ before → AreEndRows new after.rows
rows_stay old new before after sound kept same =
    subst (λ (p : PoolRows). AreEndRows new p.rows) (sym same) (record { keys = sound.keys; have = facts_stay old new (keys_from before.rows) kept sound.have })

pub same_ends : (old new : List (List ℕ)) (before after : PoolRows) (ends : List End) → ends_from old (keys_from before.rows) ≡ ends → AreEndRows old before.rows
    → KeepsRows old new → after ≡ before → ends_from new (keys_from after.rows) ≡ ends
same_ends old new before after ends view sound kept same =
    ap (λ (p : PoolRows). ends_from new (keys_from p.rows)) same ∙ ends_stay old new (keys_from before.rows) kept sound.have ∙ view

-- no end
pub no_ends : (facts : List (List ℕ)) → AreEndRows facts []
unfolding keys_from
no_ends facts = record { keys = no_rows; have = λ number key at. absurd (none-some key at) }

-- what holds, holds where there is an error
pub on_err : {T E P : Type 0} (r : Result T E) → P → OnErr r P
on_err (Ok t) p = tt
on_err (Err e) p = p
