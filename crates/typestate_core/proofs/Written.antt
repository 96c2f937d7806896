-- What a sink has taken of a text, piece by piece.
use Rattle.std.proofs.Common.{◌≡◌, ℕ, ◌≤◌, List, [], ◌∷◌, ◌++◌, length, take, drop, Option, Some, None, option_map, Result, Ok, Err, OnErr, sym, ap, ◌∙◌, refl, append_assoc, length-append, subst, arith}
use Rattle.std.proofs.Math.Seq.{take-append_seam}
use Rattle.std.proofs.lemmas.List.{take-append-drop, nil_from_length}
use Rattle.typestate_core.specs.Output.{TakesAll, TakesFront}

-- The sink took what stands before the rest of the text.
pub record Written (old new : Option (List ℕ)) (text rest : List ℕ) : Type 0 where
  pub done : List ℕ
  pub whole : text ≡ done ++ rest
  pub takes : TakesAll old new done

append-nil : (xs : List ℕ) → xs ++ [] ≡ xs
append-nil [] = refl
append-nil (x ∷ xs) = ap (λ ys. x ∷ ys) (append-nil xs)

pub TakesAll-nil : (old : Option (List ℕ)) → TakesAll old old []
TakesAll-nil None = refl
TakesAll-nil (Some taken) = ap Some (sym (append-nil taken))

pub TakesAll-append : (old mid new : Option (List ℕ)) (a b : List ℕ) → TakesAll old mid a → TakesAll mid new b → TakesAll old new (a ++ b)
TakesAll-append None mid new a b e f = f ∙ ap (option_map (λ taken. taken ++ b)) e
TakesAll-append (Some taken) mid new a b e f = f ∙ (ap (option_map (λ t. t ++ b)) e ∙ ap Some (append_assoc taken a b))

pub written_none : (old : Option (List ℕ)) (text : List ℕ) → Written old old text text
written_none old text = record { done = []; whole = refl; takes = TakesAll-nil old }

pub written_more : (old mid new : Option (List ℕ)) (text rest : List ℕ) (n : ℕ) → Written old mid text rest → TakesAll mid new (take n rest) → Written old new text (drop n rest)
written_more old mid new text rest n w e = record {
  done = w.done ++ take n rest;
  whole = w.whole ∙ (ap (λ xs. w.done ++ xs) (sym (take-append-drop n rest)) ∙ sym (append_assoc w.done (take n rest) (drop n rest)));
  takes = TakesAll-append old mid new w.done (take n rest) w.takes e;
}

pub written_all : (old new : Option (List ℕ)) (text rest : List ℕ) → Written old new text rest → length rest ≡ 0 → TakesAll old new text
written_all old new text rest w none =
    subst (λ xs. TakesAll old new xs) (sym (w.whole ∙ (ap (λ xs. w.done ++ xs) (nil_from_length rest none) ∙ append-nil w.done))) w.takes

pub written_front : (old new : Option (List ℕ)) (text rest : List ℕ) → Written old new text rest → TakesFront old new text
written_front old new text rest w =
    let fits : length w.done ≤ length text = rw (w.whole, length-append w.done rest) (omega arith) in
    let front : take (length w.done) text ≡ w.done = rw w.whole (take-append_seam w.done rest) in
    (length w.done, fits, subst (λ xs. TakesAll old new xs) (sym front) w.takes)

-- What holds of an error holds where it comes.
pub on_err : {A E : Type 0} (r : Result A E) (P : Type 0) → P → OnErr r P
on_err (Ok x) P p = tt
on_err (Err e) P p = p

-- What stands before the rest was taken, and then some of the first bytes of the rest: so some of the first bytes of all.
pub front_of_rest : (old mid new : Option (List ℕ)) (text rest : List ℕ) (n : ℕ) → Written old mid text rest → TakesFront mid new (take n rest)
    → TakesFront old new text
front_of_rest old mid new text rest n w (count, fits, takes) =
    let front : take count (take n rest) ++ (drop count (take n rest) ++ drop n rest) ≡ rest =
    sym (append_assoc (take count (take n rest)) (drop count (take n rest)) (drop n rest))
    ∙ (ap (λ xs. xs ++ drop n rest) (take-append-drop count (take n rest)) ∙ take-append-drop n rest) in
    written_front old new text (drop count (take n rest) ++ drop n rest) (record {
      done = w.done ++ take count (take n rest);
      whole = w.whole ∙ (ap (λ xs. w.done ++ xs) (sym front) ∙ sym (append_assoc w.done (take count (take n rest)) (drop count (take n rest) ++ drop n rest)));
      takes = TakesAll-append old mid new w.done (take count (take n rest)) w.takes takes;
    })
