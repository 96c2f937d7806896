-- Texts of lines: good lines are read one way, and the first line that is not of the format is one.
use Rattle.std.proofs.Common.{◌≡◌, ◌≢◌, ℕ, ◌+◌, ◌<◌, ◌≤◌, List, [], ◌∷◌, ◌++◌, length, take, Some, refl, sym, ap, subst, ◌∙◌, append_assoc, length-append, arith, inl, inr, Result, Ok, Err, IfOk, IfErr, cond, eqb, zero, suc, Bool, true, false, ◌⊎◌}
use Rattle.std.specs.List.{slice_get}
use Rattle.std.proofs.lemmas.List.{append-nil, take-append-le}
use Rattle.std.proofs.lemmas.Option.{same_Some, slice_get_within}
use Rattle.failure.specs.declared.Failure.{Failure}
use Rattle.failure.specs.declared.Failure.TheVariants as failures
use Rattle.certificate_lines.specs.declared.line.Line.{Line}
use Rattle.certificate_lines.specs.declared.line.Line.TheVariants as lines
use Rattle.certificate_lines.specs.LineTexts.{line_text}
use Rattle.line_guesses.specs.Fits.{Fits}
use Rattle.line_guesses.specs.Guess.{line_at}
use Rattle.line_guesses.proofs.LinesAgain.{line_again, one_line}
use Rattle.certificates.specs.declared.fault.BadLine.{BadLine}
use Rattle.certificates.specs.declared.ranges.Ranges.{Ranges}
use Rattle.certificates.specs.Format.{AreGood, IsBadLine, IsCertificate, IsEnded, IsGoodAfter, count_of, kind}
use Rattle.certificates.specs.Reading.{IsNoFront, IsOneMore, IsReadEnd, IsStopped, ReadsAs}
use Rattle.certificates.specs.Texts.{most_bytes, text}

-- ---- lists

-- what stands in a list with one more
push_cases : (xs : List Line) (x : Line) (k : ℕ) (y : Line) → slice_get (xs ++ x ∷ []) k ≡ Some y → (slice_get xs k ≡ Some y) ⊎ ((k ≡ length xs) × (y ≡ x))
push_cases [] x zero y e = inr (refl, sym (same_Some x y e))
push_cases [] x (suc k) y e = absurd cc
push_cases (z ∷ zs) x zero y e = inl e
push_cases (z ∷ zs) x (suc k) y e = elim (push_cases zs x k y e) [
  | inl old ↦ inl old
  | inr new ↦ inr (ap suc new.0, new.1)
]

pub count_push : (k : ℕ) (xs : List Line) (x : Line) → count_of k (xs ++ x ∷ []) ≡ cond (eqb (kind x) k) 1 0 + count_of k xs
count_push k [] x = refl
count_push k (y ∷ ys) x =
    let rest = count_push k ys x in
    omega (arith, rest)

count_within : (k : ℕ) (xs : List Line) → count_of k xs ≤ length xs
count_within k [] = omega arith
count_within k (x ∷ xs) = by (eqb (kind x) k) (count_within k xs)
  where
    by : (b : Bool) → count_of k xs ≤ length xs → cond b 1 0 + count_of k xs ≤ suc (length xs)
    by true l = omega (arith, l)
    by false l = omega (arith, l)

-- ---- guesses

-- a guess of bytes that begin with a line is this line
pub guess_is : (x : Line) (bytes more : List ℕ) → Fits x → bytes ≡ line_text x ++ more → (line_at bytes).0 ≡ x
guess_is x bytes more is e = ap (λ (b : List ℕ). (line_at b).0) e ∙ ap (λ (p : Line × List ℕ). p.0) (line_again x more is)

-- no other line can follow than the one that is guessed
pub stopped_by_order : (r : Ranges) (all same : List Line) (bytes : List ℕ) (x : Line) → same ≡ all → x ≡ (line_at bytes).0 → (IsGoodAfter r same x → ⊥) → IsStopped r all bytes
stopped_by_order r all same bytes x e g not = record {
  none = λ y more good is.
      let own : y ≡ x = sym (guess_is y bytes more good.fits is) ∙ sym g in
      not (subst (λ (p : List Line × Line). IsGoodAfter r p.0 p.1) {x = (all, y)} {y = (same, x)} (λ i. (sym e i, own i)) good);
}

pub stopped_by_text : (r : Ranges) (all : List Line) (bytes : List ℕ) (x : Line) → x ≡ (line_at bytes).0 → IsNoFront (line_text x) bytes → IsStopped r all bytes
stopped_by_text r all bytes x g not = record {
  none = λ y more good is.
      let own : y ≡ x = sym (guess_is y bytes more good.fits is) ∙ sym g in
      not.none more (is ∙ ap (λ (z : Line). line_text z ++ more) own);
}

line_some : (x : Line) → 0 < length (line_text x)
line_some lines.Version = omega arith
line_some (lines.Class name) = omega arith
line_some (lines.State name) = omega arith
line_some (lines.Initial q) = omega arith
line_some (lines.Error q) = omega arith
line_some (lines.Event e) = omega arith
line_some (lines.Entry m) = omega arith
line_some (lines.Depth k) = omega arith
line_some (lines.Reached m) = omega arith
line_some (lines.PointsTo h s) = omega arith
line_some (lines.Modifies m f) = omega arith
line_some (lines.Claim stage s) = omega arith
line_some (lines.PathEdge e) = omega arith
line_some lines.End = omega arith

no_line_in_nothing : (x : Line) (more : List ℕ) → [] ≡ line_text x ++ more → ⊥
no_line_in_nothing x more e = let l = line_some x in let n = ap length e in omega (arith, l, n, length-append (line_text x) more)

text_more : (all : List Line) (x : Line) (rest : List ℕ) → text (all ++ x ∷ []) ++ rest ≡ text all ++ (line_text x ++ rest)
text_more [] x rest = ap (λ (b : List ℕ). b ++ rest) (append-nil (line_text x))
text_more (y ∷ ys) x rest = append_assoc (line_text y) (text (ys ++ x ∷ [])) rest ∙ ap (λ (b : List ℕ). line_text y ++ b) (text_more ys x rest) ∙ sym (append_assoc (line_text y) (text ys) (line_text x ++ rest))

-- each line takes a byte at least
length_text : (all : List Line) → length all ≤ length (text all)
length_text [] = omega arith
length_text (x ∷ xs) = let l = line_some x in let m = length_text xs in omega (arith, l, m, length-append (line_text x) (text xs))

-- ---- good lines

good_more : (r : Ranges) (all : List Line) (x : Line) → AreGood r all → IsGoodAfter r all x → AreGood r (all ++ x ∷ [])
good_more r all x good here k y e = elim (push_cases all x k y e) [
  | inl old ↦ (
      let l : k ≤ length all = omega (arith, slice_get_within all k y old) in
      subst (λ (earlier : List Line). IsGoodAfter r earlier y) (sym (take-append-le k all (x ∷ []) l)) (good k y old)
      )
  | inr new ↦ (
      let l : k ≤ length all = omega (arith, new.0) in
      let whole : take k (all ++ x ∷ []) ≡ all = take-append-le k all (x ∷ []) l ∙ ap (λ (n : ℕ). take n all) new.0 ∙ take_whole all in
      subst (λ (p : List Line × Line). IsGoodAfter r p.0 p.1) {x = (all, x)} {y = (take k (all ++ x ∷ []), y)} (λ i. (sym whole i, sym new.1 i)) here
      )
]
  where
    take_whole : (xs : List Line) → take (length xs) xs ≡ xs
    take_whole [] = refl
    take_whole (z ∷ zs) = ap (λ (ws : List Line). z ∷ ws) (take_whole zs)

-- The lines are good, one after another, behind those that are done; and all lines then.
abbrev GoodFrom : Ranges → List Line → List Line → Type 0
GoodFrom r done [] = Unit {0}
GoodFrom r done (x ∷ xs) = IsGoodAfter r done x × GoodFrom r (done ++ x ∷ []) xs

abbrev all_of : List Line → List Line → List Line
all_of done [] = done
all_of done (x ∷ xs) = all_of (done ++ x ∷ []) xs

all_is : (done xs : List Line) → all_of done xs ≡ done ++ xs
all_is done [] = sym (append-nil done)
all_is done (x ∷ xs) = all_is (done ++ x ∷ []) xs ∙ append_assoc done (x ∷ []) xs

take_done : (done xs : List Line) → take (length done) (done ++ xs) ≡ done
take_done [] xs = refl
take_done (d ∷ ds) xs = ap (λ (ws : List Line). d ∷ ws) (take_done ds xs)

at_done : (done : List Line) (x : Line) (xs : List Line) → slice_get (done ++ x ∷ xs) (length done) ≡ Some x
at_done [] x xs = refl
at_done (d ∷ ds) x xs = at_done ds x xs

good_from : (r : Ranges) (done xs : List Line) → AreGood r (done ++ xs) → GoodFrom r done xs
good_from r done [] good = tt
good_from r done (x ∷ xs) good = (
  subst (λ (earlier : List Line). IsGoodAfter r earlier x) (take_done done (x ∷ xs)) (good (length done) x (at_done done x xs)),
  good_from r (done ++ x ∷ []) xs (subst (λ (all : List Line). AreGood r all) (sym (append_assoc done (x ∷ []) xs)) good),
)

-- No line that is good behind these follows.
abbrev Stops : Ranges → List Line → List ℕ → Type 0
Stops r all rest = (x : Line) (more : List ℕ) → IsGoodAfter r all x → rest ≡ line_text x ++ more → ⊥

aligned : (r : Ranges) (done xs ys : List Line) (a b : List ℕ) → GoodFrom r done xs → GoodFrom r done ys → Stops r (all_of done xs) a → Stops r (all_of done ys) b
    → text xs ++ a ≡ text ys ++ b → (xs ≡ ys) × (a ≡ b)
aligned r done [] [] a b g h p q e = (refl, e)
aligned r done [] (y ∷ ys) a b g h p q e = absurd (p y (text ys ++ b) h.0 (e ∙ append_assoc (line_text y) (text ys) b))
aligned r done (x ∷ xs) [] a b g h p q e = absurd (q x (text xs ++ a) g.0 (sym e ∙ append_assoc (line_text x) (text xs) a))
aligned r done (x ∷ xs) (y ∷ ys) a b g h p q e =
    let first = one_line x y (text xs ++ a) (text ys ++ b) g.0.fits h.0.fits (sym (append_assoc (line_text x) (text xs) a) ∙ e ∙ append_assoc (line_text y) (text ys) b) in
    let also = subst (λ (z : Line). GoodFrom r (done ++ z ∷ []) ys × Stops r (all_of (done ++ z ∷ []) ys) b) (sym first.0) (h.1, q) in
    let rest = aligned r (done ++ x ∷ []) xs ys a b g.1 also.0 p also.1 first.1 in
    (λ i. first.0 i ∷ rest.0 i, rest.1)

stops_all : (r : Ranges) (all : List Line) (rest : List ℕ) → Stops r all rest → Stops r (all_of [] all) rest
stops_all r all rest p = subst (λ (xs : List Line). Stops r xs rest) (sym (all_is [] all)) p

both_fronts : (r : Ranges) (xs ys : List Line) (a b : List ℕ) → AreGood r xs → AreGood r ys → Stops r xs a → Stops r ys b → text xs ++ a ≡ text ys ++ b → (xs ≡ ys) × (a ≡ b)
both_fronts r xs ys a b g h p q e = aligned r [] xs ys a b (good_from r [] xs g) (good_from r [] ys h) (stops_all r xs a p) (stops_all r ys b q) e

pub one_bad : (r : Ranges) (bytes : List ℕ) (m n : ℕ) → IsBadLine r bytes m → IsBadLine r bytes n → m ≡ n
one_bad r bytes m n b c =
    let same = both_fronts r b.earlier c.earlier b.rest c.rest b.good c.good b.stops c.stops (sym b.begins ∙ c.begins) in
    let long = ap length same.0 in
    omega (arith, b.number, c.number, long)

pub none_bad : (r : Ranges) (bytes : List ℕ) (n : ℕ) (all : List Line) → IsBadLine r bytes n → IsCertificate r all → bytes ≢ text all
none_bad r bytes n all b c e =
    let same = both_fronts r b.earlier all b.rest [] b.good c.good b.stops (λ x more good f. no_line_in_nothing x more f) (sym b.begins ∙ e ∙ sym (append-nil (text all))) in
    b.not_all (subst (λ (xs : List Line). IsEnded xs) (sym same.0) c.ended) same.1

-- one certificate has the text
pub one_certificate : (r : Ranges) (xs ys : List Line) → IsCertificate r xs → IsCertificate r ys → text xs ≡ text ys → xs ≡ ys
one_certificate r xs ys c d e =
    (both_fronts r xs ys [] [] c.good d.good (λ x more good f. no_line_in_nothing x more f) (λ x more good f. no_line_in_nothing x more f)
    (append-nil (text xs) ∙ e ∙ sym (append-nil (text ys)))).0

-- ---- the steps of a reading

pub bad_here : (r : Ranges) (all : List Line) (bytes rest : List ℕ) (n : ℕ) → AreGood r all → bytes ≡ text all ++ rest → n ≡ length all + 1 → IsStopped r all rest
    → ((IsEnded all × (rest ≡ [])) → ⊥) → IsBadLine r bytes n
bad_here r all bytes rest n good begins number stop not = record {
  earlier = all;
  rest = rest;
  good = good;
  begins = begins;
  number = number;
  stops = λ x more g e. stop.none x more g e;
  not_all = λ ended none. not (ended, none);
}

pub read_more_good : (r : Ranges) (old new : List Line) (rest after : List ℕ) (k : ℕ) → AreGood r old → IsOneMore r old new rest after k → AreGood r new
read_more_good r old new rest after k good one = subst (λ (all : List Line). AreGood r all) (sym one.added) (good_more r old one.x good one.good)

pub read_more_begins : (r : Ranges) (old new : List Line) (bytes rest after : List ℕ) (k : ℕ) → bytes ≡ text old ++ rest → IsOneMore r old new rest after k → bytes ≡ text new ++ after
read_more_begins r old new bytes rest after k e one =
    e ∙ ap (λ (b : List ℕ). text old ++ b) one.begins ∙ sym (text_more old one.x after) ∙ ap (λ (all : List Line). text all ++ after) (sym one.added)

pub read_more_number : (r : Ranges) (old new : List Line) (rest after : List ℕ) (k n : ℕ) → n ≡ length old + 1 → IsOneMore r old new rest after k → n + 1 ≡ length new + 1
read_more_number r old new rest after k n e one = let l = ap length one.added in omega (arith, e, l, length-append old (one.x ∷ []))

pub read_more_count : (r : Ranges) (old new : List Line) (rest after : List ℕ) (k j n m : ℕ) → n ≡ count_of j old → IsOneMore r old new rest after k → m ≡ cond (eqb k j) 1 0 + n
    → m ≡ count_of j new
read_more_count r old new rest after k j n m e one h =
    h ∙ (λ i. cond (eqb (one.kind_is i) j) 1 0 + e i) ∙ sym (count_push j old one.x) ∙ ap (count_of j) (sym one.added)

pub read_more_less : (r : Ranges) (old new : List Line) (rest after : List ℕ) (k : ℕ) → IsOneMore r old new rest after k → length after < length rest
read_more_less r old new rest after k one = let l = ap length one.begins in let m = line_some one.x in omega (arith, l, m, length-append (line_text one.x) after)

pub lines_within : (all : List Line) (bytes rest : List ℕ) → bytes ≡ text all ++ rest → length all ≤ length bytes
lines_within all bytes rest e = let l = ap length e in let m = length_text all in omega (arith, l, m, length-append (text all) rest)

pub count_few : (k n : ℕ) (all : List Line) (bytes rest : List ℕ) → n ≡ count_of k all → bytes ≡ text all ++ rest → length bytes ≤ most_bytes → n < 4294967295
count_few k n all bytes rest e b l = let w = lines_within all bytes rest b in let c = count_within k all in omega (arith, e, l, w, c)

pub reads_as : (r : Ranges) (result : Result (List Line) (Failure BadLine)) (bytes : List ℕ) (all : List Line) → IfOk result (λ c. IsCertificate r c) → IfOk result (λ c. bytes ≡ text c)
    → IfErr result (IsReadEnd r bytes) → IsCertificate r all → length bytes ≤ most_bytes → bytes ≡ text all → ReadsAs result all
reads_as r (Ok read) bytes all is found failure also short e = one_certificate r read all is also (sym found ∙ e)
reads_as r (Err (failures.Cause bad)) bytes all is found (inl over) also short e = absurd (omega (arith, short, over.1))
reads_as r (Err (failures.Cause bad)) bytes all is found (inr here) also short e = absurd (none_bad r bytes bad.0 all here.1 also e)
reads_as r (Err failures.OutOfMemory) bytes all is found failure also short e = refl
