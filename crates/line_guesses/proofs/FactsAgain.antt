-- A guess is right where the bytes begin with what is guessed: paths, facts and spots.
use Rattle.std.proofs.Common.{codes, ◌≡◌, ℕ, zero, suc, ◌≤◌, Bool, true, false, cond, eqb, List, [], ◌∷◌, ◌++◌, length, length-append, take, decimal, refl, ap, sym, subst, ◌∙◌, append_assoc, arith}
use Rattle.std.specs.List.{AllByRecursion, flat_map}
use Rattle.jvm_model.specs.declared.number.FieldNo.{FieldNo}
use Rattle.op_model.specs.declared.node.Spot.{Spot}
use Rattle.op_model.specs.declared.node.Spot.TheVariants as spots
use Rattle.access_paths.specs.declared.fields.Fields.{Fields}
use Rattle.access_paths.specs.declared.fields.Fields.TheVariants.{Zero, One, Two, Three}
use Rattle.access_paths.specs.declared.root.Root.{Root}
use Rattle.access_paths.specs.declared.root.Root.TheVariants as roots
use Rattle.access_paths.specs.Followed.{listed}
use Rattle.access_paths.specs.Paths.{Path, with_path}
use Rattle.access_paths.specs.Sets.{AreInOrder, IsPathSet}
use Rattle.access_paths.proofs.SetMembers.{path_set_push, path_set_same}
use Rattle.stage_facts.specs.declared.plain.PlainFact.{PlainFact}
use Rattle.stage_facts.specs.declared.plain.PlainFact.TheVariants as plain
use Rattle.stage_facts.specs.Plain.{fact_of}
use Rattle.stage_facts.specs.Facts.{Tuple}
use Rattle.edge_lines.specs.EdgeLines.{fact_words, field_text, flag_word, path_text, paths_text, root_text, spot_word, tuple_words}
use Rattle.line_guesses.specs.Guess.{digit_count, fact_at, field_at, fields_at, first_byte, is_digit, more_at, path_at, paths_at, root_at, second_at, small_at, spot_at, tuple_at}
use Rattle.line_guesses.specs.Fits.{FitsFact, FitsField, FitsPath, FitsRoot, FitsSet, FitsSpot, FitsTuple}
use Rattle.line_guesses.proofs.Again.{no_digit, number_again, number_is_not, small_again}

-- ---- paths

root_again : (r : Root) (rest : List ℕ) → FitsRoot r → digit_count rest ≡ 0 → root_at (root_text r ++ rest) ≡ (r, rest)
unfolding root_at
root_again (roots.Slot z) rest is s = rw (number_again z rest is s) refl
root_again (roots.Static f) rest is s = rw (number_again f.0 rest is s) refl
root_again roots.Returned rest is s = refl
root_again roots.Thrown rest is s = refl

-- What ends a path: no digit and no full stop.
pub record Ends (rest : List ℕ) : Type 0 where
  pub digit : digit_count rest ≡ 0
  pub stop : eqb (first_byte rest) 46 ≡ false

fields_end : (fs : List FieldNo) (rest : List ℕ) → Ends rest → digit_count (flat_map field_text fs ++ rest) ≡ 0
fields_end [] rest s = s.digit
fields_end (f ∷ fs) rest s = no_digit 46 _ refl

fields_open : (f : FieldNo) (fs : List FieldNo) (rest : List ℕ) → flat_map field_text (f ∷ fs) ++ rest ≡ 46 ∷ (decimal f.0 ++ (flat_map field_text fs ++ rest))
fields_open f fs rest = ap (λ (x : List ℕ). 46 ∷ x) (append_assoc (decimal f.0) (flat_map field_text fs) rest)

field_again : (f : FieldNo) (rest : List ℕ) → FitsField f → digit_count rest ≡ 0 → field_at (46 ∷ (decimal f.0 ++ rest)) ≡ (f, rest)
unfolding field_at
field_again f rest is s = rw (number_again f.0 rest is s) refl

record AreFieldsAgain (fs : List FieldNo) (bytes rest : List ℕ) : Type 0 where
  made : Fields
  read : fields_at bytes ≡ (made, rest)
  same : listed made ≡ fs

no_fields : (rest : List ℕ) → Ends rest → AreFieldsAgain [] rest rest
unfolding fields_at
no_fields rest s = record { made = Zero; read = rw s.stop refl; same = refl }

one_field : (f : FieldNo) (b0 rest : List ℕ) → Ends rest → eqb (first_byte b0) 46 ≡ true → field_at b0 ≡ (f, rest) → AreFieldsAgain (f ∷ []) b0 rest
unfolding fields_at second_at
one_field f b0 rest s d0 r0 = record { made = One f; read = rw (d0, r0, s.stop) refl; same = refl }

two_fields : (f g : FieldNo) (b0 b1 rest : List ℕ) → Ends rest → eqb (first_byte b0) 46 ≡ true → eqb (first_byte b1) 46 ≡ true → field_at b0 ≡ (f, b1) → field_at b1 ≡ (g, rest)
    → AreFieldsAgain (f ∷ g ∷ []) b0 rest
unfolding fields_at second_at
two_fields f g b0 b1 rest s d0 d1 r0 r1 = record { made = Two f g; read = rw (d0, r0, d1, r1, s.stop) refl; same = refl }

three_fields : (f g h : FieldNo) (b0 b1 b2 rest : List ℕ) → eqb (first_byte b0) 46 ≡ true → eqb (first_byte b1) 46 ≡ true → eqb (first_byte b2) 46 ≡ true
    → field_at b0 ≡ (f, b1) → field_at b1 ≡ (g, b2) → field_at b2 ≡ (h, rest) → AreFieldsAgain (f ∷ g ∷ h ∷ []) b0 rest
unfolding fields_at second_at
three_fields f g h b0 b1 b2 rest d0 d1 d2 r0 r1 r2 = record { made = Three f g h; read = rw (d0, r0, d1, r1, d2, r2) refl; same = refl }

fields_again : (fs : List FieldNo) (rest : List ℕ) → AllByRecursion FitsField fs → length fs ≤ 3 → Ends rest → AreFieldsAgain fs (flat_map field_text fs ++ rest) rest
fields_again [] rest is few s = no_fields rest s
fields_again (f ∷ []) rest is few s =
    subst (λ (b : List ℕ). AreFieldsAgain (f ∷ []) b rest) (sym (fields_open f [] rest))
    (one_field f (46 ∷ (decimal f.0 ++ rest)) rest s refl (field_again f rest is.0 s.digit))
fields_again (f ∷ g ∷ []) rest is few s =
    let b1 = 46 ∷ (decimal g.0 ++ rest) in
    let whole : flat_map field_text (f ∷ g ∷ []) ++ rest ≡ 46 ∷ (decimal f.0 ++ b1) = fields_open f (g ∷ []) rest ∙ ap (λ (x : List ℕ). 46 ∷ (decimal f.0 ++ x)) (fields_open g [] rest) in
    subst (λ (b : List ℕ). AreFieldsAgain (f ∷ g ∷ []) b rest) (sym whole)
    (two_fields f g (46 ∷ (decimal f.0 ++ b1)) b1 rest s refl refl (field_again f b1 is.0 (no_digit 46 _ refl)) (field_again g rest is.1.0 s.digit))
fields_again (f ∷ g ∷ h ∷ []) rest is few s =
    let b2 = 46 ∷ (decimal h.0 ++ rest) in
    let b1 = 46 ∷ (decimal g.0 ++ b2) in
    let whole : flat_map field_text (f ∷ g ∷ h ∷ []) ++ rest ≡ 46 ∷ (decimal f.0 ++ b1) = fields_open f (g ∷ h ∷ []) rest
    ∙ ap (λ (x : List ℕ). 46 ∷ (decimal f.0 ++ x)) (fields_open g (h ∷ []) rest ∙ ap (λ (x : List ℕ). 46 ∷ (decimal g.0 ++ x)) (fields_open h [] rest)) in
    subst (λ (b : List ℕ). AreFieldsAgain (f ∷ g ∷ h ∷ []) b rest) (sym whole)
    (three_fields f g h (46 ∷ (decimal f.0 ++ b1)) b1 b2 rest refl refl refl (field_again f b1 is.0 (no_digit 46 _ refl)) (field_again g b2 is.1.0 (no_digit 46 _ refl))
    (field_again h rest is.1.1.0 s.digit))
fields_again (f ∷ g ∷ h ∷ k ∷ fs) rest is few s = absurd (omega (arith, few))

path_from : (bytes middle rest : List ℕ) (x : Path) (fs : Fields) → root_at bytes ≡ (x.root, middle) → fields_at middle ≡ (fs, rest) → listed fs ≡ x.fields → path_at bytes ≡ (x, rest)
unfolding path_at
path_from bytes middle rest x fs r f l = rw (r, f, l) refl

path_again : (x : Path) (rest : List ℕ) → FitsPath x → Ends rest → path_at (path_text x ++ rest) ≡ (x, rest)
path_again x rest is s =
    let fields = flat_map field_text x.fields ++ rest in
    let again = fields_again x.fields rest is.fields is.few s in
    ap path_at (append_assoc (root_text x.root) (flat_map field_text x.fields) rest)
    ∙ path_from (root_text x.root ++ fields) fields rest x again.made (root_again x.root fields is.root (fields_end x.fields rest s)) again.read again.same

path_first : (x : Path) (rest : List ℕ) → eqb (first_byte (path_text x ++ rest)) 45 ≡ false
path_first x rest = by x.root
  where
    by : (r : Root) → eqb (first_byte ((root_text r ++ flat_map field_text x.fields) ++ rest)) 45 ≡ false
    by (roots.Slot z) = refl
    by (roots.Static f) = refl
    by roots.Returned = refl
    by roots.Thrown = refl

-- ---- sets

front_in_order : (front back : List Path) → AreInOrder (front ++ back) → AreInOrder front
front_in_order [] back o = tt
front_in_order (x ∷ []) back o = (tt, tt)
front_in_order (x ∷ y ∷ front) back o = (o.0, front_in_order (y ∷ front) back o.1)

-- a path that comes behind all is added as the last
with_last : (x : Path) (set back : List Path) → AreInOrder (set ++ x ∷ back) → with_path x set ≡ set ++ x ∷ []
with_last x set back o =
    let all = front_in_order (set ++ x ∷ []) back (subst (λ (xs : List Path). AreInOrder xs) (sym (append_assoc set (x ∷ []) back)) o) in
    ap (λ (xs : List Path). with_path x xs) (sym (path_set_same set (front_in_order set (x ∷ back) o))) ∙ sym (path_set_push set x) ∙ path_set_same (set ++ x ∷ []) all

take_few : (n : ℕ) (xs : List Path) → length xs ≤ n → take n xs ≡ xs
take_few zero [] l = refl
take_few zero (x ∷ xs) l = absurd (omega (arith, l))
take_few (suc n) [] l = refl
take_few (suc n) (x ∷ xs) l = ap (λ (ys : List Path). x ∷ ys) (take_few n xs (omega (arith, l)))

append_none : (xs : List Path) → xs ++ [] ≡ xs
append_none [] = refl
append_none (x ∷ xs) = ap (λ (ys : List Path). x ∷ ys) (append_none xs)

abbrev more_text : List Path → List ℕ
more_text xs = flat_map (λ (x : Path). codes "," ++ path_text x) xs

more_end : (xs : List Path) (rest : List ℕ) → Ends rest → Ends (more_text xs ++ rest)
more_end [] rest s = s
more_end (x ∷ xs) rest s = record { digit = no_digit 44 _ refl; stop = refl }

more_one : (k : ℕ) (set : List Path) (bytes rest : List ℕ) (x : Path) → path_at bytes ≡ (x, rest) → more_at (suc k) set (44 ∷ bytes) ≡ more_at k (take 6 (with_path x set)) rest
unfolding more_at
more_one k set bytes rest x r = rw r refl

more_none : (k : ℕ) (set : List Path) (rest : List ℕ) → eqb (first_byte rest) 44 ≡ false → more_at k set rest ≡ (set, rest)
unfolding more_at
more_none zero set rest e = refl
more_none (suc k) set rest e = rw e refl

more_again : (k : ℕ) (set xs : List Path) (rest : List ℕ) → length xs ≤ k → AllByRecursion FitsPath xs → IsPathSet (set ++ xs) → Ends rest → eqb (first_byte rest) 44 ≡ false
    → more_at k set (more_text xs ++ rest) ≡ (set ++ xs, rest)
more_again k set [] rest l is o s e = more_none k set rest e ∙ ap (λ (x : List Path). (x, rest)) (sym (append_none set))
more_again zero set (x ∷ xs) rest l is o s e = absurd (omega (arith, l))
more_again (suc k) set (x ∷ xs) rest l is o s e =
    let more = more_text xs ++ rest in
    let whole : more_text (x ∷ xs) ++ rest ≡ 44 ∷ (path_text x ++ more) = ap (λ (b : List ℕ). 44 ∷ b) (append_assoc (path_text x) (more_text xs) rest) in
    let last = with_last x set xs o.ordered in
    let sum = length-append set (x ∷ xs) in
    let front = length-append set (x ∷ []) in
    let few : length (set ++ x ∷ []) ≤ 6 = (let bound = o.few in omega (arith, bound, sum, front)) in
    let set_is : take 6 (with_path x set) ≡ set ++ x ∷ [] = ap (λ (b : List Path). take 6 b) last ∙ take_few 6 (set ++ x ∷ []) few in
    let all = subst (λ (b : List Path). IsPathSet b) (sym (append_assoc set (x ∷ []) xs)) o in
    ap (λ (b : List ℕ). more_at (suc k) set b) whole ∙ more_one k set (path_text x ++ more) more x (path_again x more is.0 (more_end xs rest s))
    ∙ ap (λ (b : List Path). more_at k b more) set_is ∙ more_again k (set ++ x ∷ []) xs rest (omega (arith, l)) is.1 all s e
    ∙ ap (λ (b : List Path). (b, rest)) (append_assoc set (x ∷ []) xs)

some_paths : (bytes more rest : List ℕ) (x : Path) (set : List Path) → eqb (first_byte bytes) 45 ≡ false → path_at bytes ≡ (x, more) → more_at 5 (x ∷ []) more ≡ (set, rest)
    → paths_at bytes ≡ (set, rest)
unfolding paths_at
some_paths bytes more rest x set e r m = rw (e, r, m) refl

paths_again : (set : List Path) (rest : List ℕ) → FitsSet set → Ends rest → eqb (first_byte rest) 44 ≡ false → paths_at (paths_text set ++ rest) ≡ (set, rest)
unfolding paths_at
paths_again [] rest is s e = refl
paths_again (x ∷ xs) rest is s e =
    let more = more_text xs ++ rest in
    let few : length xs ≤ 5 = (let bound = is.ordered.few in omega (arith, bound)) in
    ap paths_at (append_assoc (path_text x) (more_text xs) rest)
    ∙ some_paths (path_text x ++ more) more rest x (x ∷ xs) (path_first x more) (path_again x more is.each.0 (more_end xs rest s)) (more_again 5 (x ∷ []) xs rest few is.each.1 is.ordered s e)

-- ---- facts and spots, before a space or a newline

-- The byte is a space or a newline.
pub record IsBreak (b : ℕ) : Type 0 where
  pub digit : is_digit b ≡ false
  pub stop : eqb b 46 ≡ false
  pub comma : eqb b 44 ≡ false

pub space : IsBreak 32
space = record { digit = refl; stop = refl; comma = refl }

pub newline : IsBreak 10
newline = record { digit = refl; stop = refl; comma = refl }

flag_again : (flag : Bool) → eqb (cond flag 49 48) 49 ≡ flag
flag_again true = refl
flag_again false = refl

flag_is : (flag : Bool) → flag_word flag ≡ cond flag 49 48 ∷ []
flag_is true = refl
flag_is false = refl

set_again : (set : List Path) (b : ℕ) (rest : List ℕ) → FitsSet set → IsBreak b → paths_at (paths_text set ++ (b ∷ rest)) ≡ (set, b ∷ rest)
set_again set b rest is ends = paths_again set (b ∷ rest) is (record { digit = no_digit b rest ends.digit; stop = ends.stop }) ends.comma

tuple_from : (state must must_not rest : List ℕ) (t : Tuple) → (c d : ℕ) → eqb c 49 ≡ t.unique → eqb d 49 ≡ t.may
    → small_at state ≡ (t.state, 32 ∷ d ∷ 32 ∷ must) → paths_at must ≡ (t.must, 32 ∷ must_not) → paths_at must_not ≡ (t.must_not, rest)
    → tuple_at (116 ∷ 32 ∷ c ∷ 32 ∷ state) ≡ (plain.OfObject t, rest)
unfolding tuple_at
tuple_from state must must_not rest t c d u m s p q = rw (s, p, q, u, m) refl

tuple_parts : (word sp unique state may must must_not rest : List ℕ)
    → (word ++ unique ++ sp ++ state ++ sp ++ may ++ sp ++ must ++ sp ++ must_not) ++ rest
    ≡ word ++ (unique ++ (sp ++ (state ++ (sp ++ (may ++ (sp ++ (must ++ (sp ++ (must_not ++ rest)))))))))
tuple_parts word sp unique state may must must_not rest = simp append_assoc

tuple_again : (t : Tuple) (b : ℕ) (rest : List ℕ) → FitsTuple t → IsBreak b → tuple_at (tuple_words t ++ (b ∷ rest)) ≡ (plain.OfObject t, b ∷ rest)
tuple_again t b rest is ends =
    let must_not = paths_text t.must_not ++ (b ∷ rest) in
    let must = paths_text t.must ++ (32 ∷ must_not) in
    let c = cond t.unique 49 48 in
    let d = cond t.may 49 48 in
    let state = decimal t.state ++ (32 ∷ d ∷ 32 ∷ must) in
    let whole : tuple_words t ++ (b ∷ rest) ≡ 116 ∷ 32 ∷ c ∷ 32 ∷ state =
    tuple_parts (codes "t ") (codes " ") (flag_word t.unique) (decimal t.state) (flag_word t.may) (paths_text t.must) (paths_text t.must_not) (b ∷ rest)
    ∙ (λ i. 116 ∷ 32 ∷ (flag_is t.unique i ++ (32 ∷ (decimal t.state ++ (32 ∷ (flag_is t.may i ++ (32 ∷ must))))))) in
    ap tuple_at whole
    ∙ tuple_from state must must_not (b ∷ rest) t c d (flag_again t.unique) (flag_again t.may) (small_again t.state (32 ∷ d ∷ 32 ∷ must) is.state (no_digit 32 _ refl))
    (set_again t.must 32 must_not is.must space) (set_again t.must_not b rest is.must_not ends)

by_tuple : (bytes : List ℕ) → eqb (first_byte bytes) 110 ≡ false → eqb (first_byte bytes) 115 ≡ false → fact_at bytes ≡ tuple_at bytes
unfolding fact_at
by_tuple bytes n s = rw (n, s) refl

pub fact_again : (f : PlainFact) (b : ℕ) (rest : List ℕ) → FitsFact f → IsBreak b → fact_at (fact_words (fact_of f) ++ (b ∷ rest)) ≡ (f, b ∷ rest)
unfolding fact_at
fact_again plain.NoneYet b rest is ends = refl
fact_again plain.SomeYet b rest is ends = refl
fact_again (plain.OfObject t) b rest is ends = by_tuple (tuple_words t ++ (b ∷ rest)) refl refl ∙ tuple_again t b rest is ends

pub spot_again : (s : Spot) (b : ℕ) (rest : List ℕ) → FitsSpot s → IsBreak b → spot_at (spot_word s ++ (b ∷ rest)) ≡ (s, b ∷ rest)
unfolding spot_at
spot_again (spots.Node offset) b rest is ends =
    rw (number_is_not offset (b ∷ rest) 114 is refl, number_is_not offset (b ∷ rest) 101 is refl, number_again offset (b ∷ rest) is (no_digit b rest ends.digit)) refl
spot_again spots.Returned b rest is ends = refl
spot_again spots.Thrown b rest is ends = refl
