-- Rows that lie one after another: which words each has, and what a longer or a shorter region makes of them.
use Rattle.std.proofs.Common.{◌≡◌, ℕ, zero, suc, ◌+◌, ◌-◌, ◌<◌, ◌≤◌, List, [], ◌∷◌, ◌++◌, length, take, drop, get_or, Some, refl, sym, ◌∙◌, ap, subst, arith}
use Rattle.std.specs.List.{slice_get}
use Rattle.std.proofs.lemmas.List.{length-take-le, length-drop, length-append, take-take, take_all, drop_at}
use Rattle.std.proofs.lemmas.List.Sums.{sum_by-cons}
use Rattle.fact_pool.specs.Layout.{Ascend, rows_from}
use Rattle.fact_pool.specs.Rows.{word_count}

pub length-rows_from : (words : List ℕ) (start : ℕ) (ends : List ℕ) → length (rows_from words start ends) ≡ length ends
length-rows_from words start [] = refl
length-rows_from words start (end ∷ ends) = ap suc (length-rows_from words end ends)

-- where a row ends is where one more row would begin
pub end_at : (start : ℕ) (ends : List ℕ) (k : ℕ) → get_or (start ∷ ends) (k + 1) 0 ≡ get_or ends k 0
end_at start ends k = let next : k + 1 ≡ suc k = omega arith in ap (λ (n : ℕ). get_or (start ∷ ends) n 0) next

-- the row at a place ends where the ends say, and begins where the row before it ends
pub rows_from-at : (words : List ℕ) (start : ℕ) (ends : List ℕ) (k : ℕ) → k < length ends
    → slice_get (rows_from words start ends) k ≡ Some (drop (get_or (start ∷ ends) k 0) (take (get_or ends k 0) words))
rows_from-at words start [] k l = absurd (omega arith)
rows_from-at words start (end ∷ ends) zero l = refl
rows_from-at words start (end ∷ ends) (suc k) l = rows_from-at words end ends k (omega arith)

-- ---- ends that ascend

pub ascend_le : (start : ℕ) (ends : List ℕ) (total : ℕ) → Ascend start ends total → start ≤ total
ascend_le start [] total same = omega arith
ascend_le start (end ∷ ends) total up = omega (arith, up.0, ascend_le end ends total up.1)

-- a row begins before it ends, and ends within the region
pub ascend_at : (start : ℕ) (ends : List ℕ) (total k : ℕ) → Ascend start ends total → k < length ends
    → (get_or (start ∷ ends) k 0 ≤ get_or ends k 0) × (get_or ends k 0 ≤ total)
ascend_at start [] total k up l = absurd (omega arith)
ascend_at start (end ∷ ends) total zero up l = (up.0, ascend_le end ends total up.1)
ascend_at start (end ∷ ends) total (suc k) up l = ascend_at end ends total k up.1 (omega arith)

pub ascend_push : (start : ℕ) (ends : List ℕ) (total more : ℕ) → Ascend start ends total → total ≤ more → Ascend start (ends ++ more ∷ []) more
ascend_push start [] total more same l = (omega arith, refl)
ascend_push start (end ∷ ends) total more up l = (up.0, ascend_push end ends total more up.1 l)

-- ---- the region grows or shrinks

-- a row is the same in another region with the same front
pub same_range : (words others : List ℕ) (total start end : ℕ) → take total words ≡ take total others → end ≤ total
    → drop start (take end words) ≡ drop start (take end others)
same_range words others total start end same l =
    ap (drop start) (sym (take-take end total words l) ∙ ap (take end) same ∙ take-take end total others l)

pub same_rows : (words others : List ℕ) (total start : ℕ) (ends : List ℕ) → take total words ≡ take total others → Ascend start ends total
    → rows_from words start ends ≡ rows_from others start ends
same_rows words others total start [] same up = refl
same_rows words others total start (end ∷ ends) same up =
    ap (λ (row : List ℕ). row ∷ rows_from words end ends) (same_range words others total start end same (ascend_le end ends total up.1))
    ∙ ap (λ (rows : List (List ℕ)). drop start (take end others) ∷ rows) (same_rows words others total end ends same up.1)

-- one more row
pub rows_push : (words more : List ℕ) (start : ℕ) (ends : List ℕ) → Ascend start ends (length words)
    → rows_from (words ++ more) start (ends ++ (length words + length more) ∷ []) ≡ rows_from (words ++ more) start ends ++ more ∷ []
rows_push words more start [] same =
    let whole : length (words ++ more) ≡ length words + length more = length-append words more in
    let all : take (length words + length more) (words ++ more) ≡ words ++ more = take_all (length words + length more) (words ++ more) (omega arith) in
    ap (λ (row : List ℕ). row ∷ []) (ap (drop start) all ∙ drop_at words more start (sym same))
rows_push words more start (end ∷ ends) up = ap (λ (rows : List (List ℕ)). drop start (take end (words ++ more)) ∷ rows) (rows_push words more end ends up.1)

-- fewer rows
pub rows_take : (words : List ℕ) (start : ℕ) (ends : List ℕ) (n : ℕ) → rows_from words start (take n ends) ≡ take n (rows_from words start ends)
rows_take words start [] zero = refl
rows_take words start [] (suc n) = refl
rows_take words start (end ∷ ends) zero = refl
rows_take words start (end ∷ ends) (suc n) = ap (λ (rows : List (List ℕ)). drop start (take end words) ∷ rows) (rows_take words end ends n)

-- ---- how many words there are

-- all words of the region are words of rows
pub word_count_from : (words : List ℕ) (start : ℕ) (ends : List ℕ) (total : ℕ) → Ascend start ends total → total ≤ length words
    → start + word_count (rows_from words start ends) ≡ total
word_count_from words start [] total up l = omega arith
word_count_from words start (end ∷ ends) total up l =
    let later = word_count_from words end ends total up.1 l in
    let high = ascend_le end ends total up.1 in
    let front : length (take end words) ≡ end = length-take-le end words (omega arith) in
    let first : length (drop start (take end words)) ≡ length (take end words) - start = length-drop start (take end words) in
    omega (arith, up.0, sum_by-cons (λ (row : List ℕ). length row) (drop start (take end words)) (rows_from words end ends))

-- the first rows end where their words do
pub ascend_take : (words : List ℕ) (start : ℕ) (ends : List ℕ) (total n : ℕ) → Ascend start ends total → total ≤ length words
    → Ascend start (take n ends) (start + word_count (take n (rows_from words start ends)))
ascend_take words start [] total zero up l = omega arith
ascend_take words start [] total (suc n) up l = omega arith
ascend_take words start (end ∷ ends) total zero up l = omega arith
ascend_take words start (end ∷ ends) total (suc n) up l =
    let high = ascend_le end ends total up.1 in
    let front : length (take end words) ≡ end = length-take-le end words (omega arith) in
    let first : length (drop start (take end words)) ≡ length (take end words) - start = length-drop start (take end words) in
    let others = take n (rows_from words end ends) in
    let sum = sum_by-cons (λ (row : List ℕ). length row) (drop start (take end words)) others in
    let same : end + word_count others ≡ start + word_count (drop start (take end words) ∷ others) = omega (arith, up.0) in
    (up.0, subst (Ascend end (take n ends)) same (ascend_take words end ends total n up.1 l))
