-- This crate's own proofs alone rest on this module.
-- How lists lie in memory: links, of which each names the next one of its list, and the last one names the first; and a head for each list.
use Rattle.std.specs.Prelude.{◌≡◌, ◌==◌, ℕ, zero, suc, ◌-◌, ◌≤◌, List, [], ◌∷◌, Some, length, nat_lt, slice_get, slice_index_or, if◌then◌else◌}
use Rattle.chained_lists.specs.declared.links.Head.{Head}
use Rattle.chained_lists.specs.declared.links.Link.{Link}
use Rattle.chained_lists.specs.Entries.{Entry, HasNoneFrom, IsNext, IsPlace, entry}

-- The head of a list, which names none where there is no list.
abbrev pub head_at : List Head → ℕ → Head
head_at heads number = slice_index_or heads number (record { last = 0 })

-- Of the name in the link at a place, what it says of the values behind it: a name that leads back, to the first value of the list, says that there is none.
abbrev pub later_name : ℕ → ℕ → ℕ
later_name place name = if nat_lt (suc place) name then name else 0

-- ---- the entries

-- The number of the first list whose last link is named so.
abbrev pub ended_by : List Head → ℕ → ℕ
ended_by [] name = 0
ended_by (head ∷ heads) name = if head.last == name then 0 else suc (ended_by heads name)

-- The number of the list of the link at a place, behind which this name is the next one: that of the next link, or of the list that ends with it.
abbrev pub number_of : List Head → ℕ → ℕ → List Entry → ℕ
number_of heads place zero later = ended_by heads (suc place)
number_of heads place (suc next) later = (slice_index_or later (next - suc place) (entry 0 0)).number

-- The entries of links, the first of which stands at this place.
abbrev pub entries_from : List Head → ℕ → List Link → List Entry
entries_from heads place [] = []
entries_from heads place (link ∷ links) =
    let later = entries_from heads (suc place) links in entry (number_of heads place (later_name place link.next) later) link.value ∷ later

abbrev pub entries_of : List Head → List Link → List Entry
entries_of heads links = entries_from heads 0 links

-- ---- what names name

-- The name is that of the next value in a list, from a place on; or 0 where there is none.
pub record IsNamed (es : List Entry) (number first name : ℕ) : Type 0 where
  pub next : (place : ℕ) → name ≡ suc place → IsNext es number first place
  pub end : name ≡ 0 → HasNoneFrom es number first

-- The name is that of the last value in a list; or 0 where there is none.
pub record IsLastNamed (es : List Entry) (number name : ℕ) : Type 0 where
  pub there : (place : ℕ) → name ≡ suc place → IsPlace es number place
  pub later : HasNoneFrom es number name

-- The link has the value of the entry at its place, and names the next one, or else the first one of its list.
pub record IsLinked (es : List Entry) (place : ℕ) (link : Link) (e : Entry) : Type 0 where
  pub value : link.value ≡ e.value
  pub next : IsNamed es e.number (suc place) (later_name place link.next)
  pub round : link.next ≤ suc place → IsNamed es e.number 0 link.next

-- Heads and links are those of the entries.
pub record AreChained (es : List Entry) (heads : List Head) (links : List Link) : Type 0 where
  pub count : length links ≡ length es
  pub linked : (k : ℕ) (link : Link) (e : Entry) → slice_get links k ≡ Some link → slice_get es k ≡ Some e → IsLinked es k link e
  pub lasts : (number : ℕ) → IsLastNamed es number (head_at heads number).last

-- ---- one more

-- A link at the end of its list, which names the first one.
abbrev pub new_link : (value first : ℕ) → Link
new_link value first = record { value = value; next = first }

-- The link of the first name names the second one, and the others are as they were.
pub record IsLed (old new : List Link) (from to : ℕ) : Type 0 where
  pub count : length new ≡ length old
  pub led : (k : ℕ) (link : Link) → suc k ≡ from → slice_get new k ≡ Some link → link.next ≡ to
  pub others : (k : ℕ) (link was : Link) → (suc k ≡ from → ⊥) → slice_get new k ≡ Some link → slice_get old k ≡ Some was → link.next ≡ was.next
  pub values : (k : ℕ) (link was : Link) → slice_get new k ≡ Some link → slice_get old k ≡ Some was → link.value ≡ was.value
