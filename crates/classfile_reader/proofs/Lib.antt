-- Reading back: the place where a reading ends is existential, so no proof computes offsets (Classes.antt).
-- All fields of a class at once hit the step limit: lemmas of a few fields each, with the text so far as `front`.
-- Soundness is one list of places; a part answers the first breach of its part, and `goes_on` and `stops` carry it over `++`.
-- A use that looks at earlier items is proved for any list of which `IsRepeat` is known; the function needs no list.
-- Repeats: a text has the number of the index by which it was asked for first, so two of one number have one text (`one_text`);
-- members are compared by pairs of numbers, and what is known of the earlier ones goes on as texts are numbered (`still_earlier`).
-- `IsNotBefore` is a `data`: as an abbreviation its order was not found from the goal. Ascending.antt is over any order.
-- That places ascend: each part spans two offsets (`Spans`), and two parts are joined by one lemma.
pub mod Loop
pub mod Entries
pub mod Classes
pub mod ClassParts
pub mod OneSpelling
pub mod FirstPlaces
pub mod Ascending
pub mod TextNumbers
pub mod Repeats
pub mod Refusals
