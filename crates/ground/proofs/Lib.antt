-- Facts are a list that the lists compute (`facts_of`); a reading is `so` of Views.antt and one lemma on its container.
-- Lemmas are over `findings_of p l ≡ g`; an answer passes the model's clauses on and opens no definition.
-- Putting in order changes two fields: show facts and soundness of that record by field, and carry them over once.
-- `(result ≡ Some place) ↔ ..` needs that no two are alike: keys of a set, or nodes by ascending offsets.
-- A place that is not there holds nothing (`AreSitesOf g h []`): crates above cannot use "no holder".
-- `find` and `position` agree by two lemmas (EventNumbers.antt); that the events of an automaton differ is not used.
pub mod TellingFacts
pub mod ExactKeys
pub mod KeySets
pub mod Views
pub mod SlotPlaces
pub mod EventNumbers
pub mod Fronts
pub mod Adding
mod AscendingNumbers
mod PutInOrder
mod ThrownPlaces
mod NodePlaces
mod LoneSites
