-- One lemma a table, what a key stands for is what the look-up gives; KeptKeys.antt does the rest for any table.
-- Growing is one record (`IsMore`) for all tables; a number is in range exactly where something stands for it.
-- Places of different kinds differ by one `absurd (cc e)`, with the equation as an argument.
pub mod Standing
pub mod Growing
pub mod AddedKeys
pub mod KeptKeys
pub mod ExactKeys
pub mod Taking
pub mod NewNumbers
pub mod Reading
pub mod Apart
pub mod Adding
pub mod AddedItems
pub mod Making
pub mod KnownPlaces
pub mod OneConstraint
pub mod FreshKeys
