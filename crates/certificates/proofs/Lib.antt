-- Sums of the lengths of lines; and that a text is read one way.
pub mod Fronts
pub mod TextLaws
pub mod Claims
