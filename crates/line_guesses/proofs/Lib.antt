-- A loop of a guess goes on with what is left, so each has a lemma for one step and one for its end. That a guess is right is shown part by part,
-- each before what may follow it.
pub mod Steps
pub mod Repeated
pub mod Again
pub mod FactsAgain
pub mod LinesAgain
pub mod Bounds
