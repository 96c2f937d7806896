-- What follows is proved twice: that functions add what Parts says (Adding, Doing), and that what Parts says is what the rules say of the node that is
-- looked at (Transfers, OnePremise and AllOfOne, TwoPremises and AllOfTwo).
pub mod Facts
pub mod Adding
pub mod Doing
pub mod Staying
pub mod Transfers
pub mod OnePremise
pub mod AllOfOne
pub mod TwoPremises
pub mod AllOfTwo
