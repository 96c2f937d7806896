pub mod OnlyAnswers
