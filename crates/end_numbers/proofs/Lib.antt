-- ReadRows: the fact of a row, where the row is that of a fact. KeyRows: keys that are rows. Then OneEnd: keys differ where their ends do, and ends stay
-- while rows are added; Adding: a key more; and ReadEnds: the end of a number.
pub mod ReadRows
pub mod KeyRows
pub mod OneEnd
pub mod Adding
pub mod ReadEnds
