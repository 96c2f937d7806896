-- That an instruction takes a byte and ends in the code is one pure lemma over operand forms (Sizes.antt), and no clause.
-- Division: what is divided from here on belongs, after what was divided, to the whole (`GoesBefore`); no list is taken apart.
-- Where instructions start is a list of tests, one a byte: `get_or-set_same`, `get_or-set_other`, and no order of offsets.
-- Targets of a switch: the bytes left are `entry * (count - k)`; say `mul-suc` by hand.
-- That the reading is one: cases of a body are two, a cut or its parts, and the rest is a function of the parts (`by_parts`).
-- `Spot` has a file of its own: beside other types its model made the imports go in a circle.
pub mod CodeParts
pub mod Dimensions
pub mod Divided
pub mod EachCode
pub mod Front
pub mod KnownInstructions
pub mod MachineBodies
pub mod MethodPlaces
pub mod OneReading
pub mod ParameterUnits
pub mod Sizes
pub mod SoundMethods
pub mod SpelledBodies
pub mod SwitchTables
pub mod Taken
pub mod ToldBodies
pub mod ToldCodes
pub mod HandlerParts
