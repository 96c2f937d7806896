-- `is_class_name`: `join_with_byte-slice_split` one way, an induction over the parts the other (ClassNames.antt).
-- Descriptors: functions say which length of front has the property (`IsFrontLength`); a field's has no such front (`one_field`).
-- A byte test is a function of its own, then `all_from_yields_List`: a chain under `&&` stays open.
-- The opcode table: a function a part, none above 2.2 seconds; lent whole it took 218.
-- `Display` of `Reason` is written by hand: derived on so many variants it takes over a minute.
-- A definition over two spelled bytes holds of n and of n + 65536: bound the operand.
pub mod ClassNames
pub mod CodePlaces
pub mod FieldKinds
pub mod Fields
pub mod Lengths
pub mod MethodKinds
pub mod Parameters
pub mod SoundUses
pub mod SumFronts
pub mod TableParts
pub mod ViewedItems
