-- A look-up is `IsOnly P`: that it is the only one is shown there once; `told` and `only_test` do the rest.
-- A reason of two parts is `IsEither`; `either_then` and `either_else` close the exits of `a || b`.
-- `Says j reason` is by cases on the reason: ten equations cost ten lines. The order is one list before and one after look-ups.
-- The walk for finalizers asks the first class beside the loop, so the loop has no case for it.
-- At `Some(Ok(x))` use `rw c.in-Some-Ok.is at c.in-Some-Ok.field-0-is`.
pub mod Only
pub mod Unfollowed
pub mod Supertypes
pub mod Resolutions
pub mod Finalizing
pub mod ArrayElements
pub mod OtherKinds
pub mod Bodies
pub mod Dispatch
pub mod Undescribed
pub mod FirstReasons
pub mod FreeInstructions
