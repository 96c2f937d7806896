-- Spelling and rules are apart: a table spells a class by no rule, and rules are tested on the value. No part needs another's.
-- `value_or default key members` is the flag, or false without the key: no cases in proofs.
-- Words that differ: `tells k` compares one byte by `refl`; `cc` on whole words meets its limit.
-- Digits: std's `parse-decimal` and `decimal-digits_value`, with a first digit above 0.
-- Repeats: `AreSeen seen (take i xs)`, with the test in the order of `all_differ`.
-- Base table: a function a group, equal to its definition by computing; the rules are one Bool test, read by `classes_sound`.
-- BaseChecks.antt cuts a descriptor by any guess, writes it again and compares: the cutting needs no proof.
pub mod BaseChecks
pub mod ClassParts
pub mod Differing
pub mod Finding
pub mod Lists
pub mod SoundParts
pub mod Spelling
pub mod SuperClass
pub mod Whole
pub mod OneAnswer
pub mod OneWord
