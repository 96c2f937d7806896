-- What is found for each of a list is one record (Found.antt), for methods that are entered and for described ones; landings are added without order.
-- All but the last lemmas speak of the ground's program; Entering, Describing and Throwing lead to those of a subject.
mod Found
mod Landing
mod Throwing
mod Entering
mod Describing
mod Starting
mod Alike
