pub mod PlaceLemmas
pub mod TurnLemmas
pub mod StepLemmas
pub mod FindLemmas
pub mod NoneFound
pub mod OneObstacle
pub mod OneAnswer
pub mod Firsts
pub mod SomeNext
pub mod SomeDifference
pub mod SomeAnswer
mod Examples
