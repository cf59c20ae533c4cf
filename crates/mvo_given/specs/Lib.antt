pub mod GivenWhole
pub mod GivenCalls
pub mod WholeShadowed
pub mod WholeHeld
pub mod WholeRuns
pub mod Laws
