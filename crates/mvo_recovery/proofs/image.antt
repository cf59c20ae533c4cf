pub mod Apart
pub mod Base
pub mod One
pub mod Exact
pub mod Opening
pub mod Fronts
