-- What the code keeps on its way, which no reader of the public contracts needs.
pub mod Adding
pub mod FillSums
pub mod FilledRun
pub mod FilledState
pub mod Judging
pub mod KnownItem
pub mod PassState
pub mod Passed
pub mod Placing
pub mod Run
pub mod State
pub mod Sums
pub mod Table
pub mod Text
