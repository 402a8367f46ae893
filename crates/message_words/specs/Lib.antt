pub mod Characters
pub mod Codes
pub mod OnItems
pub mod OnLines
pub mod OnPages
pub mod PageTimes
pub mod Said
pub mod Warned
