pub mod Counting
pub mod Input
pub mod Parts
pub mod Report
