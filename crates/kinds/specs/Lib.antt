pub mod Bands
pub mod Calendar
pub mod RawCount
pub mod Refusals
pub mod Rows
pub mod Values
pub mod RowsLemmas
pub mod Dates
