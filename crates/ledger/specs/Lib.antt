pub mod Values
pub mod Ledger
pub mod Spans
pub mod Promise
pub mod Canon
