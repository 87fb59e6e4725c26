pub mod Entry
pub mod Records
pub mod Table
