pub mod FieldReads
pub mod NoPrimaryNamed
pub mod RecordReads
pub mod TableKeeps
pub mod TableReads
