pub mod Drill
pub mod DrillCurrents
