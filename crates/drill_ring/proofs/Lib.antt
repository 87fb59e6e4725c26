pub mod Digits
pub mod Counted
pub mod Joined
pub mod Ring
pub mod RingCurrents
pub mod FewRows
