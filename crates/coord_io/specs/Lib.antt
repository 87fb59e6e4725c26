pub mod Faults
pub mod Files
pub mod Goes
pub mod Memory
pub mod Outside
pub mod Quiet
pub mod Refusals
pub mod Written
