pub mod Bests
mod Pickups
mod Rises
mod RuleLaws
mod HalfLaws
mod Splits
