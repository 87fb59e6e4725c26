mod ClapWalk
mod KeptWords
mod NameLaws
mod NumberLaws
mod WordKinds
