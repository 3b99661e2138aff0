pub mod Names
pub mod Spells
pub mod Values
pub mod Shows
pub mod Typed
pub mod Usual
