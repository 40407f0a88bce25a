pub mod Alike
pub mod Compared
pub mod Histories
pub mod Relates
pub mod SevenEvents
pub mod Sofar
pub mod Turned
