pub mod Described
pub mod KnownEvents
pub mod Gathering
pub mod Extending
pub mod Visits
pub mod AllVisits
pub mod Concluding
