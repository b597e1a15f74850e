pub mod StepsBack
pub mod Trails
pub mod Acting
pub mod Walks
