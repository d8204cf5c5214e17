pub mod Scene
pub mod Cases
pub mod Again
