pub mod LightTurns
pub mod menu
pub mod pointing
pub mod prompt
pub mod ready
pub mod typing
