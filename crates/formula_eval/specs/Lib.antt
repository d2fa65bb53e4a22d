pub mod Mean
pub mod inner
