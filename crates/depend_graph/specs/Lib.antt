pub mod InOrder
pub mod Network
pub mod Sets
pub mod inner
