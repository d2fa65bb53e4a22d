pub mod Filled
pub mod MapLends
pub mod Numbers
pub mod Sets
pub mod inner
