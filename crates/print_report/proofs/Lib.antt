pub mod Banding
pub mod Cutting
pub mod Lining
pub mod Masking
pub mod Paging
pub mod Parting
