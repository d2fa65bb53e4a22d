pub mod Cut
pub mod Machine
pub mod Settle
