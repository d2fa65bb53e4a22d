-- How the code keeps its books; no definition beside this folder speaks of it.
pub mod Beginning
pub mod Begun
pub mod Driving
pub mod KeyFeed
pub mod Lent
pub mod Opened
pub mod OptionAnswers
pub mod Passing
pub mod Sending
pub mod Telling
pub mod Working
