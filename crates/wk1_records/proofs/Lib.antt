pub mod BitsRead
pub mod Ends
pub mod Fronts
pub mod Marks
pub mod Words
