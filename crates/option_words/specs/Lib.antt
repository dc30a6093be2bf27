pub mod Values
pub mod Grammar
pub mod Lines
pub mod Command
pub mod Finding
