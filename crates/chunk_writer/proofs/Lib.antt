pub mod Cuts
pub mod Puts
pub mod Lines
pub mod Answers
pub mod Bodies
pub mod ReadsBack
pub mod Demands
