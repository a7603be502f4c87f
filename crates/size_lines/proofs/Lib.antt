pub mod PlainLines
pub mod Words
