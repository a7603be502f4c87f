pub mod Unquoted
pub mod Items
pub mod Tables
pub mod Compared
pub mod Places
pub mod Agreeing
pub mod Demands
pub mod EqualExamples
