pub mod Changes
pub mod Faults
pub mod HandingOn
pub mod Laying
pub mod Lines
