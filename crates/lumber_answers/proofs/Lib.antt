pub mod Sending
pub mod Laying
