pub mod Cutting
pub mod Report
pub mod Printed
pub mod Turns
pub mod Stretches
