pub mod Brought
