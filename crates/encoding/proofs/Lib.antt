pub mod ByteLaws
pub mod PlaceLaws
pub mod StoreLaws
