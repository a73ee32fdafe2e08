pub mod Tags
pub mod Checked
pub mod Kits
pub mod KitExact
