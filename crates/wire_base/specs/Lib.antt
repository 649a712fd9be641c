pub mod Decimal
pub mod Extent
pub mod KeyOrder
pub mod Path
pub mod Ranges
pub mod Text
