pub mod Groups
pub mod KeyValue
pub mod Loading
pub mod Parts
pub mod Rows
pub mod WordValues
