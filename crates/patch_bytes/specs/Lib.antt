pub mod Number
pub mod Rounding
pub mod ByteString
pub mod Bytes
pub mod Lending
pub mod Memory
