pub mod Blobs
pub mod Directory
pub mod Laws
pub mod Pages
pub mod Renewed
pub mod Rows
pub mod Signature
