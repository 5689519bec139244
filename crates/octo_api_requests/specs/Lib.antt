pub mod Bodies
pub mod BodyFaults
pub mod Callers
pub mod Fields
pub mod Marked
pub mod Requests
pub mod Uploads
