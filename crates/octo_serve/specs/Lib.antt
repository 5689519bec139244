pub mod Around
pub mod Doors
pub mod Ends
pub mod Hosted
pub mod Own
pub mod Rule
pub mod Steps
pub mod Views
