pub mod Fixed
pub mod Items
pub mod Pages
pub mod Refusals
pub mod Replies
pub mod Shown
pub mod Texts
pub mod Tokens
