-- The words of a log that follows the history of a host.
pub mod Story
