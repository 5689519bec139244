pub mod Comparisons
pub mod Edits
pub mod Kept
pub mod Next
pub mod Pairs
pub mod Restored
pub mod Sorted
