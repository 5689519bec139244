mod Laws
pub mod Printing
pub mod Serving
