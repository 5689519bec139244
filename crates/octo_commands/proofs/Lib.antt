mod Ended
mod Printed
mod Recorded
mod Refusals
mod Suited
