mod Values
mod Moves
mod Dealing
mod Ending
