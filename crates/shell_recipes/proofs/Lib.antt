mod Ending
mod Folding
mod Assembling
mod Plain
mod Runs
