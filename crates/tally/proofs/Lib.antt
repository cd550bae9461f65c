mod Countings
mod Inputs
mod Pushes
