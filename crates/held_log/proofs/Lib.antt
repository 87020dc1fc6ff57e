-- Why the theorems on held notes hold of the stream.
mod Standing
mod Sound
mod Positions
mod Stretches
mod Example
mod Covered
mod Cases
