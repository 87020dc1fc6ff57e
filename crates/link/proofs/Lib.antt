-- The turns, the halves of a step, the step and the run.
mod Turning
mod Resting
mod Halving
mod Running
