-- Laws of the rows, of the steps, of what they share out, and of the turn; how wide the theorems are.
mod Rows
mod Sums
mod Steps
mod Shares
mod Turns
mod Covered
