-- The tests of the numbers, one after the other.
mod Numbers
