-- Why the table holds.
mod Cases
