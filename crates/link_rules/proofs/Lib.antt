-- Runs computed.
mod Cases
-- Steps done.
mod Steps
-- The bound: due times, the receiver's timer, a payload, a step, a run.
mod Window
mod Times
mod Timed
mod Hearing
mod Stepping
mod Bound
mod Covered
-- No call is refused: payloads, what a write leaves unwritten, a stream's calls, a run.
mod Room
mod Emptied
mod Sound
mod Refused
