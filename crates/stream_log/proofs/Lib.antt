-- Why a stream over lists of calls is its ends over their own.
mod Writing
mod Runs
mod Taking
mod Answering
mod Refusing
mod More
mod Counting
mod Consoles
mod Sentence
mod Covered
mod Example
