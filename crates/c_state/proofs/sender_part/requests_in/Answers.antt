-- Word by word.
use Rattle.c_state.proofs.Requests.{requests_made}
use native.Mathlib.Omega.{arith}
use Rattle.c_state.proofs.sender_part.requests_in.Goals as goal

pub bounds-words-0 : goal.bounds-words-0
bounds-words-0 c = omega (arith, c.requires)

pub bounds-words-0-2 : goal.bounds-words-0-2
bounds-words-0-2 c = omega (arith, c.requires)

pub bounds-words-1 : goal.bounds-words-1
bounds-words-1 c = omega (arith, c.requires)

pub bounds-words-1-2 : goal.bounds-words-1-2
bounds-words-1-2 c = omega (arith, c.requires)

pub bounds-words-2 : goal.bounds-words-2
bounds-words-2 c = omega (arith, c.requires)

pub bounds-words-2-2 : goal.bounds-words-2-2
bounds-words-2-2 c = omega (arith, c.requires)

pub bounds-words-3 : goal.bounds-words-3
bounds-words-3 c = omega (arith, c.requires)

pub bounds-words-3-2 : goal.bounds-words-3-2
bounds-words-3-2 c = omega (arith, c.requires)

pub bounds-words-4 : goal.bounds-words-4
bounds-words-4 c = omega (arith, c.requires)

pub bounds-words-4-2 : goal.bounds-words-4-2
bounds-words-4-2 c = omega (arith, c.requires)

pub bounds-words-5 : goal.bounds-words-5
bounds-words-5 c = omega (arith, c.requires)

pub bounds-words-5-2 : goal.bounds-words-5-2
bounds-words-5-2 c = omega (arith, c.requires)

pub bounds-words-6 : goal.bounds-words-6
bounds-words-6 c = omega (arith, c.requires)

pub bounds-words-6-2 : goal.bounds-words-6-2
bounds-words-6-2 c = omega (arith, c.requires)

pub bounds-words-7 : goal.bounds-words-7
bounds-words-7 c = omega (arith, c.requires)

pub bounds-words-7-2 : goal.bounds-words-7-2
bounds-words-7-2 c = omega (arith, c.requires)

pub returns : goal.returns
returns c =
    requests_made _ c.requires
    c.first_in.ensures
    c.second_in.ensures
    c.first_in-2.ensures
    c.second_in-2.ensures
    c.first_in-3.ensures
    c.second_in-3.ensures
    c.first_in-4.ensures
    c.second_in-4.ensures
    c.first_in-5.ensures
    c.second_in-5.ensures
    c.first_in-6.ensures
    c.second_in-6.ensures
    c.first_in-7.ensures
    c.second_in-7.ensures
    c.first_in-8.ensures
    c.second_in-8.ensures
